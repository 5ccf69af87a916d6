-- Keys: the exponents of a point as one number, so that two points are compared at once.
use Rattle.std.specs.Prelude.{[], ◌∷◌, ℕ, ◌+◌, ◌*◌}
use Rattle.points.specs.Points.{Exponents}

-- the exponents are its digits to the base 256, the first the lowest
unfoldable pub key_of : Exponents → ℕ
key_of [] = 0
key_of (a ∷ α) = a + key_of α * 256
