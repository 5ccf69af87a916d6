-- Sharing the error: on a list of slots alone, points with proposed weights in row order. τ gives each point's target.
use Rattle.std.specs.Prelude.{cond, [], ◌∷◌, ◌++◌, ℕ, suc, ◌+◌, ℤ, ◌+ℤ◌, ◌-ℤ◌}
use Rattle.integers.specs.Division.{share}
use Rattle.points.specs.Points.{Exponents, same_point}
use Rattle.squares.specs.Sums.{Sum, coefficient}

-- "With c slots": how many slots are at a point
unfoldable pub count : Exponents → Sum → ℕ
count α [] = 0
count α (t ∷ L) = cond (same_point α t.0) (suc (count α L)) (count α L)

-- "the error is the target minus the sum of proposed weights there"
unfoldable pub error_at : (Exponents → ℤ) → Sum → Exponents → ℤ
error_at τ L α = τ α -ℤ coefficient α L

-- a slot's rank at its point: the slots there of the rows before its own, and those of its own row before it
unfoldable pub rank_of : Exponents → Sum → Sum → ℕ
rank_of α before own = count α before + count α own

-- the weight x of a slot at α with its share, which goes by the slot's rank
unfoldable pub shifted_weight : (Exponents → ℤ) → Sum → ℕ → Exponents → ℤ → ℤ
shifted_weight τ L rank α x = x +ℤ share (error_at τ L α) (count α L) rank

-- of all slots L, the last ones shifted; `before` are those before them
unfoldable pub shifted_from : (Exponents → ℤ) → Sum → Sum → Sum → Sum
shifted_from τ L before [] = []
shifted_from τ L before (t ∷ last) =
    (t.0, shifted_weight τ L (count t.0 before) t.0 t.1) ∷ shifted_from τ L (before ++ (t ∷ [])) last

-- every slot with its shifted weight
unfoldable pub shifted_slots : (Exponents → ℤ) → Sum → Sum
shifted_slots τ L = shifted_from τ L [] L
