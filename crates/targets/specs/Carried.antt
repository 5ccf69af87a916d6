-- Points that sheets of n variables can hold.
use Rattle.std.specs.Prelude.{◌≡◌, true, ℕ, length}
use Rattle.bounds.specs.Bounds.{greatest_exponent}
use Rattle.points.specs.Points.{Exponents, exponents_within}
use Rattle.keys.specs.Keys.{key_of}

-- n exponents, none over the greatest
pub record Carried (n : ℕ) (α : Exponents) : Type 0 where
  pub sized : length α ≡ n
  pub within : exponents_within greatest_exponent α ≡ true

-- a number that is the key of such a point
pub record CarriedKey (n key : ℕ) : Type 0 where
  pub point : Exponents
  pub carried : Carried n point
  pub keyed : key ≡ key_of point
