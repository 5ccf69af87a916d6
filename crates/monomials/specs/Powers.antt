-- Powers, monomials at whole numbers, which numbers a mask allows, and exact numbers up to the greatest value.
use Rattle.std.specs.Prelude.{true, cond, ◌↔◌, List, [], ◌∷◌, ◌≡◌, ℕ, zero, suc, ◌-◌, ◌%◌, ◌≤◌, ◌<◌, leb, ltb, ℤ, pos, nat_abs, ◌*ℤ◌, get_or, ◌≤ℤ◌, Option, Some, None}
use Rattle.bounds.specs.Bounds.{greatest_value}
use Rattle.points.specs.Points.{Exponents, Masked, keeps_sign}

-- "A power with exponent 0 is one, also at zero; otherwise it is the base times the power with exponent one less."
unfoldable pub power_of : ℤ → ℕ → ℤ
power_of x zero = pos 1
power_of x (suc e) = x *ℤ power_of x e

-- a monomial at a list of numbers, one for each variable: the product of their powers
unfoldable pub monomial_of : List ℤ → Exponents → ℤ
monomial_of x [] = pos 1
monomial_of [] (e ∷ α) = pos 1
monomial_of (x ∷ xs) (e ∷ α) = power_of x e *ℤ monomial_of xs α

-- variable i of a list of numbers; one that the list does not have counts as 1, as in a monomial
abbrev pub variable : List ℤ → ℕ → ℤ
variable x i = get_or x i (pos 1)

-- "masked variables at least 0"
abbrev pub Allowed : ℕ → List ℤ → Type 0
Allowed mask x = (i : ℕ) → Masked mask i → pos 0 ≤ℤ variable x i

-- that is, no monomial whose odd exponents all belong to masked variables is negative
abbrev pub AllowedExactly : Type 0
AllowedExactly =
    (mask : ℕ) (x : List ℤ)
    → Allowed mask x ↔ ((α : Exponents) → keeps_sign mask α ≡ true → pos 0 ≤ℤ monomial_of x α)

-- what each answer says of the exact number z: a value is z, "at most 2^56" in absolute value; too large is "over 2^56"
abbrev pub Represents : Option ℤ → ℤ → Type 0
Represents (Some x) z = (x ≡ z) × (nat_abs z ≤ greatest_value)
Represents None z = greatest_value < nat_abs z

-- the one answer that says so
unfoldable pub within : ℤ → Option ℤ
within z = cond (leb (nat_abs z) greatest_value) (Some z) None

-- ---- numbers and exponents as the code counts

-- the number that stands for all that are too large
abbrev pub saturation : ℤ
saturation = pos 9223372036854775807

-- the number itself, or else the one that stands for it: a product with that is too large unless the other factor is
-- zero, since "A zero offset under a positive exponent makes its term zero"
unfoldable pub saturated : ℤ → ℤ
saturated z = cond (leb (nat_abs z) greatest_value) z saturation

-- an exponent of the same power: the powers of 0, 1 and −1 go by parity
unfoldable pub reduced : ℤ → ℕ → ℕ
reduced x e = cond (ltb e 3) e (cond (ltb 1 (nat_abs x)) e (2 - e % 2))
