-- Points: the exponents of a monomial, one for each variable, and what is asked of them.
use Rattle.std.specs.Prelude.{Bool, true, false, cond, ◌&&◌, List, [], ◌∷◌, ◌++◌, ◌≡◌, ℕ, ◌+◌, ◌-◌, ◌/◌, ◌%◌, ◌^◌, ◌<◌, eqb, ltb, leb, length, get_or, set, take, replicate}
use Rattle.std.specs.List.{list_all}
use Rattle.std.specs.Cmp.Lexicographic.{pointwise}
use Rattle.bounds.specs.Bounds.{most_variables}
use Rattle.points.specs.Lists.{table}
use Rattle.points.specs.declared.points.Point.{Point}

abbrev pub Exponents : Type 0
Exponents = List ℕ

-- the exponents of a point by value: what stands in its first n places
unfoldable pub exponents : Point → Exponents
exponents p = take p.n p.exps

-- numbers in the eight places that there are for variables, zeros after them
unfoldable pub padded : List ℕ → List ℕ
padded x = x ++ replicate (most_variables - length x) 0

-- the point by value with given exponents
unfoldable pub point_of : Exponents → Point
point_of α = record { exps = padded α; n = length α }

-- "points, each of n exponent bytes": the n bytes from a place on
unfoldable pub bytes_at : List ℕ → ℕ → ℕ → Exponents
bytes_at s at n = table (λ i. get_or s (at + i) 0) n

-- the same exponents
unfoldable pub same_point : Exponents → Exponents → Bool
same_point v w = pointwise eqb v w

-- "Points rise strictly, compared by the first variable first": w is above v
unfoldable pub rises_to : Exponents → Exponents → Bool
rises_to [] w = false
rises_to (a ∷ v) [] = false
rises_to (a ∷ v) (b ∷ w) = cond (ltb a b) true (cond (ltb b a) false (rises_to v w))

-- half the sum of two exponents is whole
unfoldable pub even_sum : ℕ → ℕ → Bool
even_sum a b = eqb ((a + b) % 2) 0

-- "every v + w coordinate is even", of points with as many variables
unfoldable pub has_midpoint : Exponents → Exponents → Bool
has_midpoint v w = pointwise even_sum v w

-- "u is the midpoint"
unfoldable pub midpoint_of : Exponents → Exponents → Exponents
midpoint_of [] w = []
midpoint_of (a ∷ v) [] = []
midpoint_of (a ∷ v) (b ∷ w) = (a + b) / 2 ∷ midpoint_of v w

-- "bit i (value 2^i) says that variable i is never negative"
abbrev pub Masked : ℕ → ℕ → Type 0
Masked mask i = mask / 2 ^ i % 2 ≡ 1

-- "A point whose odd exponents all belong to masked variables"
abbrev pub OddsMasked : ℕ → Exponents → Type 0
OddsMasked mask α = (i : ℕ) → i < length α → get_or α i 0 % 2 ≡ 1 → Masked mask i

-- the same as a test: the lowest bit is the first variable's, and half the mask is that of the others
unfoldable pub keeps_sign : ℕ → Exponents → Bool
keeps_sign mask [] = true
keeps_sign mask (e ∷ α) = leb (e % 2) (mask % 2) && keeps_sign (mask / 2) α

-- a "pure power": exponent e at variable i of n, and 0 at the others
unfoldable pub pure_at : ℕ → ℕ → ℕ → Exponents
pure_at n i e = set (replicate n 0) i e

-- no exponent is over the limit
unfoldable pub exponents_within : ℕ → Exponents → Bool
exponents_within limit α = list_all (λ e. leb e limit) α
