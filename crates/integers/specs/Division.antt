-- Division: by a count, towards minus infinity, and the shares of an error.
use Rattle.std.specs.Prelude.{cond, ℕ, zero, suc, ◌-◌, ◌/◌, ◌%◌, ltb, ℤ, pos, negsuc, ◌+ℤ◌}

-- "the floor of error / c (towards minus infinity)", for c at least 1
unfoldable pub floor_div : ℤ → ℕ → ℤ
floor_div (pos a) c = pos (a / c)
floor_div (negsuc a) c = negsuc (a / c)

-- "The remainder, 0 to c − 1"
unfoldable pub floor_mod : ℤ → ℕ → ℕ
floor_mod (pos a) c = a % c
floor_mod (negsuc a) c = c - suc (a % c)

-- what the k-th of c slots, from 0, gets of an error: the remainder "goes one each to the first slots"
unfoldable pub share : ℤ → ℕ → ℕ → ℤ
share e c k = cond (ltb k (floor_mod e c)) (floor_div e c +ℤ pos 1) (floor_div e c)

-- what m slots from the k-th on get together
unfoldable pub shares : ℤ → ℕ → ℕ → ℕ → ℤ
shares e c k zero = pos 0
shares e c k (suc m) = share e c k +ℤ shares e c (suc k) m
