-- Laws of bounds: a number within ± a limit, or beyond.
use mathlib.Core.Path.{◌≡◌, refl}
use mathlib.Core.Bool.{Bool, true, false, not}
use Prim.Native.Nat.{ℕ, ◌<◌, ◌≤◌}
use lib.Dec.{ltb, leb}
use lib.IntN.{ℤ, pos, negsuc, nat_abs}
use lib.Signed.{lt_z, ◌≤ℤ◌}
use borrow.Author.Tests.{ltb-false, le-ltb, lt-ltb, leb-true, leb-false}
use Rattle.bounds.specs.Bounds.{beyond}

pub over_bound : (limit : ℕ) (x : ℤ) → limit < nat_abs x → beyond limit x ≡ true
unfolding beyond
over_bound limit x h = lt-ltb limit (nat_abs x) h

pub within_bound : (limit : ℕ) (x : ℤ) → beyond limit x ≡ false → nat_abs x ≤ limit
unfolding beyond
within_bound limit x h = ltb-false limit (nat_abs x) h

pub bound_within : (limit : ℕ) (x : ℤ) → nat_abs x ≤ limit → beyond limit x ≡ false
unfolding beyond
bound_within limit x h = le-ltb limit (nat_abs x) h

-- of a number that is not negative
pub over_nonneg : (limit : ℕ) (x : ℤ) → pos 0 ≤ℤ x → beyond limit x ≡ lt_z (pos limit) x
unfolding beyond
over_nonneg limit (pos n) h = refl
over_nonneg limit (negsuc n) h = absurd h.le

-- over a limit is not within it
pub over : (limit m : ℕ) → ltb limit m ≡ not (leb m limit)
over limit m = go (leb m limit) refl
  where
    go : (t : Bool) → leb m limit ≡ t → ltb limit m ≡ not t
    go true h = le-ltb limit m (leb-true m limit h)
    go false h = lt-ltb limit m (leb-false m limit h)
