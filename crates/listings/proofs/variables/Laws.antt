-- Laws of how many variables a sheet has by itself.
use mathlib.Core.Path.{◌≡◌}
use mathlib.Core.Bool.{true, and-eq-true_iff}
use Prim.Native.Nat.{ℕ, ◌≤◌}
use lib.Dec.{leb}
use borrow.Author.Tests.{leb-true}
use Rattle.bounds.specs.Bounds.{most_variables}
use Rattle.listings.specs.Variables.{variables_right}

pub right_variables : (n : ℕ) → variables_right n ≡ true → (1 ≤ n) × (n ≤ most_variables)
unfolding variables_right
right_variables n h =
    let both = (and-eq-true_iff (leb 1 n) (leb n most_variables)).0 h in
    (leb-true _ _ both.0, leb-true _ _ both.1)
