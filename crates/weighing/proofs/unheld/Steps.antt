-- The steps of check 16.
use Rattle.std.proofs.Common.{None}
use mathlib.Core.Path.{◌≡◌, refl}
use mathlib.Core.Bool.{Bool, true, false}
use mathlib.Core.List.{List}
use Prim.Native.Nat.{ℕ, ◌≤◌, ◌<◌}
use native.Mathlib.Omega.{arith}
use lib.Dec.{eqb}
use borrow.Author.Tests.{eq-eqb, eqb-true}
use Rattle.bounds.specs.Bounds.{greatest_exponent}
use Rattle.answers.specs.Searches.{first}
use Rattle.points.specs.Points.{Exponents, exponents_within}
use Rattle.keys.specs.Keys.{key_of}
use Rattle.squares.specs.Rows.{slots}
use Rattle.sheets.specs.Layout.{row_count, shape_of}
use Rattle.rows.specs.ProofSheet.{rows_of}
use Rattle.limits.specs.LimitsSheet.{limit_in}
use Rattle.limits.specs.LimitChecks.{RightLimits}
use Rattle.limits.specs.declared.limits_sheet.Limits.{Limits}
use Rattle.limits.proofs.limit_checks.Laws.{power_low}
use Rattle.claims.specs.ClaimChecks.{ClaimFacts}
use Rattle.targets.specs.Carried.{Carried, CarriedKey}
use Rattle.targets.proofs.Carried.{term_carried, constant_carried, pure_carried}
use Rattle.sharing.specs.Sharing.{count}
use Rattle.sharing.specs.Slots.{holds_point}
use Rattle.sharing.proofs.slots.Laws.{point_held, point_unheld, all_slots}
use Rattle.weighing.specs.Unheld.{point_for}
use Rattle.weighing.proofs.unheld.Laws.{point_each}

-- ---- the points that are looked at

module _ (c : List ℕ) (limits : Limits) (n t i : ℕ) where
  -- powers are low
  low : RightLimits limits → (j : ℕ) → (limit_in limits j).power ≤ greatest_exponent
  low right j = omega (arith, power_low (limit_in limits j) (right.right j))

  module _ (f : ClaimFacts c n t) (right : RightLimits limits) where
    point_carried : Carried n (point_for c limits n t i)
    point_carried =
        point_each c limits n t i (Carried n) (term_carried c n t i f) (constant_carried n)
        (λ j. pure_carried n j (limit_in limits j).power (low right j))

    pub point_within : exponents_within greatest_exponent (point_for c limits n t i) ≡ true
    point_within = point_carried.within

    pub key_carried : CarriedKey n (key_of (point_for c limits n t i))
    key_carried = record { point = point_for c limits n t i; carried = point_carried; keyed = refl }

-- ---- a point with no slot, and one that is in no row

module _ (s : List ℕ) (α : Exponents) where
  pub not_in_row : (j : ℕ) → j < row_count s → eqb (count α (slots (rows_of s))) 0 ≡ true
      → holds_point s (shape_of s) α j ≡ false
  not_in_row j l h = go (holds_point s (shape_of s) α j) refl
    where
      go : (b : Bool) → holds_point s (shape_of s) α j ≡ b → b ≡ false
      go true e =
          let m = rw (all_slots s (shape_of s) refl) at (point_held s (shape_of s) α j l e) in
          absurd (omega (arith, eqb-true (count α (slots (rows_of s))) 0 h))
      go false e = refl

  pub in_no_row : first (holds_point s (shape_of s) α) (row_count s) ≡ None → eqb (count α (slots (rows_of s))) 0 ≡ true
  in_no_row h =
      eq-eqb (count α (slots (rows_of s))) 0 (rw (all_slots s (shape_of s) refl) at (point_unheld s (shape_of s) α h))
