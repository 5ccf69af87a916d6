-- Laws of 16 to 19: that they are passed, point by point and row by row, and what it says of the shifted rows.
use mathlib.Core.Path.{◌≡◌, ◌∙◌}
use mathlib.Core.Bool.{true, false}
use mathlib.Core.List.{List}
use Prim.Native.Nat.{ℕ, ◌<◌}
use native.Mathlib.Omega.{arith}
use lib.IntN.{ℤ}
use lib.Signed.{◌≤ℤ◌}
use Rattle.integers.specs.Words.{Bytes}
use Rattle.answers.specs.Answers.{accepted, Passes, Short}
use Rattle.answers.proofs.answers.Laws.{passes_then, then_on, accepted_passes, short_then}
use Rattle.points.specs.Lists.{All}
use Rattle.points.specs.Points.{Exponents}
use Rattle.squares.specs.Rows.{slots, Holds}
use Rattle.squares.specs.Decomposition.{AddsUp}
use Rattle.sheets.specs.Layout.{variables, term_count, row_count}
use Rattle.sheets.specs.ClaimSheet.{with_floor}
use Rattle.rows.specs.ProofSheet.{triple_for}
use Rattle.checks.specs.ProofChecks.{Within}
use Rattle.checks.proofs.proof_checks.Laws.{rows_counted}
use Rattle.targets.specs.Targets.{at_floor, target_of}
use Rattle.targets.specs.declared.targets.Aim.{Aim}
use Rattle.targets.proofs.targets.Laws.{targets_floored, targets_other, targets_fall}
use Rattle.sharing.specs.Shifts.{shifted_row, shifted_rows, CheckedSheets}
use Rattle.sharing.proofs.Lighter.{row_light}
use Rattle.sharing.proofs.shifts.Laws.{rows_all, rows_each}
use Rattle.judgements.specs.Judgements.{judged_as}
use Rattle.judgements.proofs.judgements.Laws.{each_holds, holds_accepted, judged_passed, judged_accepted, judged_short}
use Rattle.weighing.specs.Unheld.{point_count, unheld}
use Rattle.weighing.specs.Exact.{weights_for, AllWithin}
use Rattle.weighing.specs.Weighed.{rows_judged, weighed_answer}
use Rattle.weighing.proofs.unheld.Laws.{none_passes, passes_none, unheld_floored, unheld_passes, unheld_passed, met_adds, adds_met, unheld_short}

-- ---- 16 to 19 are passed exactly where no point is unheld that is looked at, and every row is judged to hold

module _ (limit : ℕ) (c s : List ℕ) (a : Aim) where
  abbrev pub τ : Exponents → ℤ
  τ = target_of c a

  abbrev points : ℕ
  points = point_count (variables c) (term_count c)

  pub tests_passed : Passes (weighed_answer limit c s a)
      → ((i : ℕ) → i < points → unheld c s a i ≡ false)
      × ((i : ℕ) → i < row_count s → judged_as 0 limit (shifted_row τ s) i ≡ true)
  unfolding weighed_answer rows_judged
  tests_passed h = let p = passes_then _ _ h in (passes_none c s a p.0, each_holds _ _ (row_count s) p.1)

  pub tests_pass : ((i : ℕ) → i < points → unheld c s a i ≡ false)
      → ((i : ℕ) → i < row_count s → judged_as 0 limit (shifted_row τ s) i ≡ true)
      → weighed_answer limit c s a ≡ accepted (row_count s)
  unfolding weighed_answer rows_judged
  tests_pass held rows = then_on _ _ (none_passes c s a held) ∙ holds_accepted _ _ (row_count s) rows

  pub weighed_floored : (b : ℤ) → weighed_answer limit (with_floor c b) s a ≡ weighed_answer limit c s a
  unfolding weighed_answer
  weighed_floored b = rw (unheld_floored c s a b, targets_floored c a b)

  -- ---- 16 to 19 are passed exactly where the weights are within the limit, every row holds, and they add up

  abbrev AllHold : Type 0
  AllHold = All (λ r. Holds r.weights) (shifted_rows τ s)

  abbrev Adds : Type 0
  Adds = AddsUp (variables c) τ (slots (shifted_rows τ s))

  module _ (h : Passes (weighed_answer limit c s a)) where
    judged : (i : ℕ) → i < row_count s
        → Within limit (triple_for (shifted_row τ s i).weights) × Holds (shifted_row τ s i).weights
    unfolding weighed_answer rows_judged
    judged = judged_passed limit (shifted_row τ s) (row_count s) (passes_then _ _ h).1

    pub weighed_within : AllWithin limit τ s
    unfolding weights_for
    weighed_within = record { within = λ i l. (judged i l).0 }

    pub weighed_hold : AllHold
    weighed_hold = rows_all τ s (λ r. Holds r.weights) (λ i l. (judged i l).1)

    pub weighed_adds : Adds
    unfolding weighed_answer
    weighed_adds α l = met_adds τ s α (unheld_passed c s a (passes_then _ _ h).0 α)

  pub weighed_accepted : AllWithin limit τ s → AllHold → Adds → weighed_answer limit c s a ≡ accepted (row_count s)
  unfolding weighed_answer rows_judged weights_for
  weighed_accepted w h d =
      then_on _ _ (unheld_passes c s a (λ α l. adds_met τ s α (d α l)))
      ∙ judged_accepted limit (shifted_row τ s) (row_count s)
      (λ i l. (w.within i l, rows_each τ s (λ r. Holds r.weights) h i l))

  pub weighed_short : {most : ℕ} → 19 < most → Bytes c → Bytes s → Short most (weighed_answer limit c s a)
  unfolding weighed_answer rows_judged
  weighed_short h bc bs =
      short_then _ _ (unheld_short c s a (omega arith) bc)
      (judged_short limit (shifted_row τ s) (row_count s) h (rows_counted s bs))

-- ---- a higher floor: what holds with it, and is within the limit with a lower one, is within the limit

pub weighed_higher : (limit larger : ℕ) (c s : List ℕ) (a : Aim) → CheckedSheets c s a → (b b' : ℤ) → b ≤ℤ b'
    → Passes (weighed_answer limit c s (at_floor a b)) → Passes (weighed_answer larger c s (at_floor a b'))
    → Passes (weighed_answer limit c s (at_floor a b'))
unfolding weights_for
weighed_higher limit larger c s a given b b' l h h' =
    let low = weighed_within limit c s (at_floor a b) h in
    let hold = weighed_hold larger c s (at_floor a b') h' in
    let within : AllWithin limit (target_of c (at_floor a b')) s =
    record {
      within = λ i m.
          row_light (variables c) limit _ _ (targets_other c a b b') (λ α e. targets_fall c a b b' α e l) s
          given.proof i m (low.within i m) (rows_each _ s (λ r. Holds r.weights) hold i m);
    } in
    accepted_passes _ _
    (weighed_accepted limit c s (at_floor a b') within hold (weighed_adds larger c s (at_floor a b') h'))
