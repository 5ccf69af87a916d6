-- Laws of trials: from wherever they are begun, none of the tests fails exactly where 16 to 19 are passed.
use Rattle.std.proofs.Common.{Some, None}
use mathlib.Core.Path.{◌≡◌, sym, ◌∙◌}
use mathlib.Core.Bool.{false, not, true≢false}
use mathlib.Core.List.{List}
use Prim.Native.Nat.{ℕ, ◌+◌, ◌-◌, ◌<◌, ◌≤◌}
use native.Mathlib.Decide.{dec_lt}
use native.Mathlib.Omega.{arith}
use borrow.Author.Tests.{lt-ltb, le-ltb, not-false}
use Rattle.answers.specs.Answers.{blameless, Passes}
use Rattle.answers.specs.Searches.{first}
use Rattle.answers.proofs.answers.Laws.{passes_or_fails, accepted_passes}
use Rattle.answers.proofs.searches.Laws.{none_wrong, first_inside}
use Rattle.sheets.specs.Layout.{row_count}
use Rattle.targets.specs.Targets.{target_of}
use Rattle.targets.specs.declared.targets.Aim.{Aim}
use Rattle.sharing.specs.Shifts.{shifted_row, CheckedSheets}
use Rattle.judgements.specs.Judgements.{judged_as}
use Rattle.weighing.specs.Unheld.{unheld}
use Rattle.weighing.specs.Weighed.{weighed_answer}
use Rattle.weighing.proofs.weighed.Laws.{tests_passed, tests_pass}
use Rattle.floors.specs.Trials.{points, test_count, fails, rotated, fails_from}

-- ---- the rotation

module _ (n from : ℕ) (inside : from < n) where
  rotated_inside : (i : ℕ) → i < n → rotated n from i < n
  unfolding rotated
  rotated_inside i l = go (dec_lt (from + i) n)
    where
      go : Dec (from + i < n) → rotated n from i < n
      go (yes m) = rw (lt-ltb (from + i) n m) m
      go (no m) = rw (le-ltb (from + i) n (omega arith)) (omega arith)

  -- every test is met
  rotated_all : (P : ℕ → Type 0) → ((i : ℕ) → i < n → P (rotated n from i)) → (j : ℕ) → j < n → P j
  unfolding rotated
  rotated_all P h j l = go (dec_lt j from)
    where
      go : Dec (j < from) → P j
      go (no m) =
          let i : ℕ = j - from in
          let e : from + i ≡ j = omega arith in
          rw (lt-ltb (from + i) n (omega arith), e) at (h i (omega arith))
      go (yes m) =
          let i : ℕ = j + n - from in
          let e : from + i - n ≡ j = omega arith in
          rw (le-ltb (from + i) n (omega arith), e) at (h i (omega arith))

-- ---- the tests

pub tests_few : (c s : List ℕ) (n : ℕ) → n ≡ test_count c s → (a : Aim) → CheckedSheets c s a → n ≤ 65536
unfolding test_count
tests_few c s n e a given =
    omega (arith, e, given.claim.room.few, given.claim.room.terms, given.proof.header.room.rows)

module _ (limit : ℕ) (c s : List ℕ) (a : Aim) where
  pub fails_point : (i : ℕ) → i < points c → fails limit c s a i ≡ unheld c s a i
  unfolding fails
  fails_point i l = rw (lt-ltb i (points c) l)

  pub fails_row : (i : ℕ) → points c ≤ i
      → fails limit c s a i ≡ not (judged_as 0 limit (shifted_row (target_of c a) s) (i - points c))
  unfolding fails
  fails_row i l = rw (le-ltb i (points c) l)

  none_fails : ((i : ℕ) → i < test_count c s → fails limit c s a i ≡ false) → Passes (weighed_answer limit c s a)
  unfolding test_count
  none_fails h =
      accepted_passes _ (row_count s)
      (tests_pass limit c s a (λ i l. sym (fails_point i l) ∙ h i (omega arith))
      (λ i l.
      let e : points c + i - points c ≡ i = omega arith in
      not-false _
      (rw e at (sym (fails_row (points c + i) (omega arith)) ∙ h (points c + i) (omega arith)))))

  passes_none : Passes (weighed_answer limit c s a) → (i : ℕ) → i < test_count c s → fails limit c s a i ≡ false
  unfolding test_count
  passes_none h i l = go (dec_lt i (points c))
    where
      go : Dec (i < points c) → fails limit c s a i ≡ false
      go (yes m) = fails_point i m ∙ (tests_passed limit c s a h).0 i m
      go (no m) =
          fails_row i (omega arith) ∙ rw ((tests_passed limit c s a h).1 (i - points c) (omega arith))

  -- from any of them on
  module _ (from : ℕ) (inside : from < test_count c s) where
    pub cycle_passed : first (fails_from limit c s a from) (test_count c s) ≡ None → Passes (weighed_answer limit c s a)
    unfolding fails_from
    cycle_passed h =
        none_fails (rotated_all (test_count c s) from inside (λ j. fails limit c s a j ≡ false) (none_wrong _ _ h))

    pub cycle_failed : (i : ℕ) → first (fails_from limit c s a from) (test_count c s) ≡ Some i
        → blameless (weighed_answer limit c s a) ≡ false
    unfolding fails_from
    cycle_failed i h =
        let f = first_inside _ (test_count c s) i h in
        passes_or_fails (weighed_answer limit c s a)
        (λ p.
        absurd
        (true≢false (sym f.1 ∙ passes_none p _ (rotated_inside (test_count c s) from inside i f.0))))
        (λ q. q)
