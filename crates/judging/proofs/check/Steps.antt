-- The steps of the whole check.
use mathlib.Core.Path.{◌≡◌, sym, ◌∙◌}
use mathlib.Core.List.{List, ◌++◌}
use Prim.Native.Nat.{ℕ, ◌≤◌}
use lib.ListN.{length, drop}
use Rattle.integers.specs.Words.{Bytes}
use Rattle.bounds.specs.Bounds.{greatest_weight}
use Rattle.bounds.specs.declared.profiles.Profile.{Profile}
use Rattle.answers.specs.Answers.{Answer, accepted, refusal, says, Passes}
use Rattle.answers.specs.declared.answers.Sheet.{Sheet}
use Rattle.answers.specs.declared.answers.Verdict.{Verdict}
use Rattle.answers.proofs.answers.Laws.{then_refused, then_passed, told_passed, told_failed, accepted_passes, accepted_numbers}
use Rattle.sheets.specs.Layout.{variables, LimitsRoom}
use Rattle.checks.specs.Input.{input_answer, WellFormed}
use Rattle.checks.proofs.input.Laws.{range_formed, room_formed, input_formed}
use Rattle.targets.specs.Targets.{aim_of, target_of}
use Rattle.targets.specs.declared.targets.Aim.{Aim}
use Rattle.sharing.specs.Shifts.{CheckedSheets}
use Rattle.sharing.proofs.shifts.Laws.{sheets_checked, claim_eight, proof_eight}
use Rattle.weighing.specs.Weighed.{weighed_answer}
use Rattle.weighing.specs.Exact.{Writable, exact_proof}
use Rattle.judging.specs.Check.{targets_of, check_answer, output_of}
use Rattle.judging.specs.Promises.{LongEnough, CheckPromises}
use Rattle.judging.proofs.Promises.{accepted_enough, accepted_light, accepted_rows, check_promises}

-- ---- judged: what the checks 27, 1 to 15, 24 and 25 say

module _ (c s l : List ℕ) (π : Profile) (room : ℕ) where
  pub input_refused : (x : Sheet) → refusal x ≡ input_answer c s l π room → refusal x ≡ check_answer c s l π room
  unfolding check_answer
  input_refused x h = then_refused _ x h _

  module _ (h : accepted 0 ≡ input_answer c s l π room) where
    formed : WellFormed c s l π
    formed = input_formed c s l π room (told_passed _ h)

    pub claim_read : 8 ≤ length c
    claim_read = claim_eight c s _ (sheets_checked c s l π formed)

    pub proof_read : 8 ≤ length s
    proof_read = proof_eight c s _ (sheets_checked c s l π formed)

    pub weight_read : π.weight ≤ greatest_weight
    weight_read = (range_formed c s l π formed).weight_within

    pub limits_read : LimitsRoom l (variables c)
    limits_read = room_formed c s l π formed

    -- a is the aim that was read, `said` what 16 to 19 say
    module _ (a : Aim) (ea : a ≡ aim_of c s l) where
      pub sheets_read : CheckedSheets c s a
      sheets_read = rw ea (sheets_checked c s l π formed)

      pub check_weighed : (said : Answer) → said ≡ weighed_answer π.weight c s a → said ≡ check_answer c s l π room
      unfolding check_answer
      check_weighed said e = then_passed _ h said _ (rw ea at e)

      pub writable : (k : ℕ) → accepted k ≡ weighed_answer π.weight c s a → (out : List ℕ) → length out ≡ room
          → Writable c s a out
      unfolding targets_of
      writable k e out eo =
          let passes = accepted_passes _ k (sym (check_weighed (accepted k) e)) in
          record {
            sheets = sheets_read;
            light = rw ea (accepted_light c s l π room passes);
            room = rw eo (accepted_enough c s l π room passes);
          }

-- ---- o is the output afterwards

module _ (c s l : List ℕ) (π : Profile) (out : List ℕ) where
  pub refused_output : (x : Sheet) → refusal x ≡ check_answer c s l π (length out) → out ≡ output_of c s l π out
  unfolding output_of
  refused_output x h = rw (told_failed _ x h)

  pub accepted_output : (k : ℕ) → accepted k ≡ check_answer c s l π (length out) → (a : Aim) → a ≡ aim_of c s l
      → (o : List ℕ) → o ≡ exact_proof (target_of c a) s ++ drop (length s) out → o ≡ output_of c s l π out
  unfolding output_of targets_of
  accepted_output k h a ea o eo = rw (accepted_passes _ k (sym h)) (rw ea at eo)

  -- v is the verdict
  pub promises : (v : Verdict) → says v ≡ check_answer c s l π (length out) → Bytes s → (o : List ℕ)
      → o ≡ output_of c s l π out
      → CheckPromises c s l π out (LongEnough s out) (Passes (says v)) (says v).value o
  promises v e =
      check_promises c s l π out _ _ _ (λ r. r) (λ h. rw e at h, λ h. rw e h)
      (λ h. (accepted_numbers _ _ (e ∙ accepted_rows c s l π (length out) h)).1)
