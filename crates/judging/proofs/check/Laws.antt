-- Laws of the check: the claim with another floor, beside sheets that pass 27, 1 to 15, 24 and 25.
use mathlib.Core.Path.{◌≡◌, ◌∙◌}
use mathlib.Core.List.{List, ◌++◌}
use Prim.Native.Nat.{ℕ, ◌≤◌}
use lib.IntN.{ℤ, nat_abs}
use lib.ListN.{length, drop}
use Rattle.bounds.specs.Bounds.{greatest_weight}
use Rattle.bounds.specs.declared.profiles.Profile.{Profile}
use Rattle.answers.specs.Answers.{Passes}
use Rattle.answers.proofs.answers.Laws.{then_on}
use Rattle.sheets.specs.ClaimSheet.{with_floor}
use Rattle.checks.specs.Input.{input_answer}
use Rattle.checks.proofs.input.Laws.{input_formed, input_floored}
use Rattle.targets.specs.Targets.{aim_of, at_floor, target_of}
use Rattle.targets.specs.declared.targets.Aim.{Aim}
use Rattle.targets.proofs.targets.Laws.{aim_floored, targets_floored}
use Rattle.sharing.proofs.shifts.Laws.{sheets_checked, claim_eight}
use Rattle.weighing.specs.Exact.{exact_proof}
use Rattle.weighing.specs.Weighed.{weighed_answer}
use Rattle.weighing.proofs.weighed.Laws.{weighed_floored}
use Rattle.judging.specs.Check.{targets_of, check_answer, output_of}
use Rattle.judging.proofs.Promises.{written}

module _ (c s l : List ℕ) (π : Profile) (room : ℕ) (h : Passes (input_answer c s l π room)) (b : ℤ)
    (w : nat_abs b ≤ greatest_weight) where
  -- what the targets for floor b depend on
  abbrev a : Aim
  a = at_floor (aim_of c s l) b

  aims : aim_of (with_floor c b) s l ≡ a
  aims = aim_floored c s l b (claim_eight c s _ (sheets_checked c s l π (input_formed c s l π room h))) w

  -- its check is that of 16 to 19
  pub floored_answer : check_answer (with_floor c b) s l π room ≡ weighed_answer π.weight c s a
  unfolding check_answer
  floored_answer = then_on _ _ (input_floored c s l π room h b w) ∙ rw aims (weighed_floored π.weight c s a b)

  pub floored_output : (out : List ℕ) → length out ≡ room → Passes (weighed_answer π.weight c s a)
      → output_of (with_floor c b) s l π out ≡ exact_proof (target_of c a) s ++ drop (length s) out
  unfolding targets_of
  floored_output out e p =
      written (with_floor c b) s l π out (rw (e, floored_answer) p) ∙ rw (aims, targets_floored c a b)
