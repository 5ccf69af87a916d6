-- The check with no variable limited is that of a claim and a proof alone, as document 01 and notes 3 and 7 have it.
use Rattle.std.specs.Prelude.{◌≡◌, cond, List, ◌++◌, ℕ, ℤ, length, drop}
use Rattle.bounds.specs.declared.profiles.Profile.{Profile}
use Rattle.answers.specs.Answers.{Answer, and_then, blameless}
use Rattle.points.specs.Points.{Exponents}
use Rattle.sheets.specs.Layout.{shape_of}
use Rattle.sheets.specs.ClaimSheet.{floor_of}
use Rattle.rows.specs.ProofSheet.{scale_of}
use Rattle.checks.specs.ProofChecks.{rows_answer}
use Rattle.checks.specs.Input.{head_answer, body_answer, formed_answer}
use Rattle.targets.specs.Unlimited.{plain_target}
use Rattle.weighing.specs.Exact.{exact_proof}
use Rattle.weighing.specs.Unlimited.{plain_weighed}
use Rattle.judging.specs.Check.{targets_of, check_answer, output_of}

-- the targets with the claim's floor and the proof's scale
unfoldable pub plain_targets : List ℕ → List ℕ → Exponents → ℤ
plain_targets c s = plain_target c (scale_of s) (floor_of c)

-- 27, 1 to 19
unfoldable pub plain_answer : List ℕ → List ℕ → Profile → ℕ → Answer
plain_answer c s π room =
    and_then (and_then (head_answer c s π) (body_answer s π room)) (plain_weighed π.weight (plain_targets c s) c s)

unfoldable pub plain_output : List ℕ → List ℕ → Profile → List ℕ → List ℕ
plain_output c s π out =
    cond (blameless (plain_answer c s π (length out))) (exact_proof (plain_targets c s) s ++ drop (length s) out) out

-- l limits no variable
pub record CheckUnlimited (c s l : List ℕ) (π : Profile) : Type 0 where
  pub answer : (room : ℕ) → check_answer c s l π room ≡ plain_answer c s π room
  pub output : (out : List ℕ) → output_of c s l π out ≡ plain_output c s π out
  -- behind the decision and exact proofs: what is well-formed, and the targets
  pub formed : formed_answer c s l π ≡ and_then (head_answer c s π) (rows_answer s π (shape_of s))
  pub targets : (α : Exponents) → targets_of c s l α ≡ plain_targets c s α
