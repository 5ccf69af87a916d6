-- The check of the time before profiles: the chain at 120, 2^30 and 256. "The full profile gives the old verdicts."
use Rattle.std.specs.Prelude.{◌≡◌, cond, List, ◌++◌, ℕ, length, drop}
use Rattle.bounds.specs.Bounds.{greatest_weight}
use Rattle.bounds.specs.Profiles.{full_profile}
use Rattle.answers.specs.Answers.{Answer, and_then, blameless}
use Rattle.checks.specs.Input.{formed_answer}
use Rattle.checks.specs.Full.{full_input, full_formed}
use Rattle.targets.specs.Targets.{aim_of}
use Rattle.weighing.specs.Exact.{exact_proof}
use Rattle.weighing.specs.Full.{full_weighed}
use Rattle.judging.specs.Check.{targets_of, check_answer, output_of}

-- 1 to 10, 24, 25, 11 to 19
unfoldable pub full_answer : List ℕ → List ℕ → List ℕ → ℕ → Answer
full_answer c s l room = and_then (full_input c s l room) (full_weighed c s (aim_of c s l))

unfoldable pub full_output : List ℕ → List ℕ → List ℕ → List ℕ → List ℕ
full_output c s l out =
    cond (blameless (full_answer c s l (length out))) (exact_proof (targets_of c s l) s ++ drop (length s) out) out

pub record CheckFull (c s l : List ℕ) : Type 0 where
  pub answer : (room : ℕ) → check_answer c s l full_profile room ≡ full_answer c s l room
  pub output : (out : List ℕ) → output_of c s l full_profile out ≡ full_output c s l out
  -- behind the decision and exact proofs: what is well-formed, and the weight
  pub formed : formed_answer c s l full_profile ≡ full_formed c s l
  pub weight : full_profile.weight ≡ greatest_weight
