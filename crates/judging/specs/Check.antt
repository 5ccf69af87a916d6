-- The whole check: its verdict, and the output.
use Rattle.std.specs.Prelude.{cond, List, ◌++◌, ℕ, ℤ, length, drop}
use Rattle.bounds.specs.declared.profiles.Profile.{Profile}
use Rattle.answers.specs.Answers.{Answer, and_then, blameless}
use Rattle.points.specs.Points.{Exponents}
use Rattle.checks.specs.Input.{input_answer}
use Rattle.targets.specs.Targets.{aim_of, target_of}
use Rattle.weighing.specs.Exact.{exact_proof}
use Rattle.weighing.specs.Weighed.{weighed_answer}

-- the targets with the claim's floor, the proof's scale and the sheet's limits
unfoldable pub targets_of : List ℕ → List ℕ → List ℕ → Exponents → ℤ
targets_of c s l = target_of c (aim_of c s l)

-- 27, 1 to 10, 24, 25, 11 to 19; the room is the output's length
unfoldable pub check_answer : List ℕ → List ℕ → List ℕ → Profile → ℕ → Answer
check_answer c s l π room = and_then (input_answer c s l π room) (weighed_answer π.weight c s (aim_of c s l))

-- "On acceptance the first bytes of the output are the proof with its shifted weights; later bytes keep their values."
-- "A refusal writes nothing."
unfoldable pub output_of : List ℕ → List ℕ → List ℕ → Profile → List ℕ → List ℕ
output_of c s l π out =
    cond (blameless (check_answer c s l π (length out))) (exact_proof (targets_of c s l) s ++ drop (length s) out) out
