-- Evaluation as it was before profiles: the chain at 120. "The full profile gives the old verdicts."
use Rattle.std.specs.Prelude.{◌≡◌, not, List, ℕ, eqb, ℤ, length}
use Rattle.bounds.specs.Profiles.{full_profile}
use Rattle.answers.specs.Answers.{Answer, refuse_if, and_then}
use Rattle.squares.specs.Sums.{value_at}
use Rattle.sheets.specs.Layout.{variables, term_count}
use Rattle.sheets.specs.ClaimSheet.{terms_of}
use Rattle.claims.specs.Full.{full_claim}
use Rattle.evaluation.specs.Evaluations.{Told, told_by, too_large_answer, evaluation_answer, evaluation_of}

-- 1 to 7, 20 and 21
unfoldable pub full_evaluation_answer : List ℕ → List ℤ → Answer
full_evaluation_answer c x =
    and_then (full_claim c)
    (refuse_if (not (eqb (length x) (variables c))) 20
    (too_large_answer c (variables c) (term_count c) x))

unfoldable pub full_evaluation : List ℕ → List ℤ → Told
full_evaluation c x = told_by (full_evaluation_answer c x) (value_at x (terms_of c))

pub record EvaluationFull (c : List ℕ) (x : List ℤ) : Type 0 where
  pub answer : evaluation_answer c full_profile x ≡ full_evaluation_answer c x
  pub told : evaluation_of c full_profile x ≡ full_evaluation c x
