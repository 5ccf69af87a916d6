-- The checks of a proof by itself: 8 to 10 and 12 to 15, under the full profile and beside whatever claim of as many
-- variables.
use Rattle.std.specs.Prelude.{not, List, ℕ, ltb, length}
use Rattle.bounds.specs.Bounds.{most_rows}
use Rattle.bounds.specs.Profiles.{full_profile}
use Rattle.answers.specs.Answers.{Answer, refuse_if, and_then}
use Rattle.sheets.specs.Layout.{variables, shape_of}
use Rattle.checks.specs.ProofChecks.{header_answer, rows_answer}
use Rattle.listings.specs.Variables.{variables_right}

unfoldable pub sized_answer : List ℕ → Answer
sized_answer s = and_then (header_answer most_rows (variables s) s) (rows_answer s full_profile (shape_of s))

-- 8, then 9 where no claim has as many variables, then the others
unfoldable pub own_answer : List ℕ → Answer
own_answer s =
    refuse_if (ltb (length s) 8) 8
    (refuse_if (not (variables_right (variables s))) 9
    (sized_answer s))
