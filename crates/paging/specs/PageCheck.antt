-- The check with a page: its verdict, the output and the page.
use Rattle.std.specs.Prelude.{cond, not, List, ℕ, eqb, length}
use Rattle.bounds.specs.declared.profiles.Profile.{Profile}
use Rattle.answers.specs.Answers.{Answer, refuse_if}
use Rattle.rows.specs.ProofSheet.{triple_for}
use Rattle.rows.specs.declared.proof_sheet.Triple.{Triple}
use Rattle.weighing.specs.Exact.{weights_for}
use Rattle.judging.specs.Check.{targets_of, check_answer, output_of}
use Rattle.report.specs.Reports.{shown_of, verdict_line}
use Rattle.pages.specs.Pages.{page_length, page_of}

-- "26, the page buffer is not 2,920 bytes", "checked before 1", and before 27; then the check
unfoldable pub page_answer : List ℕ → List ℕ → List ℕ → Profile → ℕ → ℕ → Answer
page_answer c s l π room size = refuse_if (not (eqb size page_length)) 26 (check_answer c s l π room)

-- the output: what the check leaves there, and 26 writes nothing
unfoldable pub page_output : List ℕ → List ℕ → List ℕ → Profile → List ℕ → ℕ → List ℕ
page_output c s l π out size = cond (eqb size page_length) (output_of c s l π out) out

-- the shifted weights of row i
unfoldable pub shifted_triple : List ℕ → List ℕ → List ℕ → ℕ → Triple
shifted_triple c s l i = triple_for (weights_for (targets_of c s l) s i)

-- the page of what the check says
unfoldable pub checked_page : List ℕ → List ℕ → List ℕ → Answer → List ℕ
checked_page c s l answer = page_of (verdict_line c s answer) (shifted_triple c s l) (shown_of s answer).k

-- the page afterwards: every verdict but 26 writes all of it
unfoldable pub page_after : List ℕ → List ℕ → List ℕ → Profile → ℕ → List ℕ → List ℕ
page_after c s l π room page =
    cond (eqb (length page) page_length) (checked_page c s l (check_answer c s l π room)) page
