-- The check with a page of the time before profiles, over the check at 120, 2^30 and 256. "The full profile gives the
-- old verdicts."
use Rattle.std.specs.Prelude.{◌≡◌, cond, not, List, ℕ, eqb, length}
use Rattle.bounds.specs.Profiles.{full_profile}
use Rattle.answers.specs.Answers.{Answer, refuse_if}
use Rattle.judging.specs.Full.{full_answer, full_output}
use Rattle.pages.specs.Pages.{page_length}
use Rattle.paging.specs.PageCheck.{page_answer, page_output, checked_page, page_after}

-- 26, then the check
unfoldable pub full_page_answer : List ℕ → List ℕ → List ℕ → ℕ → ℕ → Answer
full_page_answer c s l room size = refuse_if (not (eqb size page_length)) 26 (full_answer c s l room)

unfoldable pub full_page_output : List ℕ → List ℕ → List ℕ → List ℕ → ℕ → List ℕ
full_page_output c s l out size = cond (eqb size page_length) (full_output c s l out) out

unfoldable pub full_page_after : List ℕ → List ℕ → List ℕ → ℕ → List ℕ → List ℕ
full_page_after c s l room page =
    cond (eqb (length page) page_length) (checked_page c s l (full_answer c s l room)) page

pub record PageFull (c s l : List ℕ) : Type 0 where
  pub answer : (room size : ℕ) → page_answer c s l full_profile room size ≡ full_page_answer c s l room size
  pub output : (out : List ℕ) (size : ℕ) → page_output c s l full_profile out size ≡ full_page_output c s l out size
  pub page : (room : ℕ) (page : List ℕ) → page_after c s l full_profile room page ≡ full_page_after c s l room page
