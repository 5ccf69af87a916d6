-- Laws of the check with a page: with a page of 2,920 bytes it is the check, and with any other it is refused.
use mathlib.Core.Path.{◌≡◌}
use mathlib.Core.List.{List}
use Prim.Native.Nat.{ℕ, ◌<◌}
use native.Mathlib.Omega.{arith}
use lib.ListN.{length}
use borrow.Author.Tests.{eq-eqb, ne_eqb}
use Rattle.integers.specs.Words.{Bytes}
use Rattle.bounds.specs.declared.profiles.Profile.{Profile}
use Rattle.answers.specs.Answers.{refused, Short}
use Rattle.answers.proofs.answers.Laws.{if_on, short_if}
use Rattle.judging.specs.Check.{check_answer, output_of}
use Rattle.judging.proofs.Promises.{check_short}
use Rattle.pages.specs.Pages.{page_length}
use Rattle.paging.specs.PageCheck.{page_answer, page_output, checked_page, page_after}
use Rattle.paging.specs.Promises.{RightPage}

module _ (c s l : List ℕ) (π : Profile) (out page : List ℕ) where
  module _ (e : RightPage page) where
    pub right_answer : page_answer c s l π (length out) (length page) ≡ check_answer c s l π (length out)
    unfolding page_answer
    right_answer = if_on _ 26 _ (rw (eq-eqb (length page) page_length e))

    pub right_output : page_output c s l π out (length page) ≡ output_of c s l π out
    unfolding page_output
    right_output = rw (eq-eqb (length page) page_length e)

    pub right_page : page_after c s l π (length out) page ≡ checked_page c s l (check_answer c s l π (length out))
    unfolding page_after
    right_page = rw (eq-eqb (length page) page_length e)

  module _ (n : RightPage page → ⊥) where
    pub wrong_answer : page_answer c s l π (length out) (length page) ≡ refused 26 0
    unfolding page_answer
    wrong_answer = rw (ne_eqb (length page) page_length n)

    pub wrong_output : page_output c s l π out (length page) ≡ out
    unfolding page_output
    wrong_output = rw (ne_eqb (length page) page_length n)

    pub wrong_page : page_after c s l π (length out) page ≡ page
    unfolding page_after
    wrong_page = rw (ne_eqb (length page) page_length n)

-- the answer is short
pub page_short : (c s l : List ℕ) (π : Profile) {limit : ℕ} (room size : ℕ) → 27 < limit → Bytes c → Bytes s
    → Short limit (page_answer c s l π room size)
unfolding page_answer
page_short c s l π room size h bc bs = short_if 26 _ (omega arith) (check_short c s l π room h bc bs) _
