-- The check with a page under the full profile, from the check's law.
use mathlib.Core.List.{List}
use Prim.Native.Nat.{ℕ}
use Rattle.judging.proofs.Full.{check_full}
use Rattle.paging.specs.PageCheck.{page_answer, page_output, page_after}
use Rattle.paging.specs.Full.{full_page_answer, full_page_output, full_page_after, PageFull}

pub page_full : (c s l : List ℕ) → PageFull c s l
unfolding page_answer page_output page_after full_page_answer full_page_output full_page_after
page_full c s l = record {
  answer = λ room size. rw ((check_full c s l).answer room);
  output = λ out size. rw ((check_full c s l).output out);
  page = λ room page. rw ((check_full c s l).answer room);
}
