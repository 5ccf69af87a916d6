use borrow.Author.Rules.{rules}
use Rattle.paging.proofs.page_check.Steps.{wrong_says, output_kept, page_kept, wrong_promises, output_carries, right_says, output_written, page_written, promises}
use Rattle.paging.proofs.page_check.page_check.Goals as goal

pub returns-then-page-ne-PAGE_LENGTH : goal.returns-then-page-ne-PAGE_LENGTH
returns-then-page-ne-PAGE_LENGTH c = record {
  verdict = search wrong_says;
  written = search output_kept;
  page = search page_kept;
  promises = search wrong_promises;
}

pub put_page-requires : goal.put_page-requires
put_page-requires c = (search output_carries, search rules)

pub returns : goal.returns
returns c = record {
  verdict = search right_says;
  written = search output_written;
  page = search page_written;
  promises = search (promises, right_says, output_written, page_written);
}
