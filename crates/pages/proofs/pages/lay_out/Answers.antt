use borrow.Author.Rules.{rules}
use Rattle.pages.proofs.pages.Steps.{table_blank, page_written, lines_lined}
use Rattle.pages.proofs.pages.lay_out.Goals as goal

pub table-requires : goal.table-requires
table-requires c = (search rules, search table_blank)

pub returns : goal.returns
returns c = (search page_written, search lines_lined)
