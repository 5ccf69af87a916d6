use borrow.Author.Rules.{rules}
use Rattle.pages.proofs.pages.Steps.{table_start, table_end, next_blank, table_next}
use Rattle.pages.proofs.pages.table.Goals as goal

pub loop-i-init : goal.loop-i-init
loop-i-init c = search table_start

pub table_line-requires : goal.table_line-requires
table_line-requires c = (search rules, search next_blank)

pub loop-i-preserved : goal.loop-i-preserved
loop-i-preserved c = search table_next

pub returns : goal.returns
returns c = search table_end
