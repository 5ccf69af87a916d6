use borrow.Author.Rules.{rules}
use Rattle.text.proofs.text.Laws.{texts_next}
use Rattle.report.proofs.reports.Steps.{row_shown_lem, next_room, rows_end, rows_start}
use Rattle.report.proofs.reports.rows_text.Goals as goal

pub loop-i-init : goal.loop-i-init
loop-i-init c = search (rules, rows_start)

pub row_text-end-requires : goal.row_text-end-requires
row_text-end-requires c = (search row_shown_lem, search rules, search next_room)

pub loop-i-preserved : goal.loop-i-preserved
loop-i-preserved c = search (rules, texts_next)

pub returns : goal.returns
returns c = search rows_end
