use Rattle.report.proofs.reports.Steps.{row_written, row_room, row_feed}
use Rattle.report.proofs.reports.row_text.Goals as goal

pub row_line-row-requires : goal.row_line-row-requires
row_line-row-requires c = search row_room

pub put_byte-requires : goal.put_byte-requires
put_byte-requires c = search row_feed

pub returns : goal.returns
returns c = search row_written
