use Rattle.text.specs.Lines.{row_line}
use Rattle.text.proofs.text.Laws.{written_then}
use Rattle.text.proofs.lines.row_line.Goals as goal

pub returns : goal.returns
unfolding row_line
returns c = search written_then
