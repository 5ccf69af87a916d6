use Rattle.text.specs.Lines.{refused_line}
use Rattle.text.proofs.text.Laws.{written_then}
use Rattle.text.proofs.lines.refused_line.Goals as goal

pub returns : goal.returns
unfolding refused_line
returns c = search written_then
