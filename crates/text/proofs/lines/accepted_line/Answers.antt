use mir.Facts.{to_z-of_z}
use Rattle.text.specs.Lines.{accepted_line, scale_text}
use Rattle.text.proofs.text.Laws.{written_then, numbered_back}
use Rattle.text.proofs.lines.accepted_line.Goals as goal

pub returns : goal.returns
unfolding accepted_line scale_text
returns c = search (written_then, numbered_back, to_z-of_z)
