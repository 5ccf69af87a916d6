use mir.Facts.{to_z-of_z}
use Rattle.text.specs.Lines.{weights_text, later_text}
use Rattle.text.proofs.text.Laws.{numbered_back, numbered_then}
use Rattle.text.proofs.lines.Steps.{third_room}
use Rattle.text.proofs.lines.weights_text.Goals as goal

pub numbered-requires : goal.numbered-requires
unfolding weights_text later_text
numbered-requires c = search (third_room, to_z-of_z)

pub returns : goal.returns
unfolding weights_text later_text
returns c = search (numbered_then, numbered_back, to_z-of_z)
