use mir.Facts.{to_z-of_z}
use Rattle.sharing.proofs.shifts.Steps.{moved_is}
use Rattle.sharing.proofs.shifts.moved.Goals as goal

pub returns : goal.returns
returns c = search (moved_is, to_z-of_z)
