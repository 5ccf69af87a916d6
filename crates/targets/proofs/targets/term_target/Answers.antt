use mir.Facts.{to_z-of_z}
use Rattle.integers.proofs.Integers.{back_small}
use Rattle.targets.proofs.targets.Steps.{term_made}
use Rattle.targets.proofs.targets.term_target.Goals as goal

pub returns : goal.returns
returns c = search (term_made, back_small, to_z-of_z)
