use mir.Facts.{to_z-of_z}
use Rattle.integers.proofs.Integers.{back_small}
use Rattle.targets.proofs.targets.Steps.{target_made}
use Rattle.targets.proofs.targets.target_at.Goals as goal

pub returns : goal.returns
returns c = search (target_made, back_small, to_z-of_z)
