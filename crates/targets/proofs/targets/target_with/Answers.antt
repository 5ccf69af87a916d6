use mir.Facts.{to_z-of_z}
use Rattle.targets.proofs.targets.Steps.{sum_fits, with_made, with_small}
use Rattle.targets.proofs.targets.target_with.Goals as goal

pub overflow_add-result : goal.overflow_add-result
overflow_add-result c = search (sum_fits, to_z-of_z)

pub returns : goal.returns
returns c = search (with_made, with_small, to_z-of_z)
