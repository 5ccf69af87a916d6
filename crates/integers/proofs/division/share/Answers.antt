use mir.Facts.{to_z-of_z}
use Rattle.integers.proofs.division.Steps.{more_fits, share_more, share_least}
use Rattle.integers.proofs.division.share.Goals as goal

pub overflow_add-result : goal.overflow_add-result
overflow_add-result c = search (more_fits, to_z-of_z)

pub returns-then-rank-floor_mod : goal.returns-then-rank-floor_mod
returns-then-rank-floor_mod c = search (share_more, to_z-of_z)

pub returns-else-rank-floor_mod : goal.returns-else-rank-floor_mod
returns-else-rank-floor_mod c = search (share_least, to_z-of_z)
