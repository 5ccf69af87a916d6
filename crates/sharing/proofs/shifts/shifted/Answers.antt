use borrow.Author.Rules.{rules}
use mir.Facts.{to_z-of_z}
use Rattle.integers.proofs.Integers.{back_small}
use Rattle.sharing.proofs.shifts.Laws.{proof_checked, targeted}
use Rattle.sharing.proofs.shifts.Steps.{row_here, held_small, held_some, shifted_is, own_small, key_here}
use Rattle.sharing.proofs.shifts.shifted.Goals as goal

pub held-h-requires : goal.held-h-requires
held-h-requires c = search (proof_checked, row_here, own_small, key_here)

pub target_at-requires : goal.target_at-requires
target_at-requires c = search targeted

pub moved-requires : goal.moved-requires
moved-requires c = search (rules, back_small, held_small, held_some, to_z-of_z)

pub returns : goal.returns
returns c = search (shifted_is, to_z-of_z)
