use native.Mathlib.Numerals.{add-one}
use native.Mathlib.Omega.{arith}
use mir.Facts.{to_z-of_z}
use Rattle.std.proofs.lemmas.Grind.{common_steps}
use Rattle.targets.proofs.targets.Laws.{floor_at}
use Rattle.floors.specs.Search.{tells, told_after, aim_after}
use Rattle.floors.proofs.search.Steps.{walk_high, walk_few, found_writable}
use Rattle.floors.proofs.search.search_checked.Goals as goal

pub aim_after-aim-requires : goal.aim_after-aim-requires
aim_after-aim-requires c = grind (arith, walk_high c.requires.0, walk_few c.requires.0)

pub write_exact-requires : goal.write_exact-requires
write_exact-requires c = search (found_writable, to_z-of_z)

pub overflow_cast-result : goal.overflow_cast-result
overflow_cast-result c = grind (arith, walk_few c.requires.0)

pub overflow_add-result : goal.overflow_add-result
overflow_add-result c = grind (arith, walk_few c.requires.0)

pub returns-clause-told : goal.returns-clause-told
unfolding tells told_after aim_after
returns-clause-told c = grind (arith, common_steps, floor_at, add-one)
