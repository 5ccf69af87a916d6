use borrow.Author.Rules.{rules}
use native.Mathlib.Omega.{arith}
use Rattle.floors.proofs.search.Steps.{walk_high, walk_few, walk_tests, walk_checked, walk_next}
use Rattle.floors.proofs.search.walk.Goals as goal

pub aim_after-requires : goal.aim_after-requires
aim_after-requires c = grind (arith, walk_high c.requires, walk_few c.requires)

pub first_failing-requires : goal.first_failing-requires
first_failing-requires c = grind (arith, walk_checked c.requires)

pub rotate-last-requires : goal.rotate-last-requires
rotate-last-requires c = grind (arith, walk_tests c.requires)

pub loop-i-preserved : goal.loop-i-preserved
loop-i-preserved c = (search rules, search walk_next)
