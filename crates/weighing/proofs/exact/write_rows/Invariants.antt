use mathlib.Core.Path.{◌≡◌}
use Rattle.writing.specs.Writing.{with_rows}
use Rattle.targets.specs.Targets.{target_of}
use Rattle.weighing.specs.Exact.{weights_for}
use Rattle.weighing.proofs.exact.write_rows.Given as goal

abbrev pub invariant-loop-i : goal.invariant-loop-i
invariant-loop-i l = l.out ≡ with_rows (weights_for (target_of l.claim l.aim) l.proof) l.initial.out l.shape l.i
