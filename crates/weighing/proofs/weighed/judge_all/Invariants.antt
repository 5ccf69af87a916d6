use mathlib.Core.Path.{◌≡◌}
use Rattle.targets.specs.Targets.{target_of}
use Rattle.sharing.specs.Shifts.{shifted_row}
use Rattle.judgements.specs.Judgements.{firsts_to}
use Rattle.weighing.proofs.weighed.judge_all.Given as goal

abbrev pub invariant-loop-i : goal.invariant-loop-i
invariant-loop-i l = l.f ≡ firsts_to l.limit (shifted_row (target_of l.claim l.aim) l.proof) l.i
