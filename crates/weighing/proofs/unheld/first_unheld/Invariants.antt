use Rattle.std.proofs.Common.{None}
use mathlib.Core.Path.{◌≡◌}
use Rattle.answers.specs.Searches.{first}
use Rattle.sharing.specs.Slots.{holds_point}
use Rattle.weighing.specs.Unheld.{point_for, unheld}
use Rattle.weighing.proofs.unheld.first_unheld.Given as goal

abbrev pub invariant-points : goal.invariant-points
invariant-points l = first (unheld l.claim l.proof l.aim) l.i ≡ None

abbrev pub invariant-loop-j : goal.invariant-loop-j
invariant-loop-j l = first (holds_point l.proof l.shape (point_for l.claim l.aim.limits l.n l.t l.i)) l.j ≡ None
