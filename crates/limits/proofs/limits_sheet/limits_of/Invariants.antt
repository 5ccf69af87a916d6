use mathlib.Core.Path.{◌≡◌}
use Rattle.limits.proofs.limits_sheet.Steps.{filled_to}
use Rattle.limits.proofs.limits_sheet.limits_of.Given as goal

abbrev pub invariant-loop-i : goal.invariant-loop-i
invariant-loop-i l = l.each ≡ filled_to l.limits l.n l.i
