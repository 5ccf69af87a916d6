use mathlib.Core.Path.{◌≡◌}
use Rattle.limits.specs.Additions.{limits_add}
use Rattle.limits.proofs.additions.limits_add.Given as goal

abbrev pub invariant-loop-i : goal.invariant-loop-i
invariant-loop-i l = l.sum ≡ limits_add l.limits l.key l.i
