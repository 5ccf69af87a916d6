use mathlib.Core.Path.{◌≡◌}
use lib.ListN.{take}
use Rattle.points.specs.Points.{padded, midpoint_of}
use Rattle.points.proofs.points.midpoint.Given as goal

abbrev pub invariant-loop-i : goal.invariant-loop-i
invariant-loop-i l = l.exps ≡ padded (midpoint_of (take l.i l.x) (take l.i l.y))
