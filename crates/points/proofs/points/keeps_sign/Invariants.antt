use mathlib.Core.Path.{◌≡◌}
use lib.ListN.{drop}
use Rattle.points.specs.Points.{exponents, keeps_sign}
use Rattle.points.proofs.points.keeps_sign.Given as goal

abbrev pub invariant-loop-e : goal.invariant-loop-e
invariant-loop-e l = (l.e-items ≡ exponents l.fn.p) × (keeps_sign l.fn.mask (exponents l.fn.p) ≡ keeps_sign l.rest (drop l.e-index l.e-items))
