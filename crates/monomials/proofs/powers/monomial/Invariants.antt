use mathlib.Core.Path.{◌≡◌}
use lib.ListN.{drop}
use Rattle.monomials.specs.Powers.{monomial_of, saturated}
use Rattle.monomials.proofs.powers.monomial.Given as goal

abbrev pub invariant-loop-i : goal.invariant-loop-i
invariant-loop-i l = l.value ≡ saturated (monomial_of (drop l.i l.offsets) (drop l.i l.e))
