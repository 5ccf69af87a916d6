use mir.Facts.{to_z-of_z}
use Rattle.monomials.proofs.powers.Steps.{power_none, power_more}
use Rattle.monomials.proofs.powers.+power.Goals as goal

pub returns-then-e-eq0 : goal.returns-then-e-eq0
returns-then-e-eq0 t c = search power_none

pub returns : goal.returns
returns t c = search (power_more, to_z-of_z)
