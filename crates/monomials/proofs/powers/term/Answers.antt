use mir.Facts.{to_z-of_z}
use Rattle.monomials.proofs.powers.Steps.{term_is}
use Rattle.monomials.proofs.powers.term.Goals as goal

pub returns : goal.returns
returns c = search (term_is, to_z-of_z)
