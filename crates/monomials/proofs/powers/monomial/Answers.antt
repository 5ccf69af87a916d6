use borrow.Author.Rules.{rules}
use mir.Facts.{to_z-of_z}
use Rattle.monomials.proofs.powers.Steps.{next_product}
use Rattle.monomials.proofs.powers.monomial.Goals as goal

pub loop-i-preserved : goal.loop-i-preserved
loop-i-preserved c = search (rules, next_product, to_z-of_z)
