use mir.Facts.{to_z-of_z}
use Rattle.monomials.proofs.powers.Steps.{product_large, product_fits, product_value}
use Rattle.monomials.proofs.powers.product.Goals as goal

pub overflow_mul-result : goal.overflow_mul-result
overflow_mul-result c = search (product_fits, to_z-of_z)

pub returns-then-fits : goal.returns-then-fits
returns-then-fits c = search (product_value, to_z-of_z)

pub returns : goal.returns
returns c = search (product_large, to_z-of_z)
