use Rattle.listings.proofs.exponents.Steps.{label_room, exponents_start, exponent_room, exponent_next, exponents_written}
use Rattle.listings.proofs.exponents.exponents_text.Goals as goal

pub put_text-end-requires : goal.put_text-end-requires
put_text-end-requires c = search label_room

pub loop-i-init : goal.loop-i-init
loop-i-init c = search exponents_start

pub counted-end-requires : goal.counted-end-requires
counted-end-requires c = search exponent_room

pub loop-i-preserved : goal.loop-i-preserved
loop-i-preserved c = search exponent_next

pub returns : goal.returns
returns c = search exponents_written
