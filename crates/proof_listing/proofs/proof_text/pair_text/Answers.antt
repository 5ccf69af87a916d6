use borrow.Author.Rules.{rules}
use Rattle.proof_listing.proofs.proof_text.Steps.{v_inside, w_inside, v_room, w_room, weights_room, pair_written}
use Rattle.proof_listing.proofs.proof_text.pair_text.Goals as goal

pub exponents_text-v-requires : goal.exponents_text-v-requires
exponents_text-v-requires c = (search rules, search v_inside, search v_room)

pub exponents_text-w-requires : goal.exponents_text-w-requires
exponents_text-w-requires c = (search rules, search (v_inside, w_inside), search w_room)

pub weights_text-requires : goal.weights_text-requires
weights_text-requires c = search weights_room

pub returns : goal.returns
returns c = search pair_written
