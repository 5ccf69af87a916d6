use borrow.Author.Rules.{rules}
use mir.Facts.{to_z-of_z}
use Rattle.proof_listing.proofs.proof_text.Steps.{v_inside, lone_room, weight_room, lone_written}
use Rattle.proof_listing.proofs.proof_text.lone_text.Goals as goal

pub exponents_text-v-requires : goal.exponents_text-v-requires
exponents_text-v-requires c = (search rules, search v_inside, search lone_room)

pub numbered-requires : goal.numbered-requires
numbered-requires c = search (weight_room, to_z-of_z)

pub returns : goal.returns
returns c = search (lone_written, to_z-of_z)
