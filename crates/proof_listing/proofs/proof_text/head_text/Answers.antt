use Rattle.listings.proofs.Putting.{puts_count, field_room, second_field, field_then, field_last}
use Rattle.proof_listing.specs.ProofText.{head_fields}
use Rattle.proof_listing.proofs.proof_text.head_text.Goals as goal

pub counted-n-requires : goal.counted-n-requires
unfolding head_fields
counted-n-requires c = search (field_room, puts_count)

pub counted-requires : goal.counted-requires
unfolding head_fields
counted-requires c = search (second_field, puts_count)

pub returns : goal.returns
unfolding head_fields
returns c = search (field_then, field_last, puts_count)
