use mir.Facts.{to_z-of_z}
use Rattle.listings.proofs.Putting.{puts_count, puts_number, field_room, second_field, third_field, field_then, field_last}
use Rattle.claim_listing.specs.ClaimText.{head_fields}
use Rattle.claim_listing.proofs.claim_text.head_text.Goals as goal

pub counted-n-requires : goal.counted-n-requires
unfolding head_fields
counted-n-requires c = search (field_room, puts_count)

pub counted-m-requires : goal.counted-m-requires
unfolding head_fields
counted-m-requires c = search (second_field, puts_count)

pub numbered-requires : goal.numbered-requires
unfolding head_fields
numbered-requires c = search (third_field, puts_count, puts_number, to_z-of_z)

pub returns : goal.returns
unfolding head_fields
returns c = search (field_then, field_last, puts_count, puts_number, to_z-of_z)
