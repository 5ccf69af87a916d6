use Rattle.listings.proofs.Putting.{puts_count, field_room, second_field, third_field, field_then, field_last}
use Rattle.limits_listing.specs.ProfileText.{profile_fields}
use Rattle.limits_listing.proofs.profile_text.bounds_text.Goals as goal

pub counted-e-requires : goal.counted-e-requires
unfolding profile_fields
counted-e-requires c = search (field_room, puts_count)

pub counted-w-requires : goal.counted-w-requires
unfolding profile_fields
counted-w-requires c = search (second_field, puts_count)

pub counted-requires : goal.counted-requires
unfolding profile_fields
counted-requires c = search (third_field, puts_count)

pub returns : goal.returns
unfolding profile_fields
returns c = search (field_then, field_last, puts_count)
