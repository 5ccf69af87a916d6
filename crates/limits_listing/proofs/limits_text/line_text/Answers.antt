use Rattle.listings.proofs.Putting.{puts_count, field_room, second_field, third_field, fourth_field, field_then, field_last}
use Rattle.limits_listing.specs.LimitsText.{line_fields}
use Rattle.limits_listing.proofs.limits_text.line_text.Goals as goal

pub counted-index-requires : goal.counted-index-requires
unfolding line_fields
counted-index-requires c = search (field_room, puts_count)

pub counted-p-requires : goal.counted-p-requires
unfolding line_fields
counted-p-requires c = search (second_field, puts_count)

pub counted-b-requires : goal.counted-b-requires
unfolding line_fields
counted-b-requires c = search (third_field, puts_count)

pub counted-requires : goal.counted-requires
unfolding line_fields
counted-requires c = search (fourth_field, puts_count)

pub returns : goal.returns
unfolding line_fields
returns c = search (field_then, field_last, puts_count)
