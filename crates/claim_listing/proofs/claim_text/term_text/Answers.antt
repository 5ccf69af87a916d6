use borrow.Author.Rules.{rules}
use mir.Facts.{to_z-of_z}
use Rattle.listings.proofs.Putting.{puts_count, puts_number, field_room, second_field}
use Rattle.claim_listing.specs.ClaimText.{term_fields}
use Rattle.claim_listing.proofs.claim_text.Steps.{point_inside, point_room, term_written}
use Rattle.claim_listing.proofs.claim_text.term_text.Goals as goal

pub counted-index-requires : goal.counted-index-requires
unfolding term_fields
counted-index-requires c = search (field_room, puts_count)

pub numbered-c-requires : goal.numbered-c-requires
unfolding term_fields
numbered-c-requires c = search (second_field, puts_count, puts_number, to_z-of_z)

pub exponents_text-requires : goal.exponents_text-requires
exponents_text-requires c = (search rules, search point_inside, search (point_room, to_z-of_z))

pub returns : goal.returns
returns c = search (term_written, to_z-of_z)
