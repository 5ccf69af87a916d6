use borrow.Author.Rules.{rules}
use Rattle.listings.proofs.Putting.{puts_count, field_room}
use Rattle.proof_listing.specs.ProofText.{row_fields}
use Rattle.proof_listing.proofs.proof_text.Steps.{lone_next, lone_row, pair_next, pair_row}
use Rattle.proof_listing.proofs.proof_text.row_text.Goals as goal

pub counted-index-requires : goal.counted-index-requires
unfolding row_fields
counted-index-requires c = search (field_room, puts_count)

pub lone_text-requires : goal.lone_text-requires
lone_text-requires c = (search rules, search rules, search rules, search lone_next)

pub returns-then-is_lone : goal.returns-then-is_lone
returns-then-is_lone c = search lone_row

pub pair_text-requires : goal.pair_text-requires
pair_text-requires c = (search rules, search rules, search rules, search pair_next)

pub returns : goal.returns
returns c = search pair_row
