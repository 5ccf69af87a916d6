use borrow.Author.Rules.{rules}
use Rattle.text.proofs.text.Laws.{texts_start, texts_next}
use Rattle.claim_listing.proofs.claim_text.Steps.{header_there, terms_there, some_there, head_room, term_room, feed_room, whole_written}
use Rattle.claim_listing.proofs.claim_text.whole_text.Goals as goal

pub variables-n-requires : goal.variables-n-requires
variables-n-requires c = search header_there

pub term_count-t-requires : goal.term_count-t-requires
term_count-t-requires c = search header_there

pub head_text-end-requires : goal.head_text-end-requires
head_text-end-requires c = (search header_there, search head_room)

pub loop-i-init : goal.loop-i-init
loop-i-init c = texts_start _ _ _ c.head_text-end.ensures.inside

pub term_text-end-requires : goal.term_text-end-requires
term_text-end-requires c = (search terms_there, search some_there, search rules, search term_room)

pub loop-i-preserved : goal.loop-i-preserved
loop-i-preserved c = search texts_next

pub put_byte-requires : goal.put_byte-requires
put_byte-requires c = search feed_room

pub returns : goal.returns
returns c = search whole_written
