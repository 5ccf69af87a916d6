use borrow.Author.Rules.{rules}
use Rattle.text.proofs.text.Laws.{texts_start, texts_next}
use Rattle.proof_listing.proofs.proof_text.Steps.{header_there, rows_there, some_there, head_room, row_room, feed_room, whole_written}
use Rattle.proof_listing.proofs.proof_text.whole_text.Goals as goal

pub shape_of-shape-requires : goal.shape_of-shape-requires
shape_of-shape-requires c = search header_there

pub head_text-end-requires : goal.head_text-end-requires
head_text-end-requires c = (search header_there, search head_room)

pub loop-i-init : goal.loop-i-init
loop-i-init c = texts_start _ _ _ c.head_text-end.ensures.inside

pub row_text-end-requires : goal.row_text-end-requires
row_text-end-requires c = (search rows_there, search some_there, search rules, search row_room)

pub loop-i-preserved : goal.loop-i-preserved
loop-i-preserved c = search texts_next

pub put_byte-requires : goal.put_byte-requires
put_byte-requires c = search feed_room

pub returns : goal.returns
returns c = search whole_written
