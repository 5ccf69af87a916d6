use borrow.Author.Rules.{rules}
use Rattle.text.proofs.text.Laws.{texts_start}
use Rattle.limits_listing.proofs.limits_text.Steps.{lines_there, head_room, line_room, line_next, feed_room, whole_written}
use Rattle.limits_listing.proofs.limits_text.whole_text.Goals as goal

pub counted-end-requires : goal.counted-end-requires
counted-end-requires c = search head_room

pub loop-i-init : goal.loop-i-init
loop-i-init c = texts_start _ _ _ c.counted-end.ensures.inside

pub limit_at-requires : goal.limit_at-requires
limit_at-requires c = (search lines_there, search rules)

pub variable_text-end-requires : goal.variable_text-end-requires
variable_text-end-requires c = search line_room

pub loop-i-preserved : goal.loop-i-preserved
loop-i-preserved c = search line_next

pub put_byte-requires : goal.put_byte-requires
put_byte-requires c = search feed_room

pub returns : goal.returns
returns c = search whole_written
