use Rattle.limits_listing.proofs.profile_text.Steps.{bounds_room, feed_room, whole_written}
use Rattle.limits_listing.proofs.profile_text.whole_text.Goals as goal

pub bounds_text-bounds-requires : goal.bounds_text-bounds-requires
bounds_text-bounds-requires c = search bounds_room

pub put_byte-requires : goal.put_byte-requires
put_byte-requires c = search feed_room

pub returns : goal.returns
returns c = search whole_written
