use Rattle.limits_listing.proofs.limits_text.Steps.{unlimited_written, limited_room, limited_written}
use Rattle.limits_listing.proofs.limits_text.variable_text.Goals as goal

pub returns-then-limit-eq0 : goal.returns-then-limit-eq0
returns-then-limit-eq0 c = search unlimited_written

pub line_text-requires : goal.line_text-requires
line_text-requires c = search limited_room

pub returns : goal.returns
returns c = search limited_written
