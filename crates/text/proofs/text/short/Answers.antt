use borrow.Author.Rules.{rules}
use Rattle.text.proofs.text.Steps.{one_room, one_written, tens_room, ones_room, two_written}
use Rattle.text.proofs.text.short.Goals as goal

pub put_byte-requires : goal.put_byte-requires
put_byte-requires c = search (rules, one_room)

pub returns-then-n-lt10 : goal.returns-then-n-lt10
returns-then-n-lt10 c = search (rules, one_written)

pub put_byte-ones-requires : goal.put_byte-ones-requires
put_byte-ones-requires c = search (rules, tens_room)

pub put_byte-requires-2 : goal.put_byte-requires-2
put_byte-requires-2 c = search (rules, ones_room)

pub returns : goal.returns
returns c = search (rules, two_written)
