use borrow.Author.Rules.{rules}
use Rattle.sharing.proofs.slots.Steps.{first_added, later_added, none_added, ends_fit, p_inside, later_inside, p_within, later_within, tally_room}
use Rattle.sharing.proofs.slots.add_row.Goals as goal

pub add-requires : goal.add-requires
add-requires c = search (rules, p_inside, p_within, tally_room)

pub returns-then-key-v : goal.returns-then-key-v
returns-then-key-v c = search first_added

pub overflow_add-v : goal.overflow_add-v
overflow_add-v c = search ends_fit

pub add-requires-then-key-w : goal.add-requires-then-key-w
add-requires-then-key-w c = search (rules, later_inside, later_within, tally_room)

pub returns-then-key-w : goal.returns-then-key-w
returns-then-key-w c = search later_added

pub returns : goal.returns
returns c = search none_added
