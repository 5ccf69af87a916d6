use borrow.Author.Rules.{rules}
use Rattle.sharing.proofs.slots.Steps.{scan_start, carried_bound, all_fits, all_counted}
use Rattle.sharing.proofs.slots.slots_with.Goals as goal

pub scan-all-requires : goal.scan-all-requires
scan-all-requires c = (search rules, search rules, search rules, search carried_bound, search scan_start)

pub overflow_cast-result : goal.overflow_cast-result
overflow_cast-result c = search all_fits

pub returns : goal.returns
returns c = search all_counted
