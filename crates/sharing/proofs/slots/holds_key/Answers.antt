use Rattle.sharing.proofs.slots.Steps.{ends_fit, key_doubles, key_told}
use Rattle.sharing.proofs.slots.holds_key.Goals as goal

pub overflow_add-result : goal.overflow_add-result
overflow_add-result c = search ends_fit

pub overflow_mul-result : goal.overflow_mul-result
overflow_mul-result c = search key_doubles

pub returns : goal.returns
returns c = search key_told
