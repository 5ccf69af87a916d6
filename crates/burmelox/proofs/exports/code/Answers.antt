use Rattle.burmelox.proofs.exports.Steps.{sheet_fits, code_fits, code_is}
use Rattle.burmelox.proofs.exports.code.Goals as goal

pub overflow_add-result : goal.overflow_add-result
overflow_add-result c = search sheet_fits

pub overflow_add-result-2 : goal.overflow_add-result-2
overflow_add-result-2 c = search code_fits

pub returns : goal.returns
returns c = search code_is
