use borrow.Author.Rules.{rules}
use Rattle.burmelox.proofs.exports.Steps.{check_code, check_coded, check_promised, checked_short}
use Rattle.burmelox.proofs.exports.burmelox_check.Goals as goal

named : {A B C D : Type 0} → A × B × C × D → record { code : A; answer : B; written : C; promises : D }
named h = record { code = h.0; answer = h.1; written = h.2; promises = h.3 }

pub code-requires : goal.code-requires
code-requires c = search checked_short

pub returns : goal.returns
returns c = named (search check_code, search check_coded, search rules, search check_promised)
