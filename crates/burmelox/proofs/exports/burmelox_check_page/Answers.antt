use borrow.Author.Rules.{rules}
use Rattle.burmelox.proofs.exports.Steps.{page_code, page_coded, page_promised, paged_short}
use Rattle.burmelox.proofs.exports.burmelox_check_page.Goals as goal

named : {A B C D E : Type 0} → A × B × C × D × E → record { code : A; answer : B; written : C; page : D; promises : E }
named h = record { code = h.0; answer = h.1; written = h.2; page = h.3; promises = h.4 }

pub code-requires : goal.code-requires
code-requires c = search paged_short

pub returns : goal.returns
returns c = named (search page_code, search page_coded, search rules, search rules, search page_promised)
