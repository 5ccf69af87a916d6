use borrow.Author.Rules.{rules}
use Rattle.proof_listing.proofs.proof_text.Laws.{text_short}
use Rattle.burmelox.proofs.texts.Steps.{text_code, text_coded, text_promised}
use Rattle.burmelox.proofs.texts.burmelox_proof_text.Goals as goal

named : {A B C D : Type 0} → A × B × C × D → record { code : A; answer : B; written : C; promises : D }
named h = record { code = h.0; answer = h.1; written = h.2; promises = h.3 }

pub code-requires : goal.code-requires
code-requires c = search text_short

pub returns : goal.returns
returns c = named (search text_code, search (text_coded, text_short), search rules, search (text_promised, text_short))
