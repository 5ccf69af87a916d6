use borrow.Author.Rules.{rules}
use Rattle.evaluation.proofs.evaluations.Steps.{claim_refused, offsets_refused, terms_room, all_summed, promised}
use Rattle.evaluation.proofs.evaluations.evaluate.Goals as goal

pub returns-in_err-check_claim-clause-promises : goal.returns-in_err-check_claim-clause-promises
returns-in_err-check_claim-clause-promises c = promised _ _ _ _ (search (rules, claim_refused))

pub returns-then-offsets-n-clause-promises : goal.returns-then-offsets-n-clause-promises
returns-then-offsets-n-clause-promises c =
    promised _ _ _ _
    (offsets_refused _ _ _ c.in_ok-check_claim.ensures _ c.variables-n.ensures.0 c.if-offsets-n.true)

pub summed-requires : goal.summed-requires
summed-requires c = terms_room _ _ _ _ c.in_ok-check_claim.ensures c.variables-n.ensures.0 c.term_count.ensures.0

pub returns-clause-promises : goal.returns-clause-promises
returns-clause-promises c =
    promised _ _ _ _
    (all_summed _ _ _ c.in_ok-check_claim.ensures _ c.variables-n.ensures.0 _ c.term_count.ensures.0 _
    c.if-offsets-n.false c.summed.ensures)
