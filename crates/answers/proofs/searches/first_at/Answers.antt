use Rattle.std.proofs.Common.{rules, sym, arith}
use Rattle.answers.proofs.searches.Laws.{first_found}
use Rattle.answers.proofs.searches.first_at.Goals as goal

pub returns-then-wrong-clause-first : goal.returns-then-wrong-clause-first
returns-then-wrong-clause-first g c =
    λ test h. sym (first_found test c.args.n c.loop-i.i (omega arith) (c.loop-i.invariant test h) (sym (h _ _ (omega arith) (search rules))))
