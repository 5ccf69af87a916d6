use Rattle.std.proofs.Common.{rules, ◌∙◌}
use Rattle.judging.proofs.check.Steps.{promises}
use Rattle.judging.proofs.check.check.Goals as goal

pub returns-clause-promises : goal.returns-clause-promises
returns-clause-promises c =
    promises _ _ _ _ _ _ (c.into.ensures ∙ c.judged.ensures.verdict) (search rules) _ c.judged.ensures.written
