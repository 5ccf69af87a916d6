use borrow.Author.Rules.{rules}
use native.Mathlib.Omega.{arith}
use Rattle.burmelox_check.proofs.input.Steps.{end_short, end_wrong, end_said}
use Rattle.burmelox_check.proofs.input.claim_end.Goals as goal

pub returns-then-input-lt8 : goal.returns-then-input-lt8
returns-then-input-lt8 c = (search end_short, search rules)

pub returns-then-header_wrong : goal.returns-then-header_wrong
returns-then-header_wrong c = (search end_wrong, search rules)

pub returns : goal.returns
returns c = (search end_said, omega (arith, c.min.ensures))
