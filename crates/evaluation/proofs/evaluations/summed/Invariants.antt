use Rattle.std.proofs.Common.{◌≡◌, ◌*◌, ◌≤◌, nat_abs, None}
use Rattle.bounds.specs.Bounds.{greatest_value}
use Rattle.answers.specs.Searches.{first}
use Rattle.evaluation.specs.Evaluations.{too_large, sum_to}
use Rattle.evaluation.proofs.evaluations.summed.Given as goal

abbrev pub invariant-loop-i : goal.invariant-loop-i
invariant-loop-i l =
    (first (too_large l.claim l.n l.t l.offsets) l.i ≡ None)
    × (nat_abs (sum_to l.claim l.n l.t l.offsets l.i) ≤ l.i * greatest_value) × (l.sum ≡ sum_to l.claim l.n l.t l.offsets l.i)
