use Rattle.std.proofs.Common.{◌≡◌, ◌<◌, ℕ, Bool, None}
use Rattle.answers.specs.Searches.{first}
use Rattle.answers.proofs.searches.first_at.Given as goal

abbrev pub invariant-loop-i : goal.invariant-loop-i
invariant-loop-i g l =
    (wrong : ℕ → Bool) → ((i : ℕ) (b : Bool) → i < l.n → goal.F-post g l.wrong i b → b ≡ wrong i)
    → first wrong l.i ≡ None
