-- Searches: "the first offending term or row from 0".
use Rattle.std.specs.Prelude.{◌≡◌, Bool, cond, Option, Some, None, ℕ, zero, suc, ◌<◌}

-- what was found before, or else index i where something is wrong there
unfoldable pub kept : Option ℕ → Bool → ℕ → Option ℕ
kept (Some j) wrong i = Some j
kept None wrong i = cond wrong (Some i) None

-- the first index below n at which something is wrong, or whatever else is looked for
unfoldable pub first : (ℕ → Bool) → ℕ → Option ℕ
first wrong zero = None
first wrong (suc n) = kept (first wrong n) (wrong n) n

-- what a closure's answers, `answers i b`, find below n: the first index by whatever test they are known to compute
abbrev pub FindsFirst : (ℕ → Bool → Type 0) → ℕ → Option ℕ → Type 0
FindsFirst answers n found =
    (wrong : ℕ → Bool) → ((i : ℕ) (b : Bool) → i < n → answers i b → b ≡ wrong i) → found ≡ first wrong n
