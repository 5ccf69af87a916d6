-- The steps of reading the limits of all variables.
use mathlib.Core.Path.{◌≡◌, ◌∙◌}
use mathlib.Core.List.{List, ◌++◌, append_assoc}
use Prim.Native.Nat.{ℕ, suc, ◌+◌, ◌-◌, ◌<◌, ◌≤◌}
use native.Mathlib.Numerals.{add-one}
use native.Mathlib.Omega.{arith}
use lib.ListN.{set, replicate}
use lib.Seq.{set_at}
use Rattle.bounds.specs.Bounds.{most_variables}
use Rattle.points.specs.Lists.{table}
use Rattle.points.proofs.Lists.{table_none, table_more, table_length}
use Rattle.squares.specs.declared.limits.Limit.{Limit}
use Rattle.limits.specs.LimitsSheet.{limit_of, unlimited}

-- ---- limits_of: what is filled, and one limit more

module _ (l : List ℕ) (n : ℕ) where
  abbrev pub filled_to : ℕ → List Limit
  filled_to i = table (limit_of l n) i ++ replicate (most_variables - i) unlimited

  pub filled_next : (i : ℕ) (x : List Limit) (a : Limit) → x ≡ filled_to i → a ≡ limit_of l n i → i < n
      → n ≤ most_variables
      → set x i a ≡ filled_to (i + 1)
  filled_next i x a e h k few =
      let left : most_variables - i ≡ suc (most_variables - (i + 1)) = omega arith in
      let rest : List Limit = replicate (most_variables - (i + 1)) unlimited in
      rw (e, h, left)
      (set_at (table (limit_of l n) i) unlimited rest (limit_of l n i) i (table_length (limit_of l n) i)
      ∙ rw (add-one i, table_more (limit_of l n), append_assoc))

pub ruleset filling = (table_none, filled_next)
