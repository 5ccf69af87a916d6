-- Laws of the limits sheet: each limit by value is the sheet's, and after the last variable there is none; the sheet
-- that limits no variable.
use mathlib.Core.Path.{◌≡◌, refl, ◌∙◌}
use mathlib.Core.List.{List, ◌∷◌}
use Prim.Native.Nat.{ℕ, zero, suc, ◌+◌, ◌-◌, ◌*◌, ◌<◌, ◌≤◌}
use native.Mathlib.Decide.{dec_lt}
use native.Mathlib.Omega.{arith}
use lib.ListN.{length, get_or, replicate, length-replicate, get_or-append}
use lib.Seq.{get_or-append_right}
use Rattle.integers.specs.Words.{u16_at, u32_at}
use Rattle.integers.proofs.words.Laws.{u32_bytes}
use Rattle.bounds.specs.Bounds.{most_variables}
use Rattle.points.specs.Lists.{table}
use Rattle.points.proofs.Lists.{table_length, table_get}
use Rattle.points.proofs.points.Laws.{zeros_get}
use Rattle.squares.specs.Domains.{Unlimited}
use Rattle.sheets.specs.Layout.{variables, power_at, bound_at, multiplier_at, limits_length}
use Rattle.limits.specs.LimitsSheet.{limit_of, unlimited, limits_of, limit_in, no_limits}
use Rattle.limits.specs.LimitChecks.{IsUnlimited}

module _ (l : List ℕ) (n i : ℕ) where
  -- its fields, where they stand
  pub power_byte : (limit_of l n i).power ≡ get_or l (power_at i) 0
  power_byte = refl

  pub bound_word : (limit_of l n i).bound ≡ u16_at l (bound_at i)
  bound_word = refl

  pub multiplier_word : (limit_of l n i).multiplier ≡ u32_at l (multiplier_at n i)
  multiplier_word = refl

  pub limit_read : i < n → limit_in (limits_of l n) i ≡ limit_of l n i
  unfolding limits_of
  limit_read k =
      get_or-append (table (limit_of l n) n) _ unlimited i (rw table_length k) ∙ table_get (limit_of l n) unlimited n i k

  past : n ≤ i → limit_in (limits_of l n) i ≡ unlimited
  unfolding limits_of
  past k =
      get_or-append_right (table (limit_of l n) n) _ i unlimited (rw table_length k) ∙ rest_get (most_variables - n) _
    where
      rest_get : (m j : ℕ) → get_or (replicate m unlimited) j unlimited ≡ unlimited
      rest_get zero j = refl
      rest_get (suc m) zero = refl
      rest_get (suc m) (suc j) = rest_get m j

  pub limit_past : n ≤ i → IsUnlimited (limit_in (limits_of l n) i)
  limit_past k = rw (past k) (record { power_none = refl; bound_none = refl; multiplier_none = refl })

-- ---- the sheet that limits no variable

module _ (n : ℕ) where
  pub none_bytes : no_limits n ≡ n ∷ replicate (7 * n) 0
  unfolding no_limits
  none_bytes = refl

  none_byte : (j : ℕ) → 0 < j → get_or (no_limits n) j 0 ≡ 0
  unfolding no_limits
  none_byte zero l = absurd (omega arith)
  none_byte (suc j) l = zeros_get (7 * n) j

  pub none_length : length (no_limits n) ≡ limits_length n
  unfolding no_limits
  none_length = omega (arith, length-replicate {A = ℕ} (7 * n) 0)

  pub none_variables : variables (no_limits n) ≡ n
  unfolding no_limits
  none_variables = refl

  pub none_limit : (m i : ℕ) → IsUnlimited (limit_of (no_limits n) m i)
  none_limit m i = record {
    power_none = none_byte _ (omega arith);
    bound_none = rw (none_byte (bound_at i) (omega arith), none_byte (bound_at i + 1) (omega arith));
    multiplier_none =
        let at = multiplier_at m i in
        u32_bytes (no_limits n) at ∙ rw (none_byte at (omega arith), none_byte (at + 1) (omega arith))
        (rw (none_byte (at + 2) (omega arith), none_byte (at + 3) (omega arith)));
  }

  pub none_unlimited : Unlimited (limit_in (limits_of (no_limits n) n))
  none_unlimited i = go (dec_lt i n)
    where
      go : Dec (i < n) → (limit_in (limits_of (no_limits n) n) i).power ≡ 0
      go (yes k) = rw (limit_read (no_limits n) n i k) (none_limit n i).power_none
      go (no k) = (limit_past (no_limits n) n i (omega arith)).power_none
