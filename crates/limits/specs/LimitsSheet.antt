-- The limits sheet: the limit of each variable, as the bytes give it, and the domain of a claim within limits.
use Rattle.std.specs.Prelude.{List, ◌∷◌, ◌++◌, ℕ, ◌*◌, ◌-◌, get_or, replicate}
use Rattle.integers.specs.Words.{u16_at, u32_at}
use Rattle.bounds.specs.Bounds.{most_variables}
use Rattle.points.specs.Lists.{table}
use Rattle.squares.specs.Domains.{Domain}
use Rattle.squares.specs.declared.limits.Limit.{Limit}
use Rattle.sheets.specs.Layout.{variables, power_at, bound_at, multiplier_at}
use Rattle.sheets.specs.ClaimSheet.{domain_with}
use Rattle.limits.specs.declared.limits_sheet.Limits.{Limits}

-- "power (one byte ..) and limit L (two bytes ..)", and the multiplier "of four bytes", of variable i in a sheet of n
abbrev pub limit_of : List ℕ → ℕ → ℕ → Limit
limit_of l n i = record {
  power = get_or l (power_at i) 0;
  bound = u16_at l (bound_at i);
  multiplier = u32_at l (multiplier_at n i);
}

-- of no limit: "A power of 0 means unlimited"
abbrev pub unlimited : Limit
unlimited = record { power = 0; bound = 0; multiplier = 0 }

-- those of all variables, by value, in as many places as there can be variables
unfoldable pub limits_of : List ℕ → ℕ → Limits
limits_of l n = record { each = table (limit_of l n) n ++ replicate (most_variables - n) unlimited }

-- the limit of variable i; after the last variable none is limited
abbrev pub limit_in : Limits → ℕ → Limit
limit_in limits i = get_or limits.each i unlimited

-- the sheet that limits no variable: n, and zeros
unfoldable pub no_limits : ℕ → List ℕ
no_limits n = n ∷ replicate (7 * n) 0

-- a claim's variables, those of them that are never negative, and their limits
abbrev pub domain_of : List ℕ → List ℕ → Domain
domain_of c l = domain_with c (limit_in (limits_of l (variables c)))
