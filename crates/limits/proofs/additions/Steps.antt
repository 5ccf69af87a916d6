-- The steps of what the limits add.
use mathlib.Core.Path.{◌≡◌}
use Prim.Native.Nat.{ℕ, suc, ◌+◌, ◌*◌, ◌%◌, ◌^◌, ◌<◌, ◌≤◌}
use native.Mathlib.Numerals.{add-one}
use native.Mathlib.Omega.{arith}
use lib.Dec.{lit<}
use lib.IntN.{ℤ, ◌+ℤ◌}
use lib.Pow.{shl_exact}
use mir.Syntax.{w64}
use mir.Val.{SFits}
use mir.Facts.{to_z-of_z}
use Rattle.integers.proofs.Integers.{back, fits_within}
use Rattle.bounds.specs.Bounds.{most_variables}
use Rattle.squares.specs.declared.limits.Limit.{Limit}
use Rattle.limits.specs.LimitsSheet.{limit_in}
use Rattle.limits.specs.LimitChecks.{RightLimit, RightLimits}
use Rattle.limits.specs.Additions.{limit_adds, limits_add}
use Rattle.limits.specs.declared.limits_sheet.Limits.{Limits}
use Rattle.limits.proofs.limit_checks.Laws.{power_low}
use Rattle.limits.proofs.additions.Laws.{power_small, fall_small, adds_small, limits_small}

-- ---- fall and limit_adds

-- the key of its pure power has 64 bits
pub key_whole : (l : Limit) (i : ℕ) → RightLimit l → i < most_variables
    → l.power * 2 ^ (8 * i) % 2 ^ 64 ≡ l.power * 2 ^ (8 * i)
key_whole l i right inside = shl_exact 8 (8 * i) 64 (omega (arith, power_low l right)) (omega arith)

pub ruleset falling = (power_small, fall_small)

pub ruleset one_limit = (fall_small, key_whole)

-- ---- limits_add

pub adds_fits : (l : Limit) (i key : ℕ) → RightLimit l → SFits w64 (limit_adds l i key)
adds_fits l i key right = fits_within _ (2 ^ 56) (adds_small l i key right) (lit< tt)

pub limits_fit : (limits : Limits) (key : ℕ) → RightLimits limits → (k : ℕ) → k < most_variables
    → SFits w64 (limits_add limits key k +ℤ limit_adds (limit_in limits k) k key)
unfolding limits_add
limits_fit limits key right k inside = fits_within _ (2 ^ 59) (omega (arith, limits_small limits key right (suc k))) (lit< tt)

-- the sum with the next limit: x is what it adds, s what those before add
pub adds_next : (limits : Limits) (key n i : ℕ) (x s : ℤ) → RightLimits limits → i < n → n ≤ most_variables
    → x ≡ limit_adds (limit_in limits i) i key → s ≡ limits_add limits key i
    → back (s +ℤ back x) ≡ limits_add limits key (i + 1)
unfolding limits_add
adds_next limits key n i x s right k few ex es =
    let f : SFits w64 (limit_adds (limit_in limits i) i key) = adds_fits _ i key (right.right i) in
    rw (ex, es, to_z-of_z f, to_z-of_z (limits_fit limits key right i (omega arith)), add-one)

pub ruleset all_limits = (adds_fits, limits_fit, adds_next)
