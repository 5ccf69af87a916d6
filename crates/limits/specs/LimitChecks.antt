-- Checks of the limits sheet: refusals 24 and 25.
use Rattle.std.specs.Prelude.{◌≡◌, Bool, cond, not, ◌&&◌, ◌||◌, List, ◌⊎◌, ℕ, ◌≤◌, eqb, leb, length}
use Rattle.bounds.specs.Bounds.{greatest_limit, greatest_multiplier}
use Rattle.answers.specs.Answers.{Answer, accepted, refuse_if, refuse_at, Passes}
use Rattle.answers.specs.Searches.{first}
use Rattle.squares.specs.Domains.{Unlimited}
use Rattle.squares.specs.declared.limits.Limit.{Limit}
use Rattle.sheets.specs.Layout.{variables, limits_length}
use Rattle.limits.specs.LimitsSheet.{limit_of, limits_of, limit_in}
use Rattle.limits.specs.declared.limits_sheet.Limits.{Limits}

-- 24: "limits sheet of wrong length or n", where n is the claim's
unfoldable pub limits_shaped : ℕ → List ℕ → Bool
limits_shaped n l = eqb (length l) (limits_length n) && eqb (variables l) n

-- "A power of 0 means unlimited, and then L and m are 0"
pub record IsUnlimited (l : Limit) : Type 0 where
  pub power_none : l.power ≡ 0
  pub bound_none : l.bound ≡ 0
  pub multiplier_none : l.multiplier ≡ 0

-- "power (.., 0, 2 or 4) and limit L (.., 1 to 1,023)", and a multiplier "0 to 65,536"
pub record IsLimited (l : Limit) : Type 0 where
  pub right_power : (l.power ≡ 2) ⊎ (l.power ≡ 4)
  pub bound_some : 1 ≤ l.bound
  pub bound_within : l.bound ≤ greatest_limit
  pub multiplier_within : l.multiplier ≤ greatest_multiplier

-- power, L and m are as said
abbrev pub RightLimit : Limit → Type 0
RightLimit l = IsUnlimited l ⊎ IsLimited l

-- the same as a test
unfoldable pub power_right : ℕ → Bool
power_right power = eqb power 2 || eqb power 4

unfoldable pub limit_right : Limit → Bool
limit_right l =
    cond (eqb l.power 0) (eqb l.bound 0 && eqb l.multiplier 0)
    (power_right l.power && leb 1 l.bound && leb l.bound greatest_limit
    && leb l.multiplier greatest_multiplier)

-- 25: "a power, L or m not as said", of variable i
unfoldable pub limit_breaks : List ℕ → ℕ → ℕ → Bool
limit_breaks l n i = not (limit_right (limit_of l n i))

-- 24 and 25, "with the first such variable as index"
unfoldable pub limits_answer : ℕ → List ℕ → Answer
limits_answer n l =
    refuse_if (not (limits_shaped n l)) 24
    (refuse_at (first (limit_breaks l n) n) 25
    (accepted 0))

-- a sheet that passes 24 and 25 and limits no variable
pub record LimitsNone (n : ℕ) (l : List ℕ) : Type 0 where
  pub passes : Passes (limits_answer n l)
  pub unlimited : Unlimited (limit_in (limits_of l n))

-- limits by value that are as said
pub record RightLimits (limits : Limits) : Type 0 where
  pub right : (i : ℕ) → RightLimit (limit_in limits i)
