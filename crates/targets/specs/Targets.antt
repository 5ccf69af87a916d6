-- Targets of a claim sheet, for any floor, scale and limits.
use Rattle.std.specs.Prelude.{Bool, cond, List, ◌≡◌, ℕ, ◌≤◌, eqb, ℤ, pos, nat_abs, ◌+ℤ◌, ◌-ℤ◌, ◌*ℤ◌, Option, Some, None}
use Rattle.bounds.specs.Bounds.{greatest_weight, greatest_scale}
use Rattle.answers.specs.Searches.{first}
use Rattle.points.specs.Points.{Exponents, keeps_sign}
use Rattle.keys.specs.Keys.{key_of}
use Rattle.squares.specs.Targets.{lowered, worst, target}
use Rattle.sheets.specs.Layout.{variables, term_count}
use Rattle.sheets.specs.ClaimSheet.{domain_with, floor_of, term_point, coefficient_of, terms_of}
use Rattle.rows.specs.ProofSheet.{scale_of}
use Rattle.limits.specs.LimitsSheet.{limits_of, limit_in}
use Rattle.limits.specs.LimitChecks.{RightLimits}
use Rattle.limits.specs.Additions.{limits_add}
use Rattle.claims.specs.ClaimChecks.{ClaimFacts}
use Rattle.targets.specs.Carried.{Carried}
use Rattle.targets.specs.declared.targets.Aim.{Aim}

-- a floor, a scale and limits that the sheets can hold
pub record AimWithin (a : Aim) : Type 0 where
  pub floor_within : nat_abs a.floor ≤ greatest_weight
  pub scale_within : a.scale ≤ greatest_scale
  pub limits_right : RightLimits a.limits

-- the claim's floor, the proof's scale and the sheet's limits
unfoldable pub aim_of : List ℕ → List ℕ → List ℕ → Aim
aim_of c s l = record { floor = floor_of c; scale = scale_of s; limits = limits_of l (variables c) }

-- with another floor
unfoldable pub at_floor : Aim → ℤ → Aim
at_floor a b = record { floor = b; scale = a.scale; limits = a.limits }

-- "Let g be f with b taken from its constant coefficient": the target at a point
unfoldable pub target_of : List ℕ → Aim → Exponents → ℤ
target_of c a α =
    target (domain_with c (limit_in a.limits)) a.scale (lowered (variables c) a.floor (terms_of c)) α

-- a point that sheets can hold, with its key, beside a claim that passes 1 to 7 and an aim within its bounds
pub record Targeted (c : List ℕ) (a : Aim) (α : Exponents) (key : ℕ) : Type 0 where
  pub claim : ClaimFacts c (variables c) (term_count c)
  pub aim : AimWithin a
  pub point : Carried (variables c) α
  pub keyed : key ≡ key_of α

-- ---- by keys, as the code finds it: `target_here` of proofs/targets/Steps.antt shows that it is the target

-- whether term i has a key
unfoldable pub has_key : List ℕ → ℕ → ℕ → ℕ → Bool
has_key c n key i = eqb key (key_of (term_point c n i))

-- the coefficient of the term that was found, 0 where none was
unfoldable pub coefficient_found : List ℕ → ℕ → ℕ → Option ℕ → ℤ
coefficient_found c n t (Some i) = coefficient_of c n t i
coefficient_found c n t None = pos 0

unfoldable pub coefficient_with : List ℕ → ℕ → ℕ → ℕ → ℤ
coefficient_with c n t key = coefficient_found c n t (first (has_key c n key) t)

-- a coefficient, with the floor taken from it where it is the constant's
unfoldable pub lowered_by : Aim → ℕ → ℤ → ℤ
lowered_by a key x = cond (eqb key 0) (x -ℤ a.floor) x

-- the target at a point of n exponents, by the mask, its key and its coefficient
unfoldable pub target_with : ℕ → ℕ → Aim → Exponents → ℕ → ℤ → ℤ
target_with n mask a α key x =
    pos a.scale *ℤ worst (keeps_sign mask α) (lowered_by a key x) +ℤ limits_add a.limits key n
