-- Laws of targets: the aim of checked sheets, and the target as document 01 has it.
use mathlib.Core.Path.{◌≡◌, refl, fun_ext}
use mathlib.Core.Bool.{true, false}
use mathlib.Core.List.{List}
use Prim.Native.Nat.{ℕ, ◌≤◌}
use native.Mathlib.Omega.{arith}
use lib.Dec.{lit<}
use lib.IntN.{ℤ, nat_abs}
use lib.ListN.{length, replicate}
use lib.Signed.{◌≤ℤ◌}
use Rattle.integers.proofs.Integers.{fits_within}
use Rattle.bounds.specs.Bounds.{greatest_weight, greatest_scale}
use Rattle.points.specs.Points.{Exponents, same_point}
use Rattle.squares.specs.Targets.{lowered, target}
use Rattle.squares.proofs.Targets.{target_other, target_falls}
use Rattle.sheets.specs.Layout.{variables}
use Rattle.sheets.specs.ClaimSheet.{domain_with, floor_of, with_floor, terms_of}
use Rattle.sheets.proofs.claim_sheet.Laws.{floored_floor, floored_before, floored_domain, floored_terms}
use Rattle.rows.specs.ProofSheet.{scale_of}
use Rattle.limits.specs.LimitsSheet.{limits_of, limit_in, domain_of}
use Rattle.limits.specs.LimitChecks.{RightLimits}
use Rattle.targets.specs.Targets.{AimWithin, aim_of, at_floor, target_of}
use Rattle.targets.specs.declared.targets.Aim.{Aim}

-- ---- the aim of checked sheets

-- the aim of sheets with a floor and a scale in their bounds and right limits, and its targets
pub aim_within : (c s l : List ℕ) → nat_abs (floor_of c) ≤ greatest_weight → scale_of s ≤ greatest_scale
    → RightLimits (limits_of l (variables c)) → AimWithin (aim_of c s l)
unfolding aim_of
aim_within c s l b S r = record { floor_within = b; scale_within = S; limits_right = r }

pub targets_are : (c s l : List ℕ) (α : Exponents) → target_of c (aim_of c s l) α
    ≡ target (domain_of c l) (scale_of s) (lowered (variables c) (floor_of c) (terms_of c)) α
unfolding aim_of target_of
targets_are c s l α = refl

-- what it is made of
module _ (c s l : List ℕ) where
  pub aim_floor : (aim_of c s l).floor ≡ floor_of c
  unfolding aim_of
  aim_floor = refl

  pub aim_scale : (aim_of c s l).scale ≡ scale_of s
  unfolding aim_of
  aim_scale = refl

  pub aim_limits : (aim_of c s l).limits ≡ limits_of l (variables c)
  unfolding aim_of
  aim_limits = refl

-- with another floor
pub floor_at : (a : Aim) (b : ℤ) → (at_floor a b).floor ≡ b
unfolding at_floor
floor_at a b = refl

pub floor_within_at : (a : Aim) (b : ℤ) → AimWithin a → nat_abs b ≤ greatest_weight → AimWithin (at_floor a b)
unfolding at_floor
floor_within_at a b h w =
    record { floor_within = w; scale_within = h.scale_within; limits_right = h.limits_right }

-- ---- targets

pub target_of_lem : (c : List ℕ) (a : Aim) (α : Exponents)
    → target_of c a α
    ≡ target (domain_with c (limit_in a.limits)) a.scale (lowered (variables c) a.floor (terms_of c)) α
unfolding target_of
target_of_lem c a α = refl

-- with floor b in the claim they are those of the claim as it stands, for that floor
pub targets_floored : (c : List ℕ) (a : Aim) (b : ℤ) → target_of (with_floor c b) a ≡ target_of c a
unfolding target_of
targets_floored c a b =
    fun_ext (λ α. rw (floored_terms c b, floored_domain c b (limit_in a.limits), floored_before c b 0 (omega arith)))

pub aim_floored : (c s l : List ℕ) (b : ℤ) → 8 ≤ length c → nat_abs b ≤ greatest_weight
    → aim_of (with_floor c b) s l ≡ at_floor (aim_of c s l) b
unfolding aim_of at_floor
aim_floored c s l b k w =
    rw (floored_floor c b k (fits_within b greatest_weight w (lit< tt)), floored_before c b 0 (omega arith))

-- with a higher floor b' they are no larger at the constant, and the same elsewhere
module _ (c : List ℕ) (a : Aim) (b b' : ℤ) (α : Exponents) where
  pub targets_other : same_point α (replicate (variables c) 0) ≡ false
      → target_of c (at_floor a b') α ≡ target_of c (at_floor a b) α
  unfolding target_of at_floor
  targets_other = target_other (domain_with c (limit_in a.limits)) a.scale (terms_of c) b b' α

  pub targets_fall : same_point α (replicate (variables c) 0) ≡ true → b ≤ℤ b'
      → target_of c (at_floor a b') α ≤ℤ target_of c (at_floor a b) α
  unfolding target_of at_floor
  targets_fall = target_falls (domain_with c (limit_in a.limits)) a.scale (terms_of c) b b' α
