-- A claim none of whose variables is limited is judged as note 3 says.
use Rattle.std.specs.Prelude.{◌≡◌, List, ◌↔◌, ℕ, ℤ, pos, ◌*ℤ◌, ◌≤ℤ◌}
use Rattle.points.specs.Points.{Exponents, keeps_sign}
use Rattle.monomials.specs.Powers.{Allowed}
use Rattle.squares.specs.Sums.{coefficient, value_at}
use Rattle.squares.specs.Domains.{Unlimited, Admits}
use Rattle.squares.specs.Targets.{lowered, worst}
use Rattle.squares.specs.Floor.{WholeFloors}
use Rattle.squares.specs.declared.limits.Limit.{Limit}
use Rattle.sheets.specs.Layout.{variables, mask_of}
use Rattle.sheets.specs.ClaimSheet.{domain_with, terms_of}
use Rattle.limits.specs.LimitsSheet.{limit_in}
use Rattle.targets.specs.Targets.{target_of}
use Rattle.targets.specs.declared.targets.Aim.{Aim}

-- "A point whose odd exponents all belong to masked variables has target S times its coefficient, sign kept"
unfoldable pub plain_target : List ℕ → ℕ → ℤ → Exponents → ℤ
plain_target c S b α =
    pos S *ℤ worst (keeps_sign (mask_of c) α) (coefficient α (lowered (variables c) b (terms_of c)))

pub record TargetsUnlimited (c : List ℕ) : Type 0 where
  pub targets : (a : Aim) → Unlimited (limit_in a.limits)
      → (α : Exponents) → target_of c a α ≡ plain_target c a.scale a.floor α
  -- and where every multiplier is 0, limits change no target
  pub idle : (a : Aim) → ((i : ℕ) → (limit_in a.limits i).multiplier ≡ 0)
      → (α : Exponents) → target_of c a α ≡ plain_target c a.scale a.floor α
  -- "The floor holds at whole points with masked variables at least 0"
  pub floors : (limits : ℕ → Limit) → Unlimited limits
      → (b : ℤ) → WholeFloors (domain_with c limits) b (terms_of c)
      ↔ ((x : List ℤ) → Allowed (mask_of c) x → b ≤ℤ value_at x (terms_of c))
  pub admits : (limits : ℕ → Limit) → Unlimited limits
      → (d : ℕ) (x : List ℤ) → Admits (domain_with c limits) d x ↔ Allowed (mask_of c) x
