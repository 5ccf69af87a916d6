-- A claim without a mask, none of whose variables is limited, is judged as document 01 says, and admits all offsets.
use Rattle.std.specs.Prelude.{◌≡◌, ◌&&◌, List, ◌↔◌, ℕ, ◌%◌, eqb, ℤ, pos, ◌*ℤ◌, get_or, ◌≤ℤ◌}
use Rattle.std.specs.List.{list_all}
use Rattle.points.specs.Points.{Exponents}
use Rattle.squares.specs.Sums.{coefficient, value_at}
use Rattle.squares.specs.Domains.{Unlimited, Admits}
use Rattle.squares.specs.Targets.{lowered, worst}
use Rattle.squares.specs.Floor.{WholeFloors}
use Rattle.squares.specs.declared.limits.Limit.{Limit}
use Rattle.sheets.specs.Layout.{variables, mask_of}
use Rattle.sheets.specs.ClaimSheet.{domain_with, terms_of}
use Rattle.limits.specs.LimitsSheet.{limit_in}
use Rattle.claims.specs.ClaimChecks.{counts_right, claim_header_right}
use Rattle.targets.specs.Targets.{target_of}
use Rattle.targets.specs.declared.targets.Aim.{Aim}

pub record AsBefore (c : List ℕ) : Type 0 where
  -- 2: "Bytes 2 and 3: zero"
  pub header : claim_header_right c ≡ counts_right c && eqb (get_or c 2 0) 0 && eqb (get_or c 3 0) 0
  -- "S times the coefficient of g if every exponent is even, else minus S times its absolute value"
  pub targets : (a : Aim) → Unlimited (limit_in a.limits) → (α : Exponents) → target_of c a α
      ≡ pos a.scale *ℤ worst (list_all (λ e. eqb (e % 2) 0) α)
      (coefficient α (lowered (variables c) a.floor (terms_of c)))
  -- Demand 3: "at all whole offsets, of either sign and however large", the floor and the values
  pub floors : (limits : ℕ → Limit) → Unlimited limits
      → (b : ℤ) → WholeFloors (domain_with c limits) b (terms_of c) ↔ ((x : List ℤ) → b ≤ℤ value_at x (terms_of c))
  -- and every x / d is admitted
  pub admits : (limits : ℕ → Limit) → Unlimited limits → (d : ℕ) (x : List ℤ) → Admits (domain_with c limits) d x

abbrev pub Unmasked : Type 0
Unmasked = (c : List ℕ) → mask_of c ≡ 0 → AsBefore c
