-- A claim none of whose variables is limited, from the laws of its targets and its domain.
use mathlib.Core.Path.{◌∙◌}
use mathlib.Core.List.{List}
use Prim.Native.Nat.{ℕ}
use Rattle.squares.proofs.Targets.{target_unlimited, target_idle}
use Rattle.squares.proofs.Floor.{admits_allowed, floors_unlimited}
use Rattle.sheets.specs.ClaimSheet.{domain_with, terms_of}
use Rattle.limits.specs.LimitsSheet.{limit_in}
use Rattle.targets.specs.Unlimited.{plain_target, TargetsUnlimited}
use Rattle.targets.proofs.targets.Laws.{target_of_lem}

pub targets_unlimited : (c : List ℕ) → TargetsUnlimited c
unfolding plain_target
targets_unlimited c = record {
  targets = λ a u α. target_of_lem c a α ∙ target_unlimited (domain_with c (limit_in a.limits)) a.scale _ α u;
  idle = λ a z α. target_of_lem c a α ∙ target_idle (domain_with c (limit_in a.limits)) a.scale _ α z;
  floors = λ limits u b. floors_unlimited (domain_with c limits) b (terms_of c) u;
  admits = λ limits u d x. (λ h. h.allowed, admits_allowed (domain_with c limits) d x u);
}
