-- A claim without a mask and without limits, from the laws of its header, its targets and its domain.
use mathlib.Core.Path.{◌∙◌}
use Rattle.squares.proofs.Targets.{target_unmasked}
use Rattle.squares.proofs.Floor.{admits_all, floors_unmasked}
use Rattle.sheets.specs.ClaimSheet.{domain_with, terms_of}
use Rattle.limits.specs.LimitsSheet.{limit_in}
use Rattle.claims.proofs.claim_checks.Laws.{header_unmasked}
use Rattle.targets.specs.Unmasked.{Unmasked}
use Rattle.targets.proofs.targets.Laws.{target_of_lem}

pub unmasked : Unmasked
unmasked c z = record {
  header = header_unmasked c z;
  targets = λ a u α. target_of_lem c a α ∙ target_unmasked (domain_with c (limit_in a.limits)) a.scale _ α u z;
  floors = λ limits u b. floors_unmasked (domain_with c limits) b (terms_of c) u z;
  admits = λ limits u d x. admits_all (domain_with c limits) d x u z;
}
