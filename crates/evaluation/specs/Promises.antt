-- What an evaluation promises.
use Rattle.std.specs.Prelude.{◌≡◌, List, ℕ, ◌<◌, ◌≤◌, ℤ, nat_abs, length, ◌≤ℤ◌}
use Rattle.bounds.specs.Bounds.{greatest_value}
use Rattle.bounds.specs.Profiles.{Larger}
use Rattle.bounds.specs.declared.profiles.Profile.{Profile}
use Rattle.answers.specs.Answers.{Passes}
use Rattle.monomials.specs.Powers.{Allowed}
use Rattle.squares.specs.Sums.{value_at}
use Rattle.squares.specs.Domains.{Unlimited, Admits}
use Rattle.sheets.specs.Layout.{variables, term_count, mask_of}
use Rattle.sheets.specs.ClaimSheet.{floor_of, terms_of}
use Rattle.limits.specs.LimitsSheet.{domain_of}
use Rattle.claims.specs.ClaimChecks.{claim_answer}
use Rattle.judging.specs.Check.{check_answer}
use Rattle.evaluation.specs.Evaluations.{value, term_value, evaluation_of}
use Rattle.evaluation.specs.Full.{EvaluationFull}

-- "Offsets are n signed 32-bit numbers", for a claim that passes its checks, with "every term's exact absolute value ..
-- at most 2^56"
pub record Evaluable (c : List ℕ) (π : Profile) (x : List ℤ) : Type 0 where
  pub formed : Passes (claim_answer c π)
  pub counted : length x ≡ variables c
  pub small : (i : ℕ) → i < term_count c → nat_abs (term_value c (variables c) (term_count c) x i) ≤ greatest_value

-- `Gives z` says that the entry point gave the value z, as its caller sees it
pub record EvaluationPromises (c : List ℕ) (π : Profile) (x : List ℤ) (Gives : ℤ → Type 0) : Type 0 where
  -- "The exact value of f is given if every term's exact absolute value is at most 2^56", and only then
  pub given : Evaluable c π x → Gives (value_at x (terms_of c))
  pub exact : (z : ℤ) → Gives z → Evaluable c π x × (z ≡ value_at x (terms_of c))
  -- Demand 3: "At whatever offsets that claim is evaluated, every value reported is the polynomial's exact value there
  -- and at least the floor", where the claim is accepted with some proof and output; by note 3 "evaluation takes any
  -- point and promises the floor only there", where the mask allows the offsets and each limited variable is within ±L,
  -- for every limits sheet and every profile with which the claim is accepted
  pub floored : (s l : List ℕ) (ρ : Profile) (out : List ℕ) → Passes (check_answer c s l ρ (length out))
      → Admits (domain_of c l) 1 x → (z : ℤ) → Gives z → floor_of c ≤ℤ z
  -- where no variable is limited "at whole points with masked variables at least 0"
  pub unlimited : (s l : List ℕ) (ρ : Profile) (out : List ℕ) → Passes (check_answer c s l ρ (length out))
      → Unlimited (domain_of c l).limits → Allowed (mask_of c) x → (z : ℤ) → Gives z → floor_of c ≤ℤ z
  -- and without a mask wherever it is evaluated
  pub everywhere : (s l : List ℕ) (ρ : Profile) (out : List ℕ) → Passes (check_answer c s l ρ (length out))
      → Unlimited (domain_of c l).limits → mask_of c ≡ 0 → (z : ℤ) → Gives z → floor_of c ≤ℤ z
  -- note 7: under a larger profile the same value is given
  pub larger : (z : ℤ) → Gives z → (ρ : Profile) → Larger π ρ → evaluation_of c ρ x ≡ value z
  -- "the full profile gives the old verdicts"
  pub full : EvaluationFull c x
