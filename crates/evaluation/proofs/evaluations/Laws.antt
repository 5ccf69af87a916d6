-- Laws of evaluations: what checks tell, and what their answer is where a value is given or refused.
use Rattle.std.proofs.Common.{None, Ok, Err}
use mathlib.Core.Path.{◌≡◌, refl, sym, ◌∙◌}
use mathlib.Core.Bool.{false, not}
use mathlib.Core.List.{List}
use Prim.Native.Nat.{ℕ, ◌<◌, ◌≤◌}
use native.Mathlib.Omega.{arith}
use lib.Dec.{eqb}
use lib.IntN.{ℤ}
use lib.ListN.{length}
use Rattle.integers.specs.Words.{Bytes}
use Rattle.integers.proofs.Tests.{never}
use Rattle.bounds.specs.declared.profiles.Profile.{Profile}
use Rattle.answers.specs.Answers as A
use Rattle.answers.specs.Answers.{Answer, accepted, blameless, Passes, Short}
use Rattle.answers.specs.Searches.{first}
use Rattle.answers.specs.declared.answers.Sheet.{Sheet}
use Rattle.answers.proofs.answers.Laws.{passes_or_fails, passes_if, passes_at, passes_then, then_on, if_on, at_on, short_accepted, short_if, short_at, short_then}
use Rattle.squares.specs.Sums.{value_at}
use Rattle.sheets.specs.Layout.{variables, term_count}
use Rattle.sheets.specs.ClaimSheet.{terms_of}
use Rattle.claims.specs.ClaimChecks.{claim_answer}
use Rattle.claims.proofs.claim_checks.Laws.{claim_short}
use Rattle.evaluation.specs.Evaluations as Spec
use Rattle.evaluation.specs.Evaluations.{refusal, tells, told_by, too_large, too_large_answer, evaluation_answer, evaluation_of}

-- ---- what checks with answer a tell; z is the value that is meant

module _ (a : Answer) (z : ℤ) where
  pub told_passed : Passes a → told_by a z ≡ Spec.value z
  unfolding told_by
  told_passed h = rw h

  told_failed : blameless a ≡ false → told_by a z ≡ refusal a
  unfolding told_by
  told_failed h = rw h

  -- a value is told only where every check is passed, and it is the one meant
  pub value_told : (y : ℤ) → told_by a z ≡ Spec.value y → Passes a × (y ≡ z)
  value_told y h =
      passes_or_fails a (λ e. let k = sym (told_passed e) ∙ h in (e, cc))
      (λ e. let k = sym (told_failed e) ∙ h in never (cc))

  -- a refusal is told as the checks answer it
  refusal_told : (b : Answer) → told_by a z ≡ refusal b → b ≡ a
  refusal_told b h =
      passes_or_fails a (λ e. let k = sym (told_passed e) ∙ h in never (cc))
      (λ e. let k = sym (told_failed e) ∙ h in cc)

-- ---- for the crates above

module _ (c : List ℕ) (π : Profile) (x : List ℤ) where
  pub evaluation_short : {limit : ℕ} → 27 < limit → Bytes c → Short limit (evaluation_answer c π x)
  unfolding evaluation_answer too_large_answer
  evaluation_short h b =
      let t : term_count c ≤ 65536 = omega (arith, b 1) in
      short_then _ _ (claim_short c π h b)
      (short_if 20 _ (omega arith) (short_at 21 _ (omega arith) (short_accepted 0 (omega arith) (omega arith)) _ _ t) _)

  module _ (h : Passes (evaluation_answer c π x)) where
    -- what it says of 27 and 1 to 7, of 20 and of 21
    pub each_passed : Passes (claim_answer c π) × (not (eqb (length x) (variables c)) ≡ false)
        × (first (too_large c (variables c) (term_count c) x) (term_count c) ≡ None)
    unfolding evaluation_answer too_large_answer
    each_passed =
        let p = passes_then _ _ h in
        let q = passes_if _ 20 _ refl p.1 in
        (p.0, q.0, (passes_at _ 21 _ refl q.1).0)

    pub evaluation_passed : evaluation_answer c π x ≡ accepted 0
    unfolding evaluation_answer too_large_answer
    evaluation_passed =
        then_on _ _ each_passed.0 ∙ if_on _ 20 _ each_passed.1 ∙ at_on _ 21 _ each_passed.2

    pub passed_value : evaluation_of c π x ≡ Spec.value (value_at x (terms_of c))
    unfolding evaluation_of
    passed_value = told_passed _ _ h

  pub failed_refusal : blameless (evaluation_answer c π x) ≡ false
      → evaluation_of c π x ≡ refusal (evaluation_answer c π x)
  unfolding evaluation_of
  failed_refusal h = told_failed _ _ h

  pub value_passed : (z : ℤ) → evaluation_of c π x ≡ Spec.value z → Passes (evaluation_answer c π x)
  unfolding evaluation_of
  value_passed z h = (value_told _ _ z h).0

  pub tells_value : (z : ℤ) → tells (Ok z) ≡ evaluation_of c π x → evaluation_of c π x ≡ Spec.value z
  unfolding tells
  tells_value z e = sym e

  pub tells_refusal : (sheet : Sheet) → tells (Err sheet) ≡ evaluation_of c π x
      → A.refusal sheet ≡ evaluation_answer c π x
  unfolding tells evaluation_of
  tells_refusal sheet e = refusal_told _ _ _ (sym e)
