-- The promises of an evaluation, from what it tells.
use mathlib.Core.Path.{◌≡◌, refl, sym}
use mathlib.Core.Bool.{true, false, not}
use mathlib.Core.List.{List}
use mathlib.Core.Logic.{◌↔◌}
use Prim.Native.Nat.{ℕ, ◌<◌, ◌≤◌}
use lib.Dec.{eqb}
use lib.IntN.{ℤ, nat_abs}
use lib.ListN.{length}
use borrow.Author.Tests.{eq-eqb, eqb-true, not-false}
use Rattle.bounds.specs.Bounds.{greatest_value}
use Rattle.bounds.specs.Profiles.{Larger}
use Rattle.bounds.specs.declared.profiles.Profile.{Profile}
use Rattle.bounds.proofs.bounds.Laws.{within_bound, bound_within}
use Rattle.answers.specs.Answers.{accepted, refuse_if, Passes}
use Rattle.answers.proofs.answers.Laws.{then_on, if_on, at_on, accepted_passes}
use Rattle.answers.proofs.searches.Laws.{none_wrong, all_right}
use Rattle.points.specs.Points.{exponents_within}
use Rattle.points.proofs.points.Laws.{within_larger}
use Rattle.squares.specs.Sums.{value_at}
use Rattle.sheets.specs.Layout.{variables, term_count}
use Rattle.sheets.specs.ClaimSheet.{term_point, terms_of}
use Rattle.claims.specs.ClaimChecks.{claim_answer}
use Rattle.claims.proofs.claim_checks.Laws.{terms_within, claim_under}
use Rattle.judging.proofs.Promises.{floor_kept}
use Rattle.evaluation.specs.Evaluations.{value, term_value, too_large, too_large_answer, evaluation_answer, evaluation_of}
use Rattle.evaluation.specs.Promises.{Evaluable, EvaluationPromises}
use Rattle.evaluation.proofs.Full.{evaluation_full}
use Rattle.evaluation.proofs.evaluations.Laws.{told_passed, value_told, each_passed}

-- ---- when a value is given

evaluable : (c : List ℕ) (π : Profile) (x : List ℤ) → Passes (evaluation_answer c π x) → Evaluable c π x
unfolding too_large
evaluable c π x h =
    let p = each_passed c π x h in
    record {
      formed = p.0;
      counted = eqb-true _ _ (not-false _ p.1);
      small = λ i l. within_bound _ _ (none_wrong _ _ p.2 i l);
    }

small_passes : (c : List ℕ) (n t : ℕ) (x : List ℤ) → ((i : ℕ) → i < t → nat_abs (term_value c n t x i) ≤ greatest_value)
    → Passes (too_large_answer c n t x)
unfolding too_large_answer too_large
small_passes c n t x h =
    let f = all_right (too_large c n t x) t (λ i l. bound_within _ _ (h i l)) in
    rw (at_on _ 21 (accepted 0) (sym f)) (accepted_passes _ 0 refl)

passes : (c : List ℕ) (π : Profile) (x : List ℤ) → Evaluable c π x → Passes (evaluation_answer c π x)
unfolding evaluation_answer
passes c π x e =
    let last = too_large_answer c (variables c) (term_count c) x in
    let m : not (eqb (length x) (variables c)) ≡ false = rw (eq-eqb _ _ e.counted) in
    rw (
      then_on (claim_answer c π) (refuse_if (not (eqb (length x) (variables c))) 20 last) e.formed,
      if_on _ 20 last m,
    )
    (small_passes c (variables c) (term_count c) x e.small)

-- note 7: a larger profile gives it too
larger_passes : (c : List ℕ) (π ρ : Profile) → Larger π ρ → (x : List ℤ) → Evaluable c π x
    → Passes (evaluation_answer c ρ x)
larger_passes c π ρ l x e =
    let keep : (i : ℕ) → i < term_count c → exponents_within ρ.exponent (term_point c (variables c) i) ≡ true =
    λ i m. within_larger _ _ l.exponent_larger _ (terms_within c π e.formed i m) in
    passes c ρ x
    (record { formed = claim_under c π e.formed ρ l.is_in_range keep; counted = e.counted; small = e.small })

-- ---- the promises, for whatever is to say that a value is given

pub evaluation_promises : (c : List ℕ) (π : Profile) (x : List ℤ) (Gives : ℤ → Type 0)
    → ((z : ℤ) → Gives z ↔ (evaluation_of c π x ≡ value z)) → EvaluationPromises c π x Gives
unfolding evaluation_of
evaluation_promises c π x Gives meant = record {
  given = λ e. (meant _).1 (told_passed _ _ (passes c π x e));
  exact = λ z q. (evaluable c π x (told z q).0, (told z q).1);
  -- the joints to the check
  floored = λ s l ρ out h a z q. rw (told z q).1 ((floor_kept c s l ρ (length out) h).whole x a);
  unlimited = λ s l ρ out h u a z q. rw (told z q).1 ((floor_kept c s l ρ (length out) h).unlimited u x a);
  everywhere = λ s l ρ out h u m z q. rw (told z q).1 ((floor_kept c s l ρ (length out) h).everywhere u m x);
  larger = λ z q ρ l.
      rw (told z q).1 (told_passed _ _ (larger_passes c π ρ l x (evaluable c π x (told z q).0)));
  full = evaluation_full c x;
}
  where
    told : (z : ℤ) → Gives z → Passes (evaluation_answer c π x) × (z ≡ value_at x (terms_of c))
    told z q = value_told _ _ z ((meant z).0 q)
