-- The steps of an evaluation: the sum of the terms, and 21 at the first that is too large.
use mathlib.Core.Path.{◌≡◌, refl, sym, ◌∙◌, ap, subst}
use mathlib.Core.Bool.{true, false, not}
use mathlib.Core.List.{List, [], ◌∷◌}
use Prim.Native.Nat.{ℕ, suc, ◌+◌, ◌*◌, ◌<◌, ◌≤◌}
use native.Mathlib.Numerals.{add-one}
use native.Mathlib.Omega.{arith}
use lib.Dec.{eqb}
use lib.IntN.{ℤ, pos, nat_abs, ◌+ℤ◌, ◌*ℤ◌}
use lib.ListN.{length}
use borrow.Author.Tests.{eq-eqb, ne_eqb}
use mir.Syntax.{w64}
use mir.Val.{SFits, to_z, of_z}
use mir.Facts.{to_z-of_z}
use Rattle.integers.proofs.Integers.{abs_add, fits_within}
use Rattle.bounds.specs.Bounds.{greatest_value}
use Rattle.bounds.specs.declared.profiles.Profile.{Profile}
use Rattle.bounds.proofs.bounds.Laws.{over_bound, bound_within}
use Rattle.answers.specs.Answers as A
use Rattle.answers.specs.Answers.{Answer, accepted, refused, refuse_if}
use Rattle.answers.specs.Searches.{first}
use Rattle.answers.specs.declared.answers.Sheet.{Sheet}
use Rattle.answers.specs.declared.answers.Sheet.TheVariants.{Claim, Offsets}
use Rattle.answers.proofs.answers.Laws.{refusal_fails, refused_if, refused_at, then_refused, then_passed, then_on, told_passed, accepted_passes}
use Rattle.answers.proofs.searches.Laws.{first_stop, first_next}
use Rattle.points.specs.Lists.{table}
use Rattle.points.proofs.Lists.{table_none, table_more}
use Rattle.monomials.specs.Powers.{monomial_of, Represents, within}
use Rattle.std.specs.Prelude.{Option, Some, None, Ok, Err}
use Rattle.monomials.proofs.powers.Laws.{within_represents}
use Rattle.squares.specs.Sums.{value_at}
use Rattle.squares.proofs.Sums.{value_nil, value_one, value_append}
use Rattle.sheets.specs.Layout.{variables, term_count, ClaimRoom}
use Rattle.sheets.specs.ClaimSheet.{term_of}
use Rattle.sheets.proofs.claim_sheet.Laws.{terms_table, term_point_lem, term_coefficient}
use Rattle.claims.specs.ClaimChecks.{claim_answer}
use Rattle.claims.proofs.claim_checks.Laws.{claim_passed}
use Rattle.evaluation.proofs.Promises.{evaluation_promises}
use Rattle.evaluation.proofs.evaluations.Laws.{told_passed as sum_told}
use Rattle.evaluation.specs.Evaluations as Spec
use Rattle.evaluation.specs.Evaluations.{Told, tells, told_by, term_value, too_large, too_large_answer, sum_to, summed, evaluation_answer, evaluation_of}
use Rattle.evaluation.specs.Promises.{EvaluationPromises}

-- ---- what checks tell

told_refused : (x : Sheet) (a : Answer) (z : ℤ) → A.refusal x ≡ a → tells (Err x) ≡ told_by a z
unfolding tells told_by
told_refused x a z e = rw (← e, refusal_fails x)

-- ---- the sum of the first terms

sum_none : (c : List ℕ) (n t : ℕ) (x : List ℤ) → sum_to c n t x 0 ≡ pos 0
unfolding sum_to
sum_none c n t x = rw (table_none (term_of c n t)) (value_nil (monomial_of x))

sum_more : (c : List ℕ) (n t : ℕ) (x : List ℤ) (i : ℕ)
    → sum_to c n t x (suc i) ≡ sum_to c n t x i +ℤ term_value c n t x i
unfolding sum_to term_value
sum_more c n t x i =
    rw (table_more (term_of c n t) i, value_append (monomial_of x) (table (term_of c n t) i) (term_of c n t i ∷ []))
    (ap (◌+ℤ◌ (value_at x (table (term_of c n t) i)))
    (value_one (monomial_of x) (term_of c n t i) ∙ rw (term_coefficient c n t i, term_point_lem c n t i)))

-- ---- the ways through the code; a prime marks a number as the machine reads it back

-- summed: the first i terms are within the limit, and so is their sum within i times the limit
module _ (c : List ℕ) (n t : ℕ) (x : List ℤ) where
  pub sum_start : pos 0 ≡ sum_to c n t x 0
  sum_start = rw (sum_none c n t x)

  pub small_start : nat_abs (sum_to c n t x 0) ≤ 0 * greatest_value
  small_start = rw (sum_none c n t x) (omega arith)

  module _ (i : ℕ) (r : Option ℤ) (er : r ≡ within (term_value c n t x i)) where
    pub summed_stop : i < t → first (too_large c n t x) i ≡ None → r ≡ None
        → tells (Err (Claim 21 i)) ≡ summed c n t x
    unfolding summed too_large_answer too_large
    summed_stop l none h =
        let k : Represents None (term_value c n t x i) =
        subst (λ b. Represents b (term_value c n t x i)) (sym er ∙ h) (within_represents _) in
        let f = first_stop (too_large c n t x) t i true l none (sym (over_bound _ _ k)) refl in
        told_refused (Claim 21 i) _ _
        (refused_at (refused 21 i) (Some i) (first (too_large c n t x) t) 21 (accepted 0) f i refl refl)

    module _ (v : ℤ) (h : r ≡ Some v) where
      here : Represents (Some v) (term_value c n t x i)
      here = subst (λ b. Represents b (term_value c n t x i)) (sym er ∙ h) (within_represents _)

      pub none_next : first (too_large c n t x) i ≡ None → first (too_large c n t x) (i + 1) ≡ None
      unfolding too_large
      none_next none = first_next (too_large c n t x) i false none (sym (bound_within _ _ here.1)) refl

      module _ (small : nat_abs (sum_to c n t x i) ≤ i * greatest_value) where
        pub small_next : nat_abs (sum_to c n t x (i + 1)) ≤ (i + 1) * greatest_value
        small_next =
            rw (add-one, sum_more c n t x i)
            (omega (arith, here.1, abs_add (sum_to c n t x i) (term_value c n t x i)))

        module _ (l : i < t) (room : ClaimRoom c n t) (sum : ℤ) (es : sum ≡ sum_to c n t x i) (v' : ℤ)
            (back : v' ≡ v) where
          added : sum +ℤ v' ≡ sum_to c n t x (i + 1)
          added = rw (es, back, here.0, add-one, sum_more c n t x i)

          pub sum_fits : SFits w64 (sum +ℤ v')
          sum_fits = rw added (fits_within _ ((i + 1) * greatest_value) small_next (omega (arith, room.terms)))

          pub sum_next : to_z w64 (of_z w64 (sum +ℤ v')) ≡ sum_to c n t x (i + 1)
          sum_next = to_z-of_z {w = w64} sum_fits ∙ added

  pub summed_end : (i : ℕ) (sum : ℤ) → t ≤ i → i ≤ t → ClaimRoom c n t → first (too_large c n t x) i ≡ None
      → nat_abs (sum_to c n t x i) ≤ i * greatest_value → sum ≡ sum_to c n t x i → tells (Ok sum) ≡ summed c n t x
  unfolding summed too_large_answer tells
  summed_end i sum l m room none small es =
      let q : i ≡ t = omega arith in
      let e : sum ≡ sum_to c n t x t = rw (es, q) in
      rw e
      (sym (sum_told _ _ (rw (rw q at none) (accepted_passes (accepted 0) 0 refl))))

-- evaluate
pub terms_room : (c : List ℕ) (π : Profile) (n t : ℕ) → accepted 0 ≡ claim_answer c π → n ≡ variables c
    → t ≡ term_count c → ClaimRoom c n t
terms_room c π n t h en et = rw (en, et) (claim_passed c π h).room

module _ (c : List ℕ) (π : Profile) (x : List ℤ) where
  pub claim_refused : (y : Sheet) → A.refusal y ≡ claim_answer c π → tells (Err y) ≡ evaluation_of c π x
  unfolding evaluation_of evaluation_answer
  claim_refused y h = told_refused y _ _ (then_refused _ y h _)

  module _ (h : accepted 0 ≡ claim_answer c π) (n : ℕ) (en : n ≡ variables c) where
    pub offsets_refused : (length x ≡ n → ⊥) → tells (Err (Offsets 20 0)) ≡ evaluation_of c π x
    unfolding evaluation_of evaluation_answer
    offsets_refused d =
        let w : not (eqb (length x) (variables c)) ≡ true = rw (← en, ne_eqb _ _ d) in
        told_refused (Offsets 20 0) _ _ (then_passed _ h _ _ (refused_if _ _ 20 _ w refl))

    module _ (t : ℕ) (et : t ≡ term_count c) where
      pub all_summed : (told : Told) → length x ≡ n → told ≡ summed c n t x → told ≡ evaluation_of c π x
      unfolding evaluation_of evaluation_answer summed sum_to
      all_summed told d er =
          let w : not (eqb (length x) (variables c)) ≡ false = rw (← en, eq-eqb _ _ d) in
          let last = too_large_answer c (variables c) (term_count c) x in
          rw (
            then_on (claim_answer c π) (refuse_if (not (eqb (length x) (variables c))) 20 last) (told_passed _ h),
            w,
            ← terms_table c n t en et,
            ← en,
            ← et,
          )
          er

-- told is what the evaluation tells
pub promised : (c : List ℕ) (π : Profile) (x : List ℤ) (told : Told) → told ≡ evaluation_of c π x
    → EvaluationPromises c π x (λ z. told ≡ Spec.value z)
promised c π x told h = evaluation_promises c π x _ (λ z. (λ e. sym h ∙ e, λ e. h ∙ e))
