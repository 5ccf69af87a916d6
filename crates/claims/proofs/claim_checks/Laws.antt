-- Laws of the checks 27 and 1 to 7: what it says of a claim that it passes them, that it passes them under
-- another profile and with another floor, what 2 asks without a mask, and how short its answers are.
use Rattle.std.proofs.Common.{None}
use mathlib.Core.Path.{◌≡◌, refl, sym, ◌∙◌, fun_ext}
use mathlib.Core.Bool.{Bool, true, false, not, ◌&&◌, true≢false, and-eq-true_iff}
use mathlib.Core.List.{List}
use Prim.Native.Nat.{ℕ, suc, ◌-◌, ◌^◌, ◌<◌, ◌≤◌}
use native.Mathlib.Nat.{zero-div}
use native.Mathlib.Decide.{le_ind}
use native.Mathlib.Omega.{arith}
use lib.Dec.{eqb, ltb, lit<}
use lib.IntN.{ℤ, nat_abs}
use lib.ListN.{length, get_or}
use borrow.Author.Tests.{eqb-true, not-false, lt-ltb, ltb-false, leb-true}
use Rattle.integers.proofs.Integers.{fits_within}
use Rattle.integers.specs.Words.{Bytes}
use Rattle.integers.proofs.Tests.{nor, nand}
use Rattle.bounds.specs.Bounds.{greatest_exponent, greatest_weight, beyond, most_variables, most_terms}
use Rattle.bounds.specs.Profiles.{InRange, in_range}
use Rattle.bounds.specs.declared.profiles.Profile.{Profile}
use Rattle.bounds.proofs.bounds.Laws.{within_bound, bound_within}
use Rattle.bounds.proofs.profiles.Laws.{range_facts, facts_range}
use Rattle.answers.specs.Answers.{accepted, Passes, Short}
use Rattle.answers.specs.Searches.{first}
use Rattle.answers.proofs.answers.Laws.{passes_if, passes_at, if_on, at_on, accepted_passes, told_passed, number_accepted, number_if, number_at, short_accepted, short_if, short_at}
use Rattle.answers.proofs.searches.Laws.{none_wrong, all_right}
use Rattle.points.specs.Points.{same_point, rises_to, exponents_within}
use Rattle.points.proofs.points.Laws.{same_eq, rises_self, rises_trans, within_larger}
use Rattle.sheets.specs.Layout.{variables, term_count, mask_of, ClaimRoom, claim_length}
use Rattle.sheets.specs.ClaimSheet.{floor_of, with_floor, term_point, coefficient_of}
use Rattle.sheets.proofs.claim_sheet.Laws.{floored_length, floored_floor, floored_before, floored_point, floored_coefficient}
use Rattle.claims.specs.ClaimChecks.{coefficient_breaks, exponent_breaks, order_breaks, terms_answer, claim_answer, ClaimFacts, counts_right, mask_right, claim_header_right}

-- ---- what each check says that is passed

module _ (c : List ℕ) (n t i : ℕ) where
  coefficient_fact : coefficient_breaks greatest_weight c n t i ≡ false
      → nat_abs (coefficient_of c n t i) ≤ greatest_weight
  unfolding coefficient_breaks
  coefficient_fact h = within_bound greatest_weight _ (nor (eqb (nat_abs (coefficient_of c n t i)) 0) _ h).1

  exponents_fact : (limit : ℕ) → exponent_breaks limit c n t i ≡ false
      → exponents_within limit (term_point c n i) ≡ true
  unfolding exponent_breaks
  exponents_fact limit h = not-false _ h

  exponents_break : (limit : ℕ) → exponents_within limit (term_point c n i) ≡ true
      → exponent_breaks limit c n t i ≡ false
  unfolding exponent_breaks
  exponents_break limit h = rw h

  rising_fact : order_breaks c n t (suc i) ≡ false → rises_to (term_point c n i) (term_point c n (suc i)) ≡ true
  unfolding order_breaks
  rising_fact h =
      let e : suc i - 1 ≡ i = omega arith in
      let z = nand (ltb 0 (suc i)) _ h (lt-ltb 0 (suc i) (omega arith)) in
      rw e at (not-false (rises_to (term_point c n (suc i - 1)) (term_point c n (suc i))) z)

-- right counts, and room for the terms where the rest of the header and the length are right too
pub counts_fact : (c : List ℕ) → counts_right c ≡ true
    → (1 ≤ variables c) × (variables c ≤ most_variables) × (term_count c ≤ most_terms)
unfolding counts_right
counts_fact c h =
    let a = (and-eq-true_iff _ _).0 h in
    let b = (and-eq-true_iff _ _).0 a.0 in
    (leb-true _ _ b.0, leb-true _ _ b.1, leb-true _ _ a.1)

pub header_room : (c : List ℕ) → claim_header_right c ≡ true → length c ≡ claim_length (variables c) (term_count c)
    → (1 ≤ variables c) × ClaimRoom c (variables c) (term_count c)
unfolding claim_header_right
header_room c h sized =
    let a = (and-eq-true_iff _ _).0 h in
    let f = counts_fact c ((and-eq-true_iff _ _).0 a.0).0 in
    (f.0, record { few = f.1; terms = f.2; long = omega arith })

-- ---- a claim passes them exactly where it passes each

module _ (c : List ℕ) (π : Profile) where
  abbrev Unbroken : (List ℕ → ℕ → ℕ → ℕ → Bool) → Type 0
  Unbroken breaks = first (breaks c (variables c) (term_count c)) (term_count c) ≡ None

  record Parts : Type 0 where
    ranged : not (in_range π) ≡ false
    long : ltb (length c) 8 ≡ false
    headed : not (claim_header_right c) ≡ false
    sized : not (eqb (length c) (claim_length (variables c) (term_count c))) ≡ false
    floored : beyond greatest_weight (floor_of c) ≡ false
    coefficients : Unbroken (coefficient_breaks greatest_weight)
    exponents : Unbroken (exponent_breaks π.exponent)
    order : Unbroken order_breaks

  parts : Passes (claim_answer c π) → Parts
  unfolding claim_answer terms_answer
  parts h =
      let p₀ = passes_if _ 27 _ refl h in
      let p₁ = passes_if _ 1 _ refl p₀.1 in
      let p₂ = passes_if _ 2 _ refl p₁.1 in
      let p₃ = passes_if _ 3 _ refl p₂.1 in
      let p₄ = passes_if _ 4 _ refl p₃.1 in
      let p₅ = passes_at _ 5 _ refl p₄.1 in
      let p₆ = passes_at _ 6 _ refl p₅.1 in
      let p₇ = passes_at _ 7 _ refl p₆.1 in
      record {
        ranged = p₀.0;
        long = p₁.0;
        headed = p₂.0;
        sized = p₃.0;
        floored = p₄.0;
        coefficients = p₅.0;
        exponents = p₆.0;
        order = p₇.0;
      }

  parts_pass : Parts → Passes (claim_answer c π)
  unfolding claim_answer terms_answer
  parts_pass p =
      rw (
        if_on _ 27 _ p.ranged,
        if_on _ 1 _ p.long,
        if_on _ 2 _ p.headed,
        if_on _ 3 _ p.sized,
        if_on _ 4 _ p.floored,
        at_on _ 5 _ p.coefficients,
        at_on _ 6 _ p.exponents,
        at_on _ 7 _ p.order,
      )
      (accepted_passes _ 0 refl)

module _ (c : List ℕ) (π : Profile) (h : Passes (claim_answer c π)) where
  abbrev p : Parts c π
  p = parts c π h

  pub profile_facts : InRange π
  profile_facts = range_facts π (not-false _ p.ranged)

  pub terms_within : (i : ℕ) → i < term_count c → exponents_within π.exponent (term_point c (variables c) i) ≡ true
  terms_within i l = exponents_fact c _ _ i π.exponent (none_wrong _ _ p.exponents i l)

  -- byte 3
  pub unused_zero : get_or c 3 0 ≡ 0
  unfolding claim_header_right
  unused_zero =
      let headed = not-false (claim_header_right c) p.headed in
      eqb-true (get_or c 3 0) 0 ((and-eq-true_iff (counts_right c && mask_right c) _).0 headed).1

  pub claim_facts : ClaimFacts c (variables c) (term_count c)
  claim_facts =
      let sized = eqb-true _ _ (not-false _ p.sized) in
      let counts = header_room c (not-false _ p.headed) sized in
      record {
        some = counts.0;
        room = counts.1;
        sized = sized;
        floor_within = within_bound greatest_weight (floor_of c) p.floored;
        coefficient_within = λ i l. coefficient_fact c _ _ i (none_wrong _ _ p.coefficients i l);
        exponent_within = λ i l.
            within_larger π.exponent greatest_exponent profile_facts.exponent_within _ (terms_within i l);
        rising = λ i l. rising_fact c _ _ i (none_wrong _ _ p.order (suc i) l);
      }

  -- it passes under every other profile in range whose exponent its terms keep
  pub claim_under : (ρ : Profile) → InRange ρ
      → ((i : ℕ) → i < term_count c → exponents_within ρ.exponent (term_point c (variables c) i) ≡ true)
      → Passes (claim_answer c ρ)
  claim_under ρ r keep =
      parts_pass c ρ
      (record {
        ranged = rw (facts_range ρ r);
        long = p.long;
        headed = p.headed;
        sized = p.sized;
        floored = p.floored;
        coefficients = p.coefficients;
        exponents = sym (all_right (exponent_breaks _ c _ _) _ (λ i l. exponents_break c _ _ i _ (keep i l)));
        order = p.order;
      })

-- without a mask: "Bytes 2 and 3: zero"
pub header_unmasked : (c : List ℕ) → mask_of c ≡ 0
    → claim_header_right c ≡ counts_right c && eqb (get_or c 2 0) 0 && eqb (get_or c 3 0) 0
unfolding claim_header_right mask_right
header_unmasked c z = rw (z, zero-div (2 ^ variables c))

-- ---- with another floor within its bounds the claim passes as well

module _ (c : List ℕ) (b : ℤ) where
  coefficients_floored : (limit n t : ℕ)
      → coefficient_breaks limit (with_floor c b) n t ≡ coefficient_breaks limit c n t
  unfolding coefficient_breaks
  coefficients_floored limit n t = fun_ext (λ i. rw (floored_coefficient c b n t i))

  exponents_floored : (limit n t : ℕ) → exponent_breaks limit (with_floor c b) n t ≡ exponent_breaks limit c n t
  unfolding exponent_breaks
  exponents_floored limit n t = fun_ext (λ i. rw (floored_point c b n i))

  order_floored : (n t : ℕ) → order_breaks (with_floor c b) n t ≡ order_breaks c n t
  unfolding order_breaks
  order_floored n t = fun_ext (λ i. rw (floored_point c b n i, floored_point c b n (i - 1)))

  header_floored : claim_header_right (with_floor c b) ≡ claim_header_right c
  unfolding claim_header_right counts_right mask_right
  header_floored = rw (
    floored_before c b 0 (omega arith),
    floored_before c b 1 (omega arith),
    floored_before c b 2 (omega arith),
    floored_before c b 3 (omega arith),
  )

  pub claim_floored : (π : Profile) → nat_abs b ≤ greatest_weight → Passes (claim_answer c π)
      → Passes (claim_answer (with_floor c b) π)
  claim_floored π w h =
      let p = parts c π h in
      let en = floored_before c b 0 (omega arith) in
      let et = floored_before c b 1 (omega arith) in
      parts_pass (with_floor c b) π
      (record {
        ranged = p.ranged;
        long = rw (floored_length c b) p.long;
        headed = rw header_floored p.headed;
        sized = rw (floored_length c b, en, et) p.sized;
        floored =
            rw (floored_floor c b (ltb-false _ _ p.long) (fits_within b greatest_weight w (lit< tt)))
            (bound_within _ b w);
        coefficients = rw (en, et, coefficients_floored greatest_weight) p.coefficients;
        exponents = rw (en, et, exponents_floored π.exponent) p.exponents;
        order = rw (en, et, order_floored) p.order;
      })

-- of a claim that passes them, by the result of the check
module _ (c : List ℕ) (π : Profile) (h : accepted 0 ≡ claim_answer c π) where
  pub claim_passed : ClaimFacts c (variables c) (term_count c)
  claim_passed = claim_facts c π (told_passed _ h)

  pub claim_long : 8 ≤ length c
  claim_long = omega (arith, claim_passed.sized)

-- the points of a claim rise from any to any later one, so no two are the same
pub points_differ : (c : List ℕ) (n t : ℕ) → ClaimFacts c n t → (i j : ℕ) → i < j → j < t
    → same_point (term_point c n i) (term_point c n j) ≡ false
points_differ c n t f i j l h = go (same_point (term_point c n i) (term_point c n j)) refl (rises j l h)
  where
    rises : (j : ℕ) → i < j → j < t → rises_to (term_point c n i) (term_point c n j) ≡ true
    rises =
        le_ind (λ m. m < t → rises_to (term_point c n i) (term_point c n m) ≡ true) (f.rising i)
        (λ m _ r l. rises_trans _ _ _ (r (omega arith)) (f.rising m l))

    go : (b : Bool) → same_point (term_point c n i) (term_point c n j) ≡ b
        → rises_to (term_point c n i) (term_point c n j) ≡ true → b ≡ false
    go true e r = absurd (true≢false (sym r ∙ rw (same_eq _ _ e) (rises_self (term_point c n j))))
    go false e r = refl

-- every number is document 01's, and an index is below a count that a byte gives
pub claim_short : {limit : ℕ} (c : List ℕ) (π : Profile) → 27 < limit → Bytes c → Short limit (claim_answer c π)
unfolding claim_answer terms_answer
claim_short c π h b =
    let t : term_count c ≤ 65536 = omega (arith, b 1) in
    short_if 27 _ (omega arith)
    (short_if 1 _ (omega arith)
    (short_if 2 _ (omega arith)
    (short_if 3 _ (omega arith)
    (short_if 4 _ (omega arith)
    (short_at 5 _ (omega arith)
    (short_at 6 _ (omega arith)
    (short_at 7 _ (omega arith) (short_accepted 0 (omega arith) (omega arith)) _ _ t) _ _ t) _ _ t) _) _) _) _) _

-- none is 23, which a search says of its own
pub claim_other : (c : List ℕ) (π : Profile) → (claim_answer c π).number ≡ 23 → ⊥
unfolding claim_answer terms_answer
claim_other c π =
    let Other : ℕ → Type 0 = λ m. m ≡ 23 → ⊥ in
    number_if Other _ 27 _ (λ e. omega arith)
    (number_if Other _ 1 _ (λ e. omega arith)
    (number_if Other _ 2 _ (λ e. omega arith)
    (number_if Other _ 3 _ (λ e. omega arith)
    (number_if Other _ 4 _ (λ e. omega arith)
    (number_at Other _ 5 _ (λ e. omega arith)
    (number_at Other _ 6 _ (λ e. omega arith)
    (number_at Other _ 7 _ (λ e. omega arith) (number_accepted Other 0 (λ e. omega arith)))))))))
