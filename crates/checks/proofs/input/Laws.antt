-- Laws of the checks 27, 1 to 15, 24 and 25: what it says of three sheets that they are passed.
use mathlib.Core.Path.{◌≡◌, refl, sym}
use mathlib.Core.List.{List}
use Prim.Native.Nat.{ℕ, ◌<◌, ◌≤◌}
use native.Mathlib.Omega.{arith}
use lib.IntN.{ℤ, nat_abs}
use lib.ListN.{length}
use borrow.Author.Tests.{le-ltb, ltb-false}
use Rattle.integers.specs.Words.{Bytes}
use Rattle.bounds.specs.Bounds.{greatest_weight, most_variables}
use Rattle.bounds.specs.Profiles.{InRange, Larger}
use Rattle.bounds.specs.declared.profiles.Profile.{Profile}
use Rattle.answers.specs.Answers.{accepted, Passes, Short}
use Rattle.answers.proofs.answers.Laws.{number_then, accepted_passes, told_passed, passed_if, passes_if, passes_then, then_passes, then_on, short_accepted, short_if, short_then}
use Rattle.points.proofs.points.Laws.{within_larger}
use Rattle.sheets.specs.Layout.{variables, term_count, shape_of, ProofRoom, LimitsRoom}
use Rattle.sheets.specs.ClaimSheet.{with_floor}
use Rattle.sheets.proofs.claim_sheet.Laws.{floored_before}
use Rattle.limits.specs.LimitsSheet.{limits_of}
use Rattle.limits.specs.LimitChecks.{limits_answer, RightLimits}
use Rattle.limits.proofs.limit_checks.Laws.{limits_room, limits_right, limits_short, limits_other}
use Rattle.claims.specs.ClaimChecks.{claim_answer, ClaimFacts}
use Rattle.claims.proofs.claim_checks.Laws.{profile_facts, terms_within, claim_facts, claim_under, claim_floored, claim_short, claim_other}
use Rattle.checks.specs.ProofChecks.{rows_answer, HeaderFacts, ProofFacts}
use Rattle.checks.specs.Input.{head_answer, room_answer, body_answer, rest_answer, input_answer, formed_answer, WellFormed, InputUnlimited}
use Rattle.checks.specs.Profiled.{Fits}
use Rattle.checks.proofs.proof_checks.Laws.{triple_larger, header_facts, proposed_within, ends_within, proof_facts, rows_few, header_under, rows_under, header_short, rows_short}

-- ---- 1 to 10

-- what it says that they are passed
module _ (c s : List ℕ) (π : Profile) (h : Passes (head_answer c s π)) where
  head_claimed : Passes (claim_answer c π)
  unfolding head_answer
  head_claimed = (passes_then _ _ h).0

  pub head_range : InRange π
  head_range = profile_facts c π head_claimed

  pub head_claim_facts : ClaimFacts c (variables c) (term_count c)
  head_claim_facts = claim_facts c π head_claimed

  pub head_facts : (variables s ≡ variables c) × HeaderFacts s (shape_of s)
  unfolding head_answer
  head_facts =
      header_facts π.rows (variables c) s head_range.rows_within head_claim_facts.some
      head_claim_facts.room.few (passes_then _ _ h).1

-- the same by the result of the checks
module _ (c s : List ℕ) (π : Profile) (h : accepted 0 ≡ head_answer c s π) where
  head : Passes (head_answer c s π)
  head = told_passed _ h

  pub claim_read : 8 ≤ length c
  claim_read = omega (arith, (head_claim_facts c s π head).sized)

  pub rows_room : ProofRoom s (shape_of s)
  rows_room = (head_facts c s π head).1.room

  pub profile_read : InRange π
  profile_read = head_range c s π head

  pub variables_few : (n : ℕ) → n ≡ variables c → n ≤ most_variables
  variables_few n e = rw e (head_claim_facts c s π head).room.few

-- ---- 11

module _ (asked room : ℕ) where
  pub room_enough : asked ≤ room → accepted 0 ≡ room_answer asked room
  unfolding room_answer
  room_enough l = passed_if _ _ 11 _ (le-ltb room asked l) refl

  enough : Passes (room_answer asked room) → asked ≤ room
  unfolding room_answer
  enough h = ltb-false room asked (passes_if _ 11 _ refl h).0

-- ---- well-formed sheets

module _ (c s l : List ℕ) (π : Profile) (f : WellFormed c s l π) where
  formed_head : Passes (head_answer c s π)
  unfolding formed_answer
  formed_head = (passes_then _ _ f).0

  formed_limits : Passes (limits_answer (variables c) l)
  unfolding formed_answer
  formed_limits = (passes_then _ _ (passes_then _ _ f).1).0

  formed_rows : Passes (rows_answer s π (shape_of s))
  unfolding formed_answer
  formed_rows = (passes_then _ _ (passes_then _ _ f).1).1

  pub range_formed : InRange π
  range_formed = head_range c s π formed_head

  -- they fit their profile
  pub fits_formed : Fits c s π
  unfolding head_answer
  fits_formed =
      let head = passes_then _ _ formed_head in
      record {
        terms = terms_within c π head.0;
        v_ends = λ i l. (ends_within s π formed_rows i l).0;
        w_ends = λ i l. (ends_within s π formed_rows i l).1;
        weights = proposed_within s π formed_rows;
        rows = rows_few π.rows (variables c) s head.1;
      }

  -- and are well-formed under every other in range that they fit
  pub formed_under : (ρ : Profile) → InRange ρ → Fits c s ρ → WellFormed c s l ρ
  unfolding formed_answer head_answer
  formed_under ρ r fit =
      let head = passes_then _ _ formed_head in
      then_passes _ _
      (then_passes _ _ (claim_under c π head.0 ρ r fit.terms)
      (header_under π.rows (variables c) s head.1 ρ.rows fit.rows))
      (then_passes _ _ formed_limits
      (rows_under s π formed_rows ρ (λ i m. (fit.v_ends i m, fit.w_ends i m)) fit.weights))

  pub claim_formed : ClaimFacts c (variables c) (term_count c)
  claim_formed = head_claim_facts c s π formed_head

  pub same_formed : variables s ≡ variables c
  same_formed = (head_facts c s π formed_head).0

  pub proof_formed : ProofFacts s (shape_of s)
  proof_formed = proof_facts s π formed_rows range_formed (head_facts c s π formed_head).1

  pub room_formed : LimitsRoom l (variables c)
  room_formed = limits_room (variables c) l claim_formed.room.few formed_limits

  pub limits_formed : RightLimits (limits_of l (variables c))
  limits_formed = limits_right (variables c) l formed_limits

-- what fits a profile fits a larger one
fits_larger : (c s : List ℕ) (π ρ : Profile) → Larger π ρ → Fits c s π → Fits c s ρ
fits_larger c s π ρ l f = record {
  terms = λ i m. within_larger _ _ l.exponent_larger _ (f.terms i m);
  v_ends = λ i m. within_larger _ _ l.exponent_larger _ (f.v_ends i m);
  w_ends = λ i m. within_larger _ _ l.exponent_larger _ (f.w_ends i m);
  weights = λ i m. triple_larger _ _ l.weight_larger _ (f.weights i m);
  rows = omega (arith, f.rows, l.rows_larger);
}

pub formed_larger : (c s l : List ℕ) (π ρ : Profile) → Larger π ρ → WellFormed c s l π → WellFormed c s l ρ
formed_larger c s l π ρ larger f =
    formed_under c s l π f ρ larger.is_in_range (fits_larger c s π ρ larger (fits_formed c s l π f))

-- they are passed exactly where the sheets are well-formed and the output is long enough
module _ (c s l : List ℕ) (π : Profile) (room : ℕ) where
  pub input_passes : WellFormed c s l π → length s ≤ room → Passes (input_answer c s l π room)
  unfolding input_answer rest_answer body_answer
  input_passes f k =
      then_passes _ _ (formed_head c s l π f)
      (then_passes _ _ (formed_limits c s l π f)
      (then_passes _ _ (accepted_passes _ 0 (sym (room_enough (length s) room k))) (formed_rows c s l π f)))

  module _ (h : Passes (input_answer c s l π room)) where
    parts : Passes (limits_answer (variables c) l) × Passes (room_answer (length s) room)
        × Passes (rows_answer s π (shape_of s))
    unfolding input_answer rest_answer body_answer
    parts =
        let a = passes_then _ _ (passes_then _ _ h).1 in
        let b = passes_then _ _ a.1 in
        (a.0, b.0, b.1)

    pub input_formed : WellFormed c s l π
    unfolding input_answer formed_answer
    input_formed = then_passes _ _ (passes_then _ _ h).0 (then_passes _ _ parts.0 parts.2)

    pub input_enough : length s ≤ room
    input_enough = enough (length s) room parts.1

    -- and with another floor in the claim they are passed as well
    pub input_floored : (b : ℤ) → nat_abs b ≤ greatest_weight → Passes (input_answer (with_floor c b) s l π room)
    unfolding input_answer head_answer
    input_floored b w =
        let a = passes_then _ _ h in
        let d = passes_then _ _ a.0 in
        rw (floored_before c b 0 (omega arith))
        (then_passes _ _ (then_passes _ _ (claim_floored c b π w d.0) d.1) a.1)

-- every answer is short
head_short : (c s : List ℕ) (π : Profile) {limit : ℕ} → 27 < limit → Bytes c → Short limit (head_answer c s π)
unfolding head_answer
head_short c s π h bc = short_then _ _ (claim_short c π h bc) (header_short π.rows (variables c) s (omega arith))

body_short : (s : List ℕ) (π : Profile) (room : ℕ) {limit : ℕ} → 15 < limit → Bytes s
    → Short limit (body_answer s π room)
unfolding body_answer room_answer
body_short s π room h bs =
    short_then _ _ (short_if 11 _ (omega arith) (short_accepted 0 (omega arith) (omega arith)) _) (rows_short s π h bs)

pub input_short : {limit : ℕ} (c s l : List ℕ) (π : Profile) (room : ℕ) → 27 < limit → Bytes c → Bytes s
    → Short limit (input_answer c s l π room)
unfolding input_answer rest_answer
input_short c s l π room h bc bs =
    short_then _ _ (head_short c s π h bc)
    (short_then _ _ (limits_short (variables c) l (omega arith) (omega (arith, bc 0)))
    (body_short s π room (omega arith) bs))

-- and none is 23, which a search says of its own
head_other : (c s : List ℕ) (π : Profile) → (head_answer c s π).number ≡ 23 → ⊥
unfolding head_answer
head_other c s π =
    number_then (λ m. m ≡ 23 → ⊥) _ _ (claim_other c π)
    (λ e. omega (arith, (header_short {limit = 11} π.rows (variables c) s (omega arith)).number_short))

pub input_other : (c s l : List ℕ) (π : Profile) (room : ℕ) → Bytes s → (input_answer c s l π room).number ≡ 23 → ⊥
unfolding input_answer rest_answer
input_other c s l π room bs =
    let Other : ℕ → Type 0 = λ m. m ≡ 23 → ⊥ in
    number_then Other _ _ (head_other c s π)
    (number_then Other _ _ (limits_other (variables c) l)
    (λ e. omega (arith, (body_short s π room {limit = 16} (omega arith) bs).number_short)))

-- ---- without limits

pub input_unlimited : (c s l : List ℕ) (π : Profile) → Passes (limits_answer (variables c) l) → InputUnlimited c s l π
unfolding input_answer rest_answer formed_answer
input_unlimited c s l π h = record { input = λ room. rw (then_on _ _ h); formed = rw (then_on _ _ h) }
