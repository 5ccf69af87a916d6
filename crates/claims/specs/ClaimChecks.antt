-- Checks of the claim: refusals 1 to 7, and before them 27.
use Rattle.std.specs.Prelude.{◌≡◌, Bool, true, not, ◌&&◌, ◌||◌, List, ℕ, suc, ◌-◌, ◌/◌, ◌^◌, ◌<◌, ◌≤◌, eqb, ltb, leb, nat_abs, length, get_or}
use Rattle.bounds.specs.Bounds.{greatest_exponent, greatest_weight, beyond, most_variables, most_terms}
use Rattle.bounds.specs.Profiles.{in_range}
use Rattle.bounds.specs.declared.profiles.Profile.{Profile}
use Rattle.answers.specs.Answers.{Answer, accepted, refuse_if, refuse_at}
use Rattle.answers.specs.Searches.{first}
use Rattle.points.specs.Points.{Masked, rises_to, exponents_within}
use Rattle.sheets.specs.Layout.{variables, term_count, mask_of, claim_length, ClaimRoom}
use Rattle.sheets.specs.ClaimSheet.{floor_of, term_point, coefficient_of}

-- "Byte 0: n, variables, 1 to 8. Byte 1: t, terms, 0 to 64."
unfoldable pub counts_right : List ℕ → Bool
counts_right c = leb 1 (variables c) && leb (variables c) most_variables && leb (term_count c) most_terms

-- "byte 2 is wrong where it has a mask bit at or above n": it has none
abbrev pub MaskWithin : List ℕ → Type 0
MaskWithin c = (i : ℕ) → variables c ≤ i → Masked (mask_of c) i → ⊥

-- the same as a test: after n bits nothing is left of the mask
unfoldable pub mask_right : List ℕ → Bool
mask_right c = eqb (mask_of c / 2 ^ variables c) 0

-- and byte 3 is zero
unfoldable pub claim_header_right : List ℕ → Bool
claim_header_right c = counts_right c && mask_right c && eqb (get_or c 3 0) 0

-- 5: "coefficient zero or beyond" the limit, of term i
unfoldable pub coefficient_breaks : ℕ → List ℕ → ℕ → ℕ → ℕ → Bool
coefficient_breaks limit c n t i = eqb (nat_abs (coefficient_of c n t i)) 0 || beyond limit (coefficient_of c n t i)

-- 6: "exponent over" the limit
unfoldable pub exponent_breaks : ℕ → List ℕ → ℕ → ℕ → ℕ → Bool
exponent_breaks limit c n t i = not (exponents_within limit (term_point c n i))

-- 7: "point not above the one before"
unfoldable pub order_breaks : List ℕ → ℕ → ℕ → ℕ → Bool
order_breaks c n t i = ltb 0 i && not (rises_to (term_point c n (i - 1)) (term_point c n i))

-- 5 to 7, of which 6 reads the profile
unfoldable pub terms_answer : List ℕ → Profile → ℕ → ℕ → Answer
terms_answer c π n t =
    refuse_at (first (coefficient_breaks greatest_weight c n t) t) 5
    (refuse_at (first (exponent_breaks π.exponent c n t) t) 6
    (refuse_at (first (order_breaks c n t) t) 7
    (accepted 0)))

-- "27 .. before 1, a profile out of range"; 1 to 7
unfoldable pub claim_answer : List ℕ → Profile → Answer
claim_answer c π =
    refuse_if (not (in_range π)) 27
    (refuse_if (ltb (length c) 8) 1
    (refuse_if (not (claim_header_right c)) 2
    (refuse_if (not (eqb (length c) (claim_length (variables c) (term_count c)))) 3
    (refuse_if (beyond greatest_weight (floor_of c)) 4
    (terms_answer c π (variables c) (term_count c))))))

-- a claim of n variables and t terms that passes 1 to 7 under some profile
pub record ClaimFacts (c : List ℕ) (n t : ℕ) : Type 0 where
  pub some : 1 ≤ n
  pub room : ClaimRoom c n t
  pub sized : length c ≡ claim_length n t
  pub floor_within : nat_abs (floor_of c) ≤ greatest_weight
  pub coefficient_within : (i : ℕ) → i < t → nat_abs (coefficient_of c n t i) ≤ greatest_weight
  pub exponent_within : (i : ℕ) → i < t → exponents_within greatest_exponent (term_point c n i) ≡ true
  pub rising : (i : ℕ) → suc i < t → rises_to (term_point c n i) (term_point c n (suc i)) ≡ true
