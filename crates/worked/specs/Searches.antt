-- Cases: searches for the highest floor, and ranges at the edges of 22.
use Rattle.std.specs.Prelude.{◌≡◌, Bool, true, false, List, [], ◌∷◌, ◌++◌, map, ℕ, ◌+◌, ◌^◌, ◌-◌, ℤ, pos, negsuc, length, replicate}
use Rattle.bounds.specs.Profiles.{full_profile}
use Rattle.answers.specs.Answers.{Answer, output, range, refused}
use Rattle.sheets.specs.Layout.{variables}
use Rattle.limits.specs.LimitsSheet.{no_limits}
use Rattle.floors.specs.Search.{Told, found, refusal, range_wrong, search_of, search_output}
use Rattle.worked.specs.Judging.{spare}
use Rattle.worked.specs.Sheets.{claim_of, square_with, square, square_proof, one_row, bare, no_rows, motzkin, motzkin_proof_bytes, one_term, masked_cube, cube_proof, one_limit, minus_square, at_zero}

-- three sheets, a range and an output; what is told, and the output afterwards
pub record Case : Type 0 where
  pub claim : List ℕ
  pub proof : List ℕ
  pub limits : List ℕ
  pub lo : ℤ
  pub hi : ℤ
  pub output : List ℕ
  pub told : Told
  pub written : List ℕ

-- a floor is found within limits, with the number of floors tried, k and the exact proof
unfoldable pub finds_in : List ℕ → List ℕ → List ℕ → ℤ → ℤ → ℤ → ℕ → ℕ → List ℕ → Case
finds_in c s l lo hi floor tried k exact = record {
  claim = c;
  proof = s;
  limits = l;
  lo = lo;
  hi = hi;
  output = spare s;
  told = found floor tried k;
  written = exact ++ 7 ∷ 7 ∷ [];
}

-- refused, with this answer
unfoldable pub refuses_in : List ℕ → List ℕ → List ℕ → ℤ → ℤ → List ℕ → Answer → Case
refuses_in c s l lo hi out answer = record {
  claim = c;
  proof = s;
  limits = l;
  lo = lo;
  hi = hi;
  output = out;
  told = refusal answer;
  written = out;
}

-- the same with no variable limited
unfoldable pub finds : List ℕ → List ℕ → ℤ → ℤ → ℤ → ℕ → ℕ → List ℕ → Case
finds c s lo hi floor tried k exact = finds_in c s (no_limits (variables c)) lo hi floor tried k exact

unfoldable pub refuses : List ℕ → List ℕ → ℤ → ℤ → List ℕ → Answer → Case
refuses c s lo hi out answer = refuses_in c s (no_limits (variables c)) lo hi out answer

-- 2^30 at point 0, with a lone row there
unfoldable pub heavy : List ℕ
heavy = one_term 0 (pos (2 ^ 30))

unfoldable pub lone_zero : List ℕ
lone_zero = one_row 0 0 (pos 0) (pos 0) (pos 0)

unfoldable pub cases : List Case
cases =
    -- Square and E: the floors above 0 are refused by 19 and by 16
    finds square square_proof (negsuc 2) (pos 3) (pos 0) 4 1 square_proof
    ∷ finds (bare (pos 0)) no_rows (negsuc 4) (pos 5) (pos 0) 6 0 no_rows
    -- one floor; the claim's own is 7
    ∷ finds (square_with (pos 7) (negsuc 1)) square_proof (pos 0) (pos 0) (pos 0) 1 1 square_proof
    -- the exact proof is that of the floor that is found: C's rows, where the claim's own floor is 0
    ∷ finds square square_proof (negsuc 1) (negsuc 0) (negsuc 0) 1 1 (one_row 0 2 (pos 2) (pos 1) (negsuc 1))
    -- lower floors need not be accepted too: here the weight at point 0 is beyond 2^30
    ∷ refuses heavy lone_zero (negsuc 3) (negsuc 0) (spare lone_zero) (record { number = 23; blamed = range; value = 0 })
    ∷ finds heavy lone_zero (negsuc 3) (pos 0) (pos 0) 1 1 (one_row 0 0 (pos (2 ^ 30)) (pos 0) (pos 0))
    -- and here no row holds point 0
    ∷ finds (claim_of 1 (pos 0) ((0 ∷ []) ∷ (2 ∷ []) ∷ []) (pos 5 ∷ pos 1 ∷ [])) (one_row 2 2 (pos 1) (pos 0) (pos 0))
    (pos 3) (pos 7) (pos 5) 3 1 (one_row 2 2 (pos 1) (pos 0) (pos 0))
    -- G
    ∷ finds motzkin motzkin_proof_bytes (negsuc 9) (pos 10) (pos 0) 11 3 motzkin_proof_bytes
    -- x³ with mask 1 and without
    ∷ finds (masked_cube 1) cube_proof (negsuc 1) (pos 2) (pos 0) 3 1 cube_proof
    ∷ refuses (masked_cube 0) cube_proof (negsuc 1) (pos 2) (spare cube_proof) (refused 23 0)
    -- −x² within ±3, and within ±2; 24 comes before 11 and 22
    ∷ finds_in (minus_square (pos 0)) (at_zero 1 (pos 0)) (one_limit 2 3 1) (negsuc 11) (negsuc 4) (negsuc 8) 5 1
    (at_zero 1 (pos 0))
    ∷ finds_in (minus_square (pos 0)) (at_zero 1 (pos 0)) (one_limit 2 2 1) (negsuc 11) (negsuc 4) (negsuc 4) 1 1
    (at_zero 1 (pos 1))
    ∷ refuses_in square square_proof [] (pos 1) (pos 0) (replicate 21 7) (refused 24 0)
    -- 22 comes after 1 to 15, which the claim's own floor has to pass
    ∷ refuses square square_proof (pos 1) (pos 0) (spare square_proof) (record { number = 22; blamed = range; value = 0 })
    ∷ refuses square square_proof (pos 1) (pos 0) (replicate 21 7) (record { number = 11; blamed = output; value = 0 })
    ∷ refuses (square_with (pos (2 ^ 31 - 1)) (negsuc 1)) square_proof (pos 0) (pos 0) (spare square_proof) (refused 4 0)
    ∷ []

-- ---- 22 at its edges

pub record Range : Type 0 where
  pub lo : ℤ
  pub hi : ℤ
  pub wrong : Bool

unfoldable pub ranges : List Range
ranges =
    record { lo = negsuc 4094; hi = pos 0; wrong = false }
    ∷ record { lo = negsuc 4095; hi = pos 0; wrong = true }
    ∷ record { lo = pos 0; hi = pos 0; wrong = false }
    ∷ record { lo = pos 1; hi = pos 0; wrong = true }
    ∷ record { lo = negsuc (2 ^ 30 - 1); hi = negsuc (2 ^ 30 - 1); wrong = false }
    ∷ record { lo = negsuc (2 ^ 30); hi = negsuc (2 ^ 30 - 1); wrong = true }
    ∷ record { lo = pos (2 ^ 30); hi = pos (2 ^ 30); wrong = false }
    ∷ record { lo = pos (2 ^ 30); hi = pos (2 ^ 30 + 1); wrong = true }
    -- the least and the greatest number of 64 bits
    ∷ record { lo = negsuc (2 ^ 63 - 1); hi = pos (2 ^ 63 - 1); wrong = true }
    ∷ record { lo = pos (2 ^ 63 - 1); hi = negsuc (2 ^ 63 - 1); wrong = true }
    ∷ []

-- ---- the definitions give every floor, count, answer and byte, under the full profile

unfoldable pub worked : Case → Case
worked a = record {
  claim = a.claim;
  proof = a.proof;
  limits = a.limits;
  lo = a.lo;
  hi = a.hi;
  output = a.output;
  told = search_of a.claim a.proof a.limits full_profile a.lo a.hi (length a.output);
  written = search_output a.claim a.proof a.limits full_profile a.lo a.hi a.output;
}

abbrev pub Worked : Type 0
Worked =
    (map worked cases ≡ cases)
    × (map (λ (r : Range). range_wrong r.lo r.hi) ranges ≡ map (λ (r : Range). r.wrong) ranges)
