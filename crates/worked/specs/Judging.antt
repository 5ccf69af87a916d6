-- Cases: document 01's worked sheets marked *, the table's examples for 11 and 16 to 18, and sheets of document 02's
-- notes 3 and 4.
use Rattle.std.specs.Prelude.{◌≡◌, List, [], ◌∷◌, ◌++◌, map, ℕ, ◌+◌, ◌-◌, ◌*◌, ◌^◌, pos, negsuc, length, replicate}
use Rattle.bounds.specs.Profiles.{full_profile}
use Rattle.answers.specs.Answers.{Answer, proof, output, limits, accepted, refused}
use Rattle.points.specs.Lists.{Reordered}
use Rattle.squares.specs.Rows.{Row}
use Rattle.squares.specs.declared.rows.Weights.{Weights}
use Rattle.squares.specs.declared.rows.Weights.TheVariants.{Pair, Lone}
use Rattle.sheets.specs.Layout.{variables}
use Rattle.rows.specs.ProofSheet.{rows_of}
use Rattle.limits.specs.LimitsSheet.{no_limits}
use Rattle.sharing.specs.Shifts.{shifted_rows}
use Rattle.judging.specs.Check.{targets_of, check_answer, output_of}
use Rattle.worked.specs.Sheets.{claim_of, proof_of, square_with, square, square_proof, one_row, bare, no_rows, motzkin, motzkin_proof, motzkin_exchanged, motzkin_bytes, motzkin_proof_bytes, one_term, masked, masked_square, masked_product, product_proof, masked_cube, cube_proof, limit, unlimited, limits_with, one_limit, minus_square, parabola, one_at_one, line, bare_proof, line_proof, at_zero}

-- three sheets and an output; the weights that every row has after the shift, the answer, and the output afterwards
pub record Case : Type 0 where
  pub claim : List ℕ
  pub proof : List ℕ
  pub limits : List ℕ
  pub output : List ℕ
  pub weights : List Weights
  pub answer : Answer
  pub written : List ℕ

-- an output with two bytes more than a proof
unfoldable pub spare : List ℕ → List ℕ
spare s = replicate (length s + 2) 7

-- accepted within limits, with k and the exact proof
unfoldable pub accepts_in : List ℕ → List ℕ → List ℕ → List Weights → ℕ → List ℕ → Case
accepts_in c s l weights k exact = record {
  claim = c;
  proof = s;
  limits = l;
  output = spare s;
  weights = weights;
  answer = accepted k;
  written = exact ++ 7 ∷ 7 ∷ [];
}

-- refused, with this answer
unfoldable pub refuses_in : List ℕ → List ℕ → List ℕ → List Weights → Answer → Case
refuses_in c s l weights answer = record {
  claim = c;
  proof = s;
  limits = l;
  output = spare s;
  weights = weights;
  answer = answer;
  written = spare s;
}

-- the same with no variable limited
unfoldable pub accepts : List ℕ → List ℕ → List Weights → ℕ → List ℕ → Case
accepts c s weights k exact = accepts_in c s (no_limits (variables c)) weights k exact

unfoldable pub refuses : List ℕ → List ℕ → List Weights → Answer → Case
refuses c s weights answer = refuses_in c s (no_limits (variables c)) weights answer

unfoldable pub motzkin_exact : List Weights
motzkin_exact = Pair (pos 1) (pos 1) (negsuc 1) ∷ Pair (pos 2) (pos 2) (negsuc 3) ∷ Pair (pos 1) (pos 1) (negsuc 1) ∷ []

-- "The sheets marked * are put together as one list"
unfoldable pub marked : List Case
marked =
    -- A: "Square is accepted"
    accepts square square_proof (Pair (pos 1) (pos 1) (negsuc 1) ∷ []) 1 square_proof
    -- B: "the target is −2 either way"
    ∷ accepts (square_with (pos 0) (pos 2)) square_proof (Pair (pos 1) (pos 1) (negsuc 1) ∷ []) 1 square_proof
    -- C: "p becomes 2, accepted"
    ∷ accepts (square_with (negsuc 0) (negsuc 1)) square_proof (Pair (pos 2) (pos 1) (negsuc 1) ∷ []) 1
    (one_row 0 2 (pos 2) (pos 1) (negsuc 1))
    -- D: "p becomes 0, refused 19 at 0"
    ∷ refuses (square_with (pos 1) (negsuc 1)) square_proof (Pair (pos 0) (pos 1) (negsuc 1) ∷ [])
    (record { number = 19; blamed = proof; value = 0 })
    -- E: "accepted, 8 bytes written"; F: "the same, b 1 or −1: refused 16 at 0"
    ∷ accepts (bare (pos 0)) no_rows [] 0 no_rows
    ∷ refuses (bare (pos 1)) no_rows [] (refused 16 0)
    ∷ refuses (bare (negsuc 0)) no_rows [] (refused 16 0)
    -- G: "Accepted"; H: "the first slot takes it, same result as G"
    ∷ accepts motzkin_bytes motzkin_proof_bytes motzkin_exact 3 motzkin_proof_bytes
    ∷ accepts motzkin (motzkin_proof (negsuc 2)) motzkin_exact 3 motzkin_proof_bytes
    -- not in document 01: H with its first two rows exchanged, the same error, and the other row's slot takes it
    ∷ refuses motzkin (motzkin_exchanged (negsuc 2))
    (Pair (pos 3) (pos 2) (negsuc 3) ∷ Pair (pos 1) (pos 1) (negsuc 2) ∷ Pair (pos 1) (pos 1) (negsuc 1) ∷ [])
    (record { number = 19; blamed = proof; value = 1 })
    -- I: "shares 0 and −1, the second row's p is 1, refused 19 at 1"
    ∷ refuses motzkin (motzkin_proof (negsuc 0))
    (Pair (pos 1) (pos 1) (negsuc 0) ∷ Pair (pos 1) (pos 2) (negsuc 3) ∷ Pair (pos 1) (pos 1) (negsuc 1) ∷ [])
    (refused 19 1)
    ∷ []

unfoldable pub tabled : List Case
tabled =
    -- 11: "Square, 21 bytes"
    record {
      claim = square;
      proof = square_proof;
      limits = no_limits 1;
      output = replicate 21 7;
      weights = Pair (pos 1) (pos 1) (negsuc 1) ∷ [];
      answer = record { number = 11; blamed = output; value = 0 };
      written = replicate 21 7;
    }
    -- 16: "Square, k 0"; 17: "2^30 at point 2, S 2, lone row 2"; 18: "claim 1 at point 1, lone row 1"
    ∷ refuses square no_rows [] (refused 16 0)
    ∷ refuses (one_term 2 (pos (2 ^ 30))) (proof_of 1 (pos 2) 1 ((2 ∷ []) ∷ (2 ∷ []) ∷ []) (pos 0 ∷ pos 0 ∷ pos 0 ∷ []))
    (Lone (pos (2 ^ 31)) ∷ []) (refused 17 0)
    ∷ refuses (one_term 1 (pos 1)) (one_row 1 1 (pos 0) (pos 0) (pos 0)) (Lone (negsuc 0) ∷ []) (refused 18 0)
    -- 16: "an absent constant has index t"
    ∷ refuses (claim_of 1 (negsuc 0) ((2 ∷ []) ∷ []) (pos 1 ∷ [])) (one_row 2 2 (pos 1) (pos 0) (pos 0))
    (Lone (pos 1) ∷ []) (record { number = 16; blamed = proof; value = 1 })
    ∷ []

-- document 02, note 3
unfoldable pub with_mask : List Case
with_mask =
    -- "Sheet B is kept with mask 0; with mask 1 its target at point 1 is 2"; a second variable it does not have
    accepts (masked_square 0) square_proof (Pair (pos 1) (pos 1) (negsuc 1) ∷ []) 1 square_proof
    ∷ accepts (masked_square 1) square_proof (Pair (pos 1) (pos 1) (pos 2) ∷ []) 1
    (one_row 0 2 (pos 1) (pos 1) (pos 2))
    ∷ refuses (masked_square 2) square_proof (Pair (pos 1) (pos 1) (negsuc 1) ∷ []) (refused 2 0)
    -- "A point whose odd exponents all belong to masked variables": all, not some
    ∷ refuses (masked_product 2 0) (product_proof 2) (Lone (negsuc 0) ∷ []) (refused 18 0)
    ∷ refuses (masked_product 2 1) (product_proof 2) (Lone (negsuc 0) ∷ []) (refused 18 0)
    ∷ refuses (masked_product 2 2) (product_proof 2) (Lone (negsuc 0) ∷ []) (refused 18 0)
    ∷ accepts (masked_product 2 3) (product_proof 2) (Lone (pos 1) ∷ []) 1 (product_proof 2)
    ∷ refuses (masked_product 8 127) (product_proof 8) (Lone (negsuc 0) ∷ []) (refused 18 0)
    ∷ refuses (masked_product 8 254) (product_proof 8) (Lone (negsuc 0) ∷ []) (refused 18 0)
    ∷ accepts (masked_product 8 255) (product_proof 8) (Lone (pos 1) ∷ []) 1 (product_proof 8)
    ∷ accepts (masked_cube 1) cube_proof (Lone (pos 1) ∷ []) 1 cube_proof
    ∷ []

-- document 02, note 4
unfoldable pub with_limits : List Case
with_limits =
    -- −x² is at least −9 within ±3: "The constant target falls by m × L^power; the target at that pure power rises by
    -- m", and neither is multiplied by S
    accepts_in (minus_square (negsuc 8)) (bare_proof 1) (one_limit 2 3 1) [] 0 (bare_proof 1)
    ∷ refuses_in (minus_square (negsuc 8)) (bare_proof 2) (one_limit 2 3 1) [] (refused 16 0)
    ∷ accepts_in (minus_square (negsuc 8)) (bare_proof 2) (one_limit 2 3 2) [] 0 (bare_proof 2)
    -- a limit without a multiplier changes no target; L of two bytes; power 4
    ∷ refuses_in (minus_square (negsuc 8)) (bare_proof 1) (one_limit 2 3 0) [] (refused 16 0)
    ∷ accepts_in (minus_square (negsuc 65535)) (bare_proof 1) (one_limit 2 256 1) [] 0 (bare_proof 1)
    ∷ accepts_in (claim_of 1 (negsuc 80) ((4 ∷ []) ∷ []) (negsuc 0 ∷ [])) (bare_proof 1) (one_limit 4 3 1) [] 0
    (bare_proof 1)
    -- x is at least −5 within ±5
    ∷ accepts_in line line_proof (one_limit 2 5 1) (Pair (pos 25) (pos 1) (negsuc 9) ∷ []) 1 line_proof
    -- −x² − 2y⁴, each variable with its own limit
    ∷ accepts_in (claim_of 2 (negsuc 40) ((0 ∷ 4 ∷ []) ∷ (2 ∷ 0 ∷ []) ∷ []) (negsuc 1 ∷ negsuc 0 ∷ []))
    (proof_of 2 (pos 1) 0 [] []) (limits_with (limit 2 3 1 ∷ limit 4 2 2 ∷ [])) [] 0 (proof_of 2 (pos 1) 0 [] [])
    -- x − x² within ±3, with mask 1 and without
    ∷ accepts_in (masked 1 parabola) one_at_one (one_limit 2 3 1) (Lone (pos 1) ∷ []) 1 one_at_one
    ∷ refuses_in parabola one_at_one (one_limit 2 3 1) (Lone (negsuc 0) ∷ []) (refused 18 0)
    -- Square, with a limit that changes no target
    ∷ accepts_in square square_proof (one_limit 4 1023 0) (Pair (pos 1) (pos 1) (negsuc 1) ∷ []) 1 square_proof
    -- 16: "points the limits add are searched after the constant, by variable, with indices t + 1 + i"
    ∷ refuses_in (bare (pos 0)) no_rows (one_limit 2 1 1) [] (refused 16 0)
    ∷ refuses_in (claim_of 2 (pos 0) [] []) (at_zero 2 (pos 0)) (limits_with (unlimited ∷ limit 2 1 1 ∷ []))
    (Lone (negsuc 0) ∷ []) (record { number = 16; blamed = proof; value = 2 })
    -- "A claim term counts as having no slot by its new target": x² keeps its index 0
    ∷ refuses_in (claim_of 1 (negsuc 0) ((2 ∷ []) ∷ []) (pos 1 ∷ [])) no_rows (one_limit 2 1 1) [] (refused 16 0)
    -- the greatest limits of eight variables
    ∷ refuses_in (claim_of 8 (pos 0) [] []) (at_zero 8 (pos 0)) (limits_with (replicate 8 (limit 4 1023 65536)))
    (Lone (negsuc (8 * (65536 * 1023 ^ 4) - 1)) ∷ []) (refused 16 1)
    -- 24 and 25 come before 11
    ∷ record {
      claim = square;
      proof = square_proof;
      limits = [];
      output = replicate 21 7;
      weights = Pair (pos 1) (pos 1) (negsuc 1) ∷ [];
      answer = record { number = 24; blamed = limits; value = 0 };
      written = replicate 21 7;
    }
    ∷ record {
      claim = square;
      proof = square_proof;
      limits = one_limit 3 1 0;
      output = replicate 21 7;
      weights = Pair (pos 1) (pos 1) (negsuc 1) ∷ [];
      answer = record { number = 25; blamed = limits; value = 0 };
      written = replicate 21 7;
    }
    ∷ []

-- ---- the definitions give every weight, answer and byte

unfoldable pub worked : Case → Case
worked a = record {
  claim = a.claim;
  proof = a.proof;
  limits = a.limits;
  output = a.output;
  weights = map (λ (row : Row). row.weights) (shifted_rows (targets_of a.claim a.proof a.limits) a.proof);
  answer = check_answer a.claim a.proof a.limits full_profile (length a.output);
  written = output_of a.claim a.proof a.limits full_profile a.output;
}

unfoldable pub cases : List Case
cases = marked ++ (tabled ++ (with_mask ++ with_limits))

abbrev pub Worked : Type 0
Worked = map worked cases ≡ cases

-- B's target at point 1, without and with mask 1; −x² with floor −9 and scale 2 within ±3: at 2 and at the constant
abbrev pub Targets : Type 0
Targets =
    (targets_of (masked_square 0) square_proof (no_limits 1) (1 ∷ []) ≡ negsuc 1)
    × (targets_of (masked_square 1) square_proof (no_limits 1) (1 ∷ []) ≡ pos 2)
    × (targets_of (minus_square (negsuc 8)) (bare_proof 2) (one_limit 2 3 1) (2 ∷ []) ≡ negsuc 0)
    × (targets_of (minus_square (negsuc 8)) (bare_proof 2) (one_limit 2 3 1) (0 ∷ []) ≡ pos 9)

-- H's rows in another order are those of the sheet beside it: its errors are the same, and its shares are not
abbrev pub Exchanged : Type 0
Exchanged = Reordered (rows_of (motzkin_proof (negsuc 2))) (rows_of (motzkin_exchanged (negsuc 2)))
