-- Cases: the table's examples for 1 to 10, 12 to 15, 24 and 25, sheets that break two rules, and sheets at the limits.
use Rattle.std.specs.Prelude.{◌≡◌, List, [], ◌∷◌, ◌++◌, map, ℕ, ◌+◌, ◌-◌, ◌^◌, ℤ, pos, negsuc, replicate}
use Rattle.bounds.specs.Profiles.{full_profile}
use Rattle.answers.specs.Answers as Answers
use Rattle.answers.specs.Answers.{Answer, accepted, refused}
use Rattle.points.specs.Lists.{table}
use Rattle.checks.specs.Input.{formed_answer}
use Rattle.worked.specs.Sheets.{joined, word, claim_of, proof_of, square, square_proof, two_terms, one_row, masked, limit, unlimited, limits_with, one_limit}

pub record Case : Type 0 where
  pub claim : List ℕ
  pub proof : List ℕ
  pub limits : List ℕ
  pub answer : Answer

-- a claim beside Square's proof, a proof beside Square, and limits beside both
unfoldable pub claims : List ℕ → Answer → Case
claims c answer = record { claim = c; proof = square_proof; limits = one_limit 0 0 0; answer = answer }

unfoldable pub proves : List ℕ → Answer → Case
proves s answer = record { claim = square; proof = s; limits = one_limit 0 0 0; answer = answer }

unfoldable pub limits : List ℕ → Answer → Case
limits l answer = record { claim = square; proof = square_proof; limits = l; answer = answer }

-- eight variables without rows
unfoldable pub eight : List ℕ → List ℕ → Answer → Case
eight c l answer = record { claim = c; proof = proof_of 8 (pos 1) 0 [] []; limits = l; answer = answer }

-- 64 terms in eight variables, with exponents up to 120, and the floor and the coefficients at one number
unfoldable pub full : ℤ → List ℕ
full z = claim_of 8 z (table (λ i. (57 + i) ∷ replicate 7 120) 64) (replicate 64 z)

-- 256 rows in one variable at the greatest scale, by the last exponent; every weight is zero
unfoldable pub many_points : ℕ → List ℕ
many_points e = 1 ∷ 0 ∷ 0 ∷ 1 ∷ word (pos (2 ^ 20)) ++ (joined (replicate 255 (0 ∷ 120 ∷ [])) ++ (0 ∷ e ∷ []))

unfoldable pub many_rows : ℕ → List ℕ
many_rows e = many_points e ++ replicate 3072 0

-- all but one
unfoldable pub small : List Case
small =
    -- 1 to 4
    claims [] (refused 1 0)
    ∷ claims (claim_of 0 (pos 0) [] []) (refused 2 0)
    ∷ claims (claim_of 9 (pos 0) [] []) (refused 2 0)
    ∷ claims (claim_of 1 (pos 0) (replicate 65 []) []) (refused 2 0)
    ∷ claims (masked 2 square) (refused 2 0)
    ∷ claims (1 ∷ 0 ∷ 0 ∷ 1 ∷ word (pos 0)) (refused 2 0)
    ∷ claims (claim_of 1 (pos 0) [] [] ++ (0 ∷ [])) (refused 3 0)
    ∷ claims (claim_of 1 (pos (2 ^ 30 + 1)) [] []) (refused 4 0)
    ∷ claims (claim_of 1 (negsuc (2 ^ 30)) [] []) (refused 4 0)
    -- 5 to 7; an exponent is looked at after every coefficient, the order last
    ∷ claims (two_terms 0 1 (pos 0) (pos 1)) (refused 5 0)
    ∷ claims (two_terms 121 1 (pos 1) (pos (2 ^ 30 + 1))) (refused 5 1)
    ∷ claims (two_terms 2 2 (pos 1) (negsuc (2 ^ 30))) (refused 5 1)
    ∷ claims (two_terms 121 1 (pos 1) (pos 1)) (refused 6 0)
    ∷ claims (two_terms 2 2 (pos 1) (pos 1)) (refused 7 1)
    -- 8 to 10
    ∷ proves (replicate 7 0) (refused 8 0)
    ∷ proves (proof_of 2 (pos 1) 0 [] []) (refused 9 0)
    ∷ proves (1 ∷ 1 ∷ 0 ∷ 0 ∷ word (pos 1)) (refused 9 0)
    ∷ proves (1 ∷ 0 ∷ 1 ∷ 1 ∷ word (pos 1)) (refused 9 0)
    ∷ proves (proof_of 1 (pos 0) 0 [] []) (refused 9 0)
    ∷ proves (proof_of 1 (pos (2 ^ 20 + 1)) 0 [] []) (refused 9 0)
    ∷ proves (proof_of 1 (pos 1) 0 [] [] ++ (0 ∷ [])) (refused 10 0)
    -- 12 to 15
    ∷ proves (one_row 0 121 (pos 1) (pos 1) (pos 1)) (refused 12 0)
    ∷ proves (one_row 0 1 (pos 1) (pos 1) (pos 1)) (refused 13 0)
    ∷ proves (one_row 1 1 (pos 1) (pos 1) (pos 0)) (refused 14 0)
    ∷ proves (one_row 1 1 (pos 1) (pos 0) (pos 1)) (refused 14 0)
    ∷ proves (one_row 0 2 (pos (2 ^ 30 + 1)) (pos 1) (pos 1)) (refused 15 0)
    ∷ proves (one_row 0 2 (pos 1) (negsuc (2 ^ 30)) (pos 1)) (refused 15 0)
    ∷ proves (one_row 0 2 (pos 1) (pos 1) (pos (2 ^ 30 + 1))) (refused 15 0)
    -- 24: empty, too long, n not the claim's; before it 10, and after it 25 and 12
    ∷ limits [] (refused 24 0)
    ∷ limits (one_limit 0 0 0 ++ (0 ∷ [])) (refused 24 0)
    ∷ limits (2 ∷ replicate 7 0) (refused 24 0)
    ∷ limits (limits_with (unlimited ∷ unlimited ∷ [])) (record { number = 24; blamed = Answers.limits; value = 0 })
    ∷ record { claim = square; proof = square_proof ++ (0 ∷ []); limits = []; answer = refused 10 0 }
    ∷ record { claim = square; proof = one_row 0 121 (pos 1) (pos 1) (pos 1); limits = []; answer = refused 24 0 }
    ∷ record {
      claim = square;
      proof = one_row 0 121 (pos 1) (pos 1) (pos 1);
      limits = one_limit 3 1 0;
      answer = refused 25 0;
    }
    -- 25: "a power, L or m not as said, with the first such variable as index"
    ∷ limits (one_limit 1 1 1) (refused 25 0)
    ∷ limits (one_limit 3 1 1) (record { number = 25; blamed = Answers.limits; value = 0 })
    ∷ limits (one_limit 2 0 1) (refused 25 0)
    ∷ limits (one_limit 4 1024 1) (refused 25 0)
    ∷ limits (one_limit 2 1 65537) (refused 25 0)
    ∷ limits (one_limit 0 1 0) (refused 25 0)
    ∷ limits (one_limit 0 0 1) (refused 25 0)
    ∷ eight (claim_of 8 (pos 0) [] []) (limits_with (replicate 7 (limit 2 1 1) ++ (limit 2 0 1 ∷ []))) (refused 25 7)
    ∷ eight (claim_of 8 (pos 0) [] []) (limits_with (unlimited ∷ limit 6 1 1 ∷ replicate 6 (limit 5 1 1))) (refused 25 1)
    -- at the limits
    ∷ claims square (accepted 0)
    ∷ claims (masked 1 square) (accepted 0)
    ∷ limits (one_limit 2 1 0) (accepted 0)
    ∷ limits (one_limit 4 1023 65536) (accepted 0)
    ∷ eight (claim_of 8 (pos 0) [] []) (limits_with (replicate 8 (limit 4 1023 65536))) (accepted 0)
    ∷ eight (masked 255 (full (pos 1))) (limits_with (replicate 8 unlimited)) (accepted 0)
    ∷ claims (masked 128 (claim_of 7 (pos 0) [] [])) (refused 2 0)
    ∷ eight (full (pos (2 ^ 30))) (limits_with (replicate 8 unlimited)) (accepted 0)
    ∷ eight (full (negsuc (2 ^ 30 - 1))) (limits_with (replicate 8 unlimited)) (accepted 0)
    ∷ proves (one_row 0 120 (pos (2 ^ 30)) (pos (2 ^ 30)) (negsuc (2 ^ 30 - 1))) (accepted 0)
    ∷ proves (many_rows 121) (refused 12 255)
    ∷ []

unfoldable pub cases : List Case
cases = proves (many_rows 120) (accepted 0) ∷ small

-- the definitions give every answer, under the full profile
abbrev pub Worked : Type 0
Worked =
    map (λ (c : Case). formed_answer c.claim c.proof c.limits full_profile) cases
    ≡ map (λ (c : Case). c.answer) cases
