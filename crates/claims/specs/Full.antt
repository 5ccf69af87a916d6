-- The checks 1 to 7 of the time before profiles, with document 01's own 2^30 and 120: "the full profile gives the old
-- verdicts".
use Rattle.std.specs.Prelude.{◌≡◌, not, List, ℕ, eqb, ltb, length}
use Rattle.bounds.specs.Bounds.{greatest_exponent, greatest_weight, beyond}
use Rattle.bounds.specs.Profiles.{full_profile}
use Rattle.answers.specs.Answers.{Answer, accepted, refuse_if, refuse_at}
use Rattle.answers.specs.Searches.{first}
use Rattle.sheets.specs.Layout.{variables, term_count, claim_length}
use Rattle.sheets.specs.ClaimSheet.{floor_of}
use Rattle.claims.specs.ClaimChecks.{claim_header_right, coefficient_breaks, exponent_breaks, order_breaks, claim_answer}

-- 5 to 7
unfoldable pub full_terms : List ℕ → ℕ → ℕ → Answer
full_terms c n t =
    refuse_at (first (coefficient_breaks greatest_weight c n t) t) 5
    (refuse_at (first (exponent_breaks greatest_exponent c n t) t) 6
    (refuse_at (first (order_breaks c n t) t) 7
    (accepted 0)))

-- 1 to 7
unfoldable pub full_claim : List ℕ → Answer
full_claim c =
    refuse_if (ltb (length c) 8) 1
    (refuse_if (not (claim_header_right c)) 2
    (refuse_if (not (eqb (length c) (claim_length (variables c) (term_count c)))) 3
    (refuse_if (beyond greatest_weight (floor_of c)) 4
    (full_terms c (variables c) (term_count c)))))

abbrev pub ClaimFull : List ℕ → Type 0
ClaimFull c = claim_answer c full_profile ≡ full_claim c
