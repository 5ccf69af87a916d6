-- Cases: the table's examples for 20 and 21, sheet J, and offsets at the limits.
use Rattle.std.specs.Prelude.{◌≡◌, List, [], ◌∷◌, map, ℕ, ◌-◌, ◌^◌, ℤ, pos, negsuc}
use Rattle.bounds.specs.Profiles.{full_profile}
use Rattle.answers.specs.Answers.{claim, offsets, refused}
use Rattle.evaluation.specs.Evaluations.{Told, value, refusal, evaluation_of}
use Rattle.worked.specs.Sheets.{claim_of, two_terms, square, masked_cube, minus_square}

pub record Case : Type 0 where
  pub claim : List ℕ
  pub offsets : List ℤ
  pub told : Told

unfoldable pub at : List ℕ → List ℤ → Told → Case
at c x told = record { claim = c; offsets = x; told = told }

-- 1 at a point
unfoldable pub one_at : ℕ → List ℕ → List ℕ
one_at n α = claim_of n (pos 0) (α ∷ []) (pos 1 ∷ [])

-- −2^31 and 2^31 − 1
unfoldable pub least : ℤ
least = negsuc (2 ^ 31 - 1)

unfoldable pub greatest : ℤ
greatest = pos (2 ^ 31 - 1)

unfoldable pub cases : List Case
cases =
    -- "Square, two offsets"; a claim's refusal comes first
    at square (pos 1 ∷ pos 1 ∷ []) (refusal (record { number = 20; blamed = offsets; value = 0 }))
    ∷ at square [] (refusal (refused 20 0))
    ∷ at [] (pos 1 ∷ []) (refusal (refused 1 0))
    -- "1 at point 57, offset 2"; J, "1 at point 56, offset 2: value 2^56"; the first term over it
    ∷ at (one_at 1 (57 ∷ [])) (pos 2 ∷ []) (refusal (record { number = 21; blamed = claim; value = 0 }))
    ∷ at (one_at 1 (56 ∷ [])) (pos 2 ∷ []) (value (pos (2 ^ 56)))
    ∷ at (two_terms 1 120 (pos 1) (pos 1)) (least ∷ []) (refusal (refused 21 1))
    -- Square
    ∷ at square (negsuc 2 ∷ []) (value (pos 16))
    ∷ at square (pos 1 ∷ []) (value (pos 0))
    -- "evaluation takes any point": x³ with mask 1, whose floor 0 holds from 0 on
    ∷ at (masked_cube 1) (negsuc 1 ∷ []) (value (negsuc 7))
    ∷ at (masked_cube 1) (pos 2 ∷ []) (value (pos 8))
    -- and −x², whose floor −9 holds within ±3
    ∷ at (minus_square (negsuc 8)) (negsuc 2 ∷ []) (value (negsuc 8))
    ∷ at (minus_square (negsuc 8)) (pos 4 ∷ []) (value (negsuc 15))
    -- "A zero offset under a positive exponent makes its term zero, however large the rest"
    ∷ at (one_at 2 (120 ∷ 1 ∷ [])) (least ∷ pos 0 ∷ []) (value (pos 0))
    ∷ at (one_at 2 (1 ∷ 120 ∷ [])) (pos 0 ∷ greatest ∷ []) (value (pos 0))
    ∷ at (one_at 2 (0 ∷ 120 ∷ [])) (pos 0 ∷ greatest ∷ []) (refusal (refused 21 0))
    -- no term
    ∷ at (claim_of 2 (pos 1) [] []) (least ∷ greatest ∷ []) (value (pos 0))
    ∷ []

-- the definitions give every result, under the full profile
abbrev pub Worked : Type 0
Worked = map (λ (c : Case). evaluation_of c.claim full_profile c.offsets) cases ≡ map (λ (c : Case). c.told) cases
