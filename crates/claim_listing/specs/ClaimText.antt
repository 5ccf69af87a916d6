-- The text of a claim.
use Rattle.std.specs.Prelude.{List, [], ◌∷◌, ◌++◌, ℕ, ◌+◌, ◌*◌}
use Rattle.integers.specs.Words.{Bytes}
use Rattle.bounds.specs.Bounds.{most_terms}
use Rattle.bounds.specs.Profiles.{full_profile}
use Rattle.answers.specs.Answers.{Passes}
use Rattle.points.specs.Lists.{table}
use Rattle.sheets.specs.Layout.{variables, term_count, mask_of}
use Rattle.sheets.specs.ClaimSheet.{floor_of, term_point, coefficient_of}
use Rattle.claims.specs.ClaimChecks.{claim_answer}
use Rattle.text.specs.Text.{ascii, texts_to}
use Rattle.listings.specs.Fields.{Field, number, count, exponent_fields, together, fields_text}

-- "variables, mask, floor":
--   claim
--   variables 2
--   mask 0
--   floor 0
unfoldable pub head_fields : List ℕ → List Field
head_fields c =
    count (ascii "claim\nvariables ") (variables c) ∷ count (ascii "\nmask ") (mask_of c)
    ∷ number (ascii "\nfloor ") (floor_of c) ∷ []

-- "a line a term": `term 1 coefficient -3 exponents 2 2`, of a claim of n variables and t terms
unfoldable pub term_fields : List ℕ → ℕ → ℕ → ℕ → List Field
term_fields c n t i =
    count (ascii "\nterm ") i ∷ number (ascii " coefficient ") (coefficient_of c n t i)
    ∷ exponent_fields (ascii " exponents") (term_point c n i)

unfoldable pub claim_fields : List ℕ → List Field
claim_fields c = head_fields c ++ together (table (term_fields c (variables c) (term_count c)) (term_count c))

-- the lines of the terms, as the code puts them
abbrev pub terms_text : List ℕ → ℕ → ℕ → List ℕ
terms_text c n t = texts_to (λ i. fields_text (term_fields c n t i)) t

-- how long it is at most
abbrev pub longest : ℕ
longest = 45 + 74 * most_terms

-- a claim of bytes that passes its own checks, 1 to 7
pub record FormedClaim (c : List ℕ) : Type 0 where
  pub bytes : Bytes c
  pub passes : Passes (claim_answer c full_profile)
