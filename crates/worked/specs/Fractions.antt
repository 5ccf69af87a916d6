-- Cases: floors and values at h / d, multiplied by d to the claim's greatest total degree.
use Rattle.std.specs.Prelude.{◌≡◌, List, [], ◌∷◌, map, ℕ, ◌^◌, ℤ, pos, negsuc, ◌*ℤ◌}
use Rattle.squares.specs.Fractions.{degree_of, value_over}
use Rattle.sheets.specs.ClaimSheet.{floor_of, terms_of}
use Rattle.worked.specs.Sheets.{bare, square, masked_cube, motzkin, line, minus_square}

-- the floor and the value, both over whole numbers
pub record Sides : Type 0 where
  pub floor : ℤ
  pub value : ℤ

pub record Case : Type 0 where
  pub claim : List ℕ
  pub d : ℕ
  pub h : List ℤ
  pub sides : Sides

unfoldable pub over : ℕ → List ℤ → List ℕ → ℤ → ℤ → Case
over d h c floor value = record { claim = c; d = d; h = h; sides = record { floor = floor; value = value } }

unfoldable pub cases : List Case
cases =
    -- G, of degree 6, at (1, 1) as 5/5 and at (1/2, −1): 2^6 − 3 × 4 × 2^2 + 16 × 2^0 + 4 × 2^0
    over 5 (pos 5 ∷ pos 5 ∷ []) motzkin (pos 0) (pos 0)
    ∷ over 2 (pos 1 ∷ negsuc 1 ∷ []) motzkin (pos 0) (pos 36)
    -- Square at −3/2: 4 + 12 + 9
    ∷ over 2 (negsuc 2 ∷ []) square (pos 0) (pos 25)
    -- x and −x² at the ends of their limits, −5 as −15/3 and 3 as 6/2, have the floor's value
    ∷ over 3 (negsuc 14 ∷ []) line (negsuc 14) (negsuc 14)
    ∷ over 2 (pos 6 ∷ []) (minus_square (negsuc 8)) (negsuc 35) (negsuc 35)
    -- x³ with mask 1, at 2/3 and at −2/3, which the mask does not admit
    ∷ over 3 (pos 2 ∷ []) (masked_cube 1) (pos 0) (pos 8)
    ∷ over 3 (negsuc 1 ∷ []) (masked_cube 1) (pos 0) (negsuc 7)
    -- "0 without terms": the floor stays as it is
    ∷ over 7 (pos 1 ∷ []) (bare (negsuc 0)) (negsuc 0) (pos 0)
    ∷ []

unfoldable pub sides_of : Case → Sides
sides_of c = record {
  floor = floor_of c.claim *ℤ pos (c.d ^ degree_of (terms_of c.claim));
  value = value_over c.d c.h (terms_of c.claim);
}

-- the definitions give every result
abbrev pub Worked : Type 0
Worked = map sides_of cases ≡ map (λ (c : Case). c.sides) cases
