-- Cases: what document 01 prints for G, and inputs that are cut, too long or wrong at the start.
use Rattle.std.specs.Prelude.{◌≡◌, List, [], ◌∷◌, ◌++◌, map, ℕ, pos, negsuc, take}
use Prim.Native.String.{String}
use Rattle.text.specs.Text.{ascii}
use Rattle.worked.specs.Sheets.{claim_of, square_with, square, square_proof, masked_square, motzkin, motzkin_proof}
use Rattle.burmelox_check.specs.Printing.{program_text}

-- an input and what is printed for it
pub record Case : Type 0 where
  pub input : List ℕ
  pub text : String

-- "and prints for G"
abbrev pub motzkin_text : String
motzkin_text = "accepted rows 3 scale 1 floor 0\nrow 0 p 1 q 1 r -2\nrow 1 p 2 q 2 r -4\nrow 2 p 1 q 1 r -2\n"

unfoldable pub cases : List Case
cases =
    -- G; H: "same result as G"
    record { input = motzkin ++ motzkin_proof (negsuc 1); text = motzkin_text }
    ∷ record { input = motzkin ++ motzkin_proof (negsuc 2); text = motzkin_text }
    -- B with mask 1; a sheet with a mask is split as others are, and one that 2 refuses is not
    ∷ record { input = masked_square 1 ++ square_proof; text = "accepted rows 1 scale 1 floor 0\nrow 0 p 1 q 1 r 2\n" }
    ∷ record { input = masked_square 2 ++ square_proof; text = "refused 2 at 0\n" }
    -- D: "A refusal prints `refused 19 at 0`"
    ∷ record { input = square_with (pos 1) (negsuc 1) ++ square_proof; text = "refused 19 at 0\n" }
    -- "the whole input is the claim if it is refused by 1 or 2 or is too short"
    ∷ record { input = []; text = "refused 1 at 0\n" }
    ∷ record { input = claim_of 0 (pos 0) [] [] ++ square_proof; text = "refused 2 at 0\n" }
    ∷ record { input = take 22 square; text = "refused 3 at 0\n" }
    -- the claim alone, and a proof one byte too long
    ∷ record { input = square; text = "refused 8 at 0\n" }
    ∷ record { input = square ++ (square_proof ++ (0 ∷ [])); text = "refused 10 at 0\n" }
    ∷ []

-- the definitions give every text
abbrev pub Worked : Type 0
Worked = map (λ (c : Case). program_text c.input) cases ≡ map (λ (c : Case). ascii c.text) cases
