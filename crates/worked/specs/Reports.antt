-- Cases: lines as document 01 prints them, and numbers of many digits.
use Rattle.std.specs.Prelude.{◌≡◌, List, [], ◌∷◌, map, ℕ, ◌-◌, ◌^◌, pos, negsuc}
use Prim.Native.String.{String}
use Rattle.answers.specs.Answers.{Answer, accepted, refused}
use Rattle.text.specs.Text.{ascii}
use Rattle.report.specs.Reports.{report_text}
use Rattle.worked.specs.Sheets.{claim_of, proof_of, square, square_proof}

-- a claim, an exact proof, what the verdict says, and the report
pub record Case : Type 0 where
  pub claim : List ℕ
  pub proof : List ℕ
  pub answer : Answer
  pub text : String

-- a lone row, and numbers at the limits
unfoldable pub at_limits : Case
at_limits = record {
  claim = claim_of 1 (negsuc (2 ^ 30 - 1)) [] [];
  proof = proof_of 1 (pos (2 ^ 20)) 2 ((2 ∷ []) ∷ (2 ∷ []) ∷ (0 ∷ []) ∷ (2 ∷ []) ∷ [])
      (pos 10 ∷ pos 0 ∷ pos 0 ∷ pos (2 ^ 30) ∷ pos 99 ∷ negsuc (2 ^ 30 - 1) ∷ []);
  answer = accepted 2;
  text =
      "accepted rows 2 scale 1048576 floor -1073741824\nrow 0 p 10 q 0 r 0\nrow 1 p 1073741824 q 99 r -1073741824\n";
}

unfoldable pub cases : List Case
cases =
    record {
      claim = square;
      proof = square_proof;
      answer = accepted 1;
      text = "accepted rows 1 scale 1 floor 0\nrow 0 p 1 q 1 r -2\n";
    }
    ∷ at_limits
    ∷ record {
      claim = claim_of 1 (pos 0) [] [];
      proof = proof_of 1 (pos 1) 0 [] [];
      answer = accepted 0;
      text = "accepted rows 0 scale 1 floor 0\n";
    }
    ∷ record { claim = square; proof = square_proof; answer = refused 19 0; text = "refused 19 at 0\n" }
    ∷ record { claim = []; proof = []; answer = refused 1 0; text = "refused 1 at 0\n" }
    -- no sheets of one accepted row
    ∷ record { claim = square; proof = []; answer = accepted 1; text = "" }
    ∷ []

-- the definitions give every report
abbrev pub Worked : Type 0
Worked =
    map (λ (c : Case). report_text c.claim c.proof c.answer) cases ≡ map (λ (c : Case). ascii c.text) cases
