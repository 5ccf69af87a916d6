-- Reports: what the program prints for a verdict on a claim, with its exact proof where it is accepted.
use Rattle.std.specs.Prelude.{Bool, true, cond, ◌&&◌, List, [], ◌++◌, ℕ, ◌<◌, ◌≤◌, leb, length}
use Rattle.bounds.specs.Bounds.{most_rows, most_variables}
use Rattle.answers.specs.Answers.{Answer, blameless, Passes}
use Rattle.sheets.specs.Layout.{variables, proof_length, ProofRoom}
use Rattle.sheets.specs.ClaimSheet.{floor_of}
use Rattle.sheets.specs.declared.layout.Shape.{Shape}
use Rattle.rows.specs.ProofSheet.{scale_of, triple_of}
use Rattle.rows.specs.declared.proof_sheet.Triple.{Triple}
use Rattle.text.specs.Text.{ascii, texts_to}
use Rattle.text.specs.Lines.{accepted_line, row_line, refused_line}

-- "Every line ends with a line feed."
unfoldable pub ended : List ℕ → List ℕ
ended line = line ++ ascii "\n"

-- ---- what a verdict's lines are read from

-- a proof's shape where k rows are accepted
abbrev pub shape_with : List ℕ → ℕ → Shape
shape_with s k = record { n = variables s; k = k }

-- the rows that have a line each: those of an acceptance, and none of a refusal
unfoldable pub shown_of : List ℕ → Answer → Shape
shown_of s answer = cond (blameless answer) (shape_with s answer.value) (record { n = 0; k = 0 })

-- an acceptance's proof has a scale and k rows, and its claim a floor
pub record CarriesRows (s : List ℕ) (answer : Answer) : Type 0 where
  pub rows : Passes answer → ProofRoom s (shape_with s answer.value)

pub record Carries (c s : List ℕ) (answer : Answer) : Type 0 where
  pub claim : Passes answer → 8 ≤ length c
  pub proof : CarriesRows s answer

-- a proof has the rows that are shown, if there are any
pub record Shows (s : List ℕ) (shape : Shape) : Type 0 where
  pub rows : 0 < shape.k → ProofRoom s shape

-- ---- the lines

-- the first line
unfoldable pub verdict_line : List ℕ → List ℕ → Answer → List ℕ
verdict_line c s answer =
    cond (blameless answer) (accepted_line answer.value (scale_of s) (floor_of c))
    (refused_line answer.number answer.value)

-- row i of a proof, and all rows
unfoldable pub row_text : List ℕ → Shape → ℕ → List ℕ
row_text s shape i = ended (row_line i (triple_of s shape i))

abbrev pub rows_text : List ℕ → Shape → List ℕ
rows_text s shape = texts_to (row_text s shape) shape.k

unfoldable pub report_lines : List ℕ → List ℕ → Answer → List ℕ
report_lines c s answer = ended (verdict_line c s answer) ++ rows_text s (shown_of s answer)

-- ---- the report

-- a proof has k rows
unfoldable pub has_rows : List ℕ → ℕ → Bool
has_rows s k =
    leb 8 (length s) && leb (variables s) most_variables && leb k most_rows
    && leb (proof_length (shape_with s k)) (length s)

-- the sheets have what an acceptance prints: a floor and k rows
unfoldable pub reportable : List ℕ → List ℕ → Answer → Bool
reportable c s answer = cond (blameless answer) (leb 8 (length c) && has_rows s answer.value) true

-- an acceptance of more than the sheets have, which is no check's verdict, has none
unfoldable pub report_text : List ℕ → List ℕ → Answer → List ℕ
report_text c s answer = cond (reportable c s answer) (report_lines c s answer) []

-- ---- the same by the shifted weights, whatever sheet they stand in

-- the lines of the first i rows
unfoldable pub lines_of : (ℕ → Triple) → ℕ → List ℕ
lines_of x i = texts_to (λ j. ended (row_line j (x j))) i
