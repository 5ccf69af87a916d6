-- The text of a proof.
use Rattle.std.specs.Prelude.{cond, List, [], ◌∷◌, ◌++◌, ℕ, ◌+◌, ◌*◌}
use Rattle.integers.specs.Words.{Bytes}
use Rattle.bounds.specs.Bounds.{most_rows}
use Rattle.answers.specs.Answers.{Passes}
use Rattle.points.specs.Lists.{table}
use Rattle.points.specs.Points.{same_point}
use Rattle.sheets.specs.Layout.{variables, shape_of}
use Rattle.sheets.specs.declared.layout.Shape.{Shape}
use Rattle.rows.specs.ProofSheet.{scale_of, v_of, w_of, triple_of}
use Rattle.rows.specs.declared.proof_sheet.Triple.{Triple}
use Rattle.text.specs.Text.{ascii, texts_to}
use Rattle.listings.specs.Fields.{Field, number, count, exponent_fields, together, fields_text}
use Rattle.proof_listing.specs.OwnChecks.{own_answer}

-- "scale":
--   proof
--   variables 2
--   scale 1
unfoldable pub head_fields : List ℕ → List Field
head_fields s = count (ascii "proof\nvariables ") (variables s) ∷ count (ascii "\nscale ") (scale_of s) ∷ []

-- "a line a row, pairs and lone rows told apart": `row 0 pair v 0 0 w 2 4 p 1 q 1 r -2` and `row 1 lone v 2 2 p 3`
unfoldable pub weight_fields : Triple → List Field
weight_fields x = number (ascii " p ") x.p ∷ number (ascii " q ") x.q ∷ number (ascii " r ") x.r ∷ []

unfoldable pub pair_fields : List ℕ → Shape → ℕ → List Field
pair_fields s shape i =
    exponent_fields (ascii " pair v") (v_of s shape i)
    ++ (exponent_fields (ascii " w") (w_of s shape i) ++ weight_fields (triple_of s shape i))

-- how a lone row begins, after its number
abbrev pub lone_begins : List ℕ
lone_begins = ascii " lone v"

unfoldable pub lone_fields : List ℕ → Shape → ℕ → List Field
lone_fields s shape i =
    exponent_fields lone_begins (v_of s shape i) ++ (number (ascii " p ") (triple_of s shape i).p ∷ [])

-- "A row is lone when v equals w"
unfoldable pub row_fields : List ℕ → Shape → ℕ → List Field
row_fields s shape i =
    count (ascii "\nrow ") i
    ∷ cond (same_point (v_of s shape i) (w_of s shape i)) (lone_fields s shape i) (pair_fields s shape i)

unfoldable pub proof_fields : List ℕ → List Field
proof_fields s = head_fields s ++ together (table (row_fields s (shape_of s)) (shape_of s).k)

-- the lines of the rows, as the code puts them
abbrev pub rows_text : List ℕ → Shape → List ℕ
rows_text s shape = texts_to (λ i. fields_text (row_fields s shape i)) shape.k

-- how long it is at most
abbrev pub longest : ℕ
longest = 32 + 123 * most_rows

-- a proof of bytes that passes its own checks
pub record FormedProof (s : List ℕ) : Type 0 where
  pub bytes : Bytes s
  pub passes : Passes (own_answer s)
