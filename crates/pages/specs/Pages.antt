-- Pages: the verdict on paper, for a post of a site.
use Rattle.std.specs.Prelude.{◌≡◌, cond, List, [], ◌++◌, ℕ, suc, ◌+◌, ◌*◌, ◌-◌, ◌<◌, ltb, pos, length, get_or}
use Rattle.answers.specs.Answers.{Answer}
use Rattle.rows.specs.ProofSheet.{triple_of}
use Rattle.rows.specs.declared.proof_sheet.Triple.{Triple}
use Rattle.text.specs.Text.{ascii, texts_to}
use Rattle.text.specs.Columns.{spaces, column}
use Rattle.report.specs.Reports.{shown_of, verdict_line}

-- "40 lines of 72 characters, each ended by a line feed"
abbrev pub page_width : ℕ
page_width = 72

abbrev pub page_lines : ℕ
page_lines = 40

-- 2,920
abbrev pub page_length : ℕ
page_length = page_lines * suc page_width

-- "lines 2 to 39 the first 38 rows"
abbrev pub page_rows : ℕ
page_rows = 38

-- so many bytes, with a line feed after every 72
pub record Lined (page : List ℕ) : Type 0 where
  pub long : length page ≡ page_length
  pub fed : (i : ℕ) → i < page_lines → get_or page (i * suc page_width + page_width) 0 ≡ 10

-- a line with its text, "the rest spaces"
unfoldable pub page_line : List ℕ → List ℕ
page_line text = text ++ (spaces (page_width - length text) ++ ascii "\n")

-- "index in 4 columns, then p, q, r in 12 each, right-aligned"
unfoldable pub row_columns : ℕ → Triple → List ℕ
row_columns i x = column 4 (pos i) ++ (column 12 x.p ++ (column 12 x.q ++ column 12 x.r))

-- row i of k, and nothing where there is none
unfoldable pub row_shown : (ℕ → Triple) → ℕ → ℕ → List ℕ
row_shown x k i = cond (ltb i k) (row_columns i (x i)) []

-- "line 40 `more` if k exceeds 38, else spaces"
unfoldable pub more_shown : ℕ → List ℕ
more_shown k = cond (ltb page_rows k) (ascii "more") []

-- what stands on lines 2 to 40, counted from 0
unfoldable pub table_text : (ℕ → Triple) → ℕ → ℕ → List ℕ
table_text x k i = cond (ltb i page_rows) (row_shown x k i) (more_shown k)

unfoldable pub table_line : (ℕ → Triple) → ℕ → ℕ → List ℕ
table_line x k i = page_line (table_text x k i)

-- line 1, and lines 2 to 40 for k rows with these weights
unfoldable pub page_of : List ℕ → (ℕ → Triple) → ℕ → List ℕ
page_of first x k = page_line first ++ texts_to (table_line x k) (suc page_rows)

-- "line 1 the verdict as printed by the program"; "a refused verdict leaves lines 2 to 40 blank": it shows no rows
unfoldable pub verdict_page : List ℕ → List ℕ → Answer → List ℕ
verdict_page c s answer = page_of (verdict_line c s answer) (triple_of s (shown_of s answer)) (shown_of s answer).k
