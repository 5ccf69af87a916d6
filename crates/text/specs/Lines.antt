-- Lines: what the program prints, each line without its line feed.
use Rattle.std.specs.Prelude.{List, ◌++◌, ℕ, ℤ}
use Rattle.rows.specs.declared.proof_sheet.Triple.{Triple}
use Rattle.text.specs.Text.{ascii, counted, numbered}

-- ` scale 1 floor 0`
unfoldable pub scale_text : ℕ → ℤ → List ℕ
scale_text scale floor = counted (ascii " scale ") scale ++ numbered (ascii " floor ") floor

-- "Fields are k, S, b": `accepted rows 3 scale 1 floor 0`
unfoldable pub accepted_line : ℕ → ℕ → ℤ → List ℕ
accepted_line k scale floor = counted (ascii "accepted rows ") k ++ scale_text scale floor

-- ` q 1 r -2`
unfoldable pub later_text : ℤ → ℤ → List ℕ
later_text q r = numbered (ascii " q ") q ++ numbered (ascii " r ") r

-- ` p 1 q 1 r -2`
unfoldable pub weights_text : Triple → List ℕ
weights_text x = numbered (ascii " p ") x.p ++ later_text x.q x.r

-- "then row index and shifted weights": `row 0 p 1 q 1 r -2`
unfoldable pub row_line : ℕ → Triple → List ℕ
row_line i x = counted (ascii "row ") i ++ weights_text x

-- "A refusal prints `refused 19 at 0`: number, index."
unfoldable pub refused_line : ℕ → ℕ → List ℕ
refused_line number index = counted (ascii "refused ") number ++ counted (ascii " at ") index
