-- Weights written back into a proof sheet.
use Rattle.std.specs.Prelude.{List, ℕ, zero, suc, ◌+◌}
use Rattle.integers.specs.Words.{with_i32}
use Rattle.squares.specs.declared.rows.Weights.{Weights}
use Rattle.sheets.specs.Layout.{triple_at}
use Rattle.sheets.specs.declared.layout.Shape.{Shape}
use Rattle.rows.specs.ProofSheet.{triple_for}
use Rattle.rows.specs.declared.proof_sheet.Triple.{Triple}

-- the bytes with a triple from a place on
abbrev pub with_triple : List ℕ → ℕ → Triple → List ℕ
with_triple s at x = with_i32 (with_i32 (with_i32 s at x.p) (at + 4) x.q) (at + 8) x.r

-- the bytes with row i's weights
abbrev pub with_weights : List ℕ → Shape → ℕ → Weights → List ℕ
with_weights s shape i a = with_triple s (triple_at shape i) (triple_for a)

-- the bytes with the weights of the first rows, given by an index
unfoldable pub with_rows : (ℕ → Weights) → List ℕ → Shape → ℕ → List ℕ
with_rows weights s shape zero = s
with_rows weights s shape (suc i) = with_weights (with_rows weights s shape i) shape i (weights i)
