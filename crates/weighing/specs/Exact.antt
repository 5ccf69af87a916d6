-- The exact proof: "the proof with its shifted weights".
use Rattle.std.specs.Prelude.{List, ℕ, ◌<◌, ◌≤◌, ℤ, length}
use Rattle.bounds.specs.Bounds.{greatest_weight}
use Rattle.points.specs.Points.{Exponents}
use Rattle.squares.specs.declared.rows.Weights.{Weights}
use Rattle.sheets.specs.Layout.{row_count, shape_of}
use Rattle.rows.specs.ProofSheet.{triple_for}
use Rattle.writing.specs.Writing.{with_rows}
use Rattle.checks.specs.ProofChecks.{Within}
use Rattle.targets.specs.Targets.{target_of}
use Rattle.targets.specs.declared.targets.Aim.{Aim}
use Rattle.sharing.specs.Shifts.{CheckedSheets, shifted_row}

-- the shifted weights of row i; τ gives each point's target
unfoldable pub weights_for : (Exponents → ℤ) → List ℕ → ℕ → Weights
weights_for τ s i = (shifted_row τ s i).weights

unfoldable pub exact_proof : (Exponents → ℤ) → List ℕ → List ℕ
exact_proof τ s = with_rows (weights_for τ s) s (shape_of s) (row_count s)

-- "the weights, shifted by the published sharing rule, stay within" ± the limit
pub record AllWithin (limit : ℕ) (τ : Exponents → ℤ) (s : List ℕ) : Type 0 where
  pub within : (i : ℕ) → i < row_count s → Within limit (triple_for (weights_for τ s i))

-- checked sheets whose shifted weights stay within the greatest, and bytes that have room for the proof
pub record Writable (c s : List ℕ) (a : Aim) (out : List ℕ) : Type 0 where
  pub sheets : CheckedSheets c s a
  pub light : AllWithin greatest_weight (target_of c a) s
  pub room : length s ≤ length out
