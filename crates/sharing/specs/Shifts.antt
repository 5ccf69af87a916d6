-- Shifted rows: each row of a proof with the shifted weights of its slots. Its points stay.
use Rattle.std.specs.Prelude.{◌≡◌, List, [], ◌∷◌, ℕ, ℤ}
use Rattle.points.specs.Lists.{table}
use Rattle.points.specs.Points.{Exponents, point_of, midpoint_of}
use Rattle.points.specs.declared.points.Point.{Point}
use Rattle.squares.specs.Sums.{Sum}
use Rattle.squares.specs.Rows.{Row, slots}
use Rattle.squares.specs.declared.rows.Weights.{Weights}
use Rattle.squares.specs.declared.rows.Weights.TheVariants.{Pair, Lone}
use Rattle.sheets.specs.Layout.{variables, term_count, row_count, shape_of}
use Rattle.rows.specs.ProofSheet.{v_of, w_of, row_of, rows_of}
use Rattle.claims.specs.ClaimChecks.{ClaimFacts}
use Rattle.checks.specs.ProofChecks.{ProofFacts}
use Rattle.targets.specs.Targets.{AimWithin}
use Rattle.targets.specs.declared.targets.Aim.{Aim}
use Rattle.sharing.specs.Sharing.{rank_of, shifted_weight}
use Rattle.sharing.specs.Slots.{slots_to}

-- the shifted weights of a row's slots "p at v, q at w and r at u"; L are all slots, `before` those of the rows before
unfoldable pub shifted_weights : (Exponents → ℤ) → Sum → Sum → Exponents → Exponents → Weights → Weights
shifted_weights τ L before v w (Pair p q r) =
    Pair (shifted_weight τ L (rank_of v before []) v p)
    (shifted_weight τ L (rank_of w before ((v, p) ∷ [])) w q)
    (shifted_weight τ L (rank_of (midpoint_of v w) before ((v, p) ∷ (w, q) ∷ [])) (midpoint_of v w) r)
shifted_weights τ L before v w (Lone p) = Lone (shifted_weight τ L (rank_of v before []) v p)

-- a row with its shifted weights
unfoldable pub shift_row : (Exponents → ℤ) → Sum → Sum → Row → Row
shift_row τ L before a = record { v = a.v; w = a.w; weights = shifted_weights τ L before a.v a.w a.weights }

-- the slots of the rows before row i of a proof sheet
unfoldable pub slots_before : List ℕ → ℕ → Sum
slots_before s i = slots_to s (shape_of s) i

-- row i of a proof sheet, shifted
unfoldable pub shifted_row : (Exponents → ℤ) → List ℕ → ℕ → Row
shifted_row τ s i = shift_row τ (slots (rows_of s)) (slots_before s i) (row_of s (shape_of s) i)

-- every row of the proof, shifted
unfoldable pub shifted_rows : (Exponents → ℤ) → List ℕ → List Row
shifted_rows τ s = table (shifted_row τ s) (row_count s)

-- a claim and a proof that pass their checks, with a floor, a scale and limits
pub record CheckedSheets (c s : List ℕ) (a : Aim) : Type 0 where
  pub claim : ClaimFacts c (variables c) (term_count c)
  pub proof : ProofFacts s (shape_of s)
  pub same : variables s ≡ variables c
  pub aim : AimWithin a

-- two points by value and the weights that are row i's
pub record IsRow (s : List ℕ) (i : ℕ) (v w : Point) (weights : Weights) : Type 0 where
  pub v_is : v ≡ point_of (v_of s (shape_of s) i)
  pub w_is : w ≡ point_of (w_of s (shape_of s) i)
  pub weights_are : weights ≡ (row_of s (shape_of s) i).weights
