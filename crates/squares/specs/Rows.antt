-- Rows of a proof: their slots, and when a row holds. "Slot" and "lone" are document 01's words.
use Rattle.std.specs.Prelude.{List, [], ◌∷◌, pos, ◌*ℤ◌, ◌≤ℤ◌}
use Rattle.points.specs.Points.{Exponents, midpoint_of}
use Rattle.squares.specs.Sums.{Sum, gathered}
use Rattle.squares.specs.declared.rows.Weights.{Weights}
use Rattle.squares.specs.declared.rows.Weights.TheVariants.{Pair, Lone}

pub record Row : Type 0 where
  pub v : Exponents
  pub w : Exponents
  pub weights : Weights

-- "its three slots are p at v, q at w and r at u"; of a lone row "its one slot is p at v"
unfoldable pub slots_at : Exponents → Exponents → Weights → Sum
slots_at v w (Pair p q r) = (v, p) ∷ (w, q) ∷ (midpoint_of v w, r) ∷ []
slots_at v w (Lone p) = (v, p) ∷ []

-- of one row, and of all
abbrev pub slots_of : Row → Sum
slots_of a = slots_at a.v a.w a.weights

abbrev pub slots : List Row → Sum
slots rows = gathered slots_of rows

-- "p and q are at least 0, and r × r is at most 4 × p × q"
abbrev pub Holds : Weights → Type 0
Holds (Pair p q r) = (pos 0 ≤ℤ p) × (pos 0 ≤ℤ q) × ((r *ℤ r) ≤ℤ (p *ℤ q *ℤ pos 4))
Holds (Lone p) = pos 0 ≤ℤ p
