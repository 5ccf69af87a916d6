-- The proof sheet: its scale and its rows, as the bytes give them.
use Rattle.std.specs.Prelude.{Bool, true, false, cond, List, ℕ, ◌+◌, pos}
use Rattle.std.specs.Int.{w32}
use Rattle.std.proofs.Common.{SFits}
use Rattle.integers.specs.Words.{u32_at, i32_at}
use Rattle.points.specs.Lists.{table}
use Rattle.points.specs.Points.{Exponents, bytes_at, point_of, same_point}
use Rattle.squares.specs.Rows as Formal
use Rattle.squares.specs.declared.rows.Weights.{Weights}
use Rattle.squares.specs.declared.rows.Weights.TheVariants.{Pair, Lone}
use Rattle.sheets.specs.Layout.{row_count, shape_of, v_at, w_at, triple_at}
use Rattle.sheets.specs.declared.layout.Shape.{Shape}
use Rattle.rows.specs.declared.proof_sheet.Row.{Row}
use Rattle.rows.specs.declared.proof_sheet.Triple.{Triple}

-- "Bytes 4 to 7: the scale S"
abbrev pub scale_of : List ℕ → ℕ
scale_of s = u32_at s 4

-- "two points v and w" of row i
abbrev pub v_of : List ℕ → Shape → ℕ → Exponents
v_of s shape i = bytes_at s (v_at shape i) shape.n

abbrev pub w_of : List ℕ → Shape → ℕ → Exponents
w_of s shape i = bytes_at s (w_at shape i) shape.n

-- the triple from a place on: "p, q, r, each signed 32-bit"
abbrev pub words_at : List ℕ → ℕ → Triple
words_at s at = record { p = i32_at s at; q = i32_at s (at + 4); r = i32_at s (at + 8) }

abbrev pub triple_of : List ℕ → Shape → ℕ → Triple
triple_of s shape i = words_at s (triple_at shape i)

-- "its one slot is p at v"; otherwise "its three slots are p at v, q at w and r at u"
abbrev pub weights_of : Bool → Triple → Weights
weights_of lone x = cond lone (Lone x.p) (Pair x.p x.q x.r)

-- "A row is lone when v equals w": row i
abbrev pub row_of : List ℕ → Shape → ℕ → Formal.Row
row_of s shape i = record {
  v = v_of s shape i;
  w = w_of s shape i;
  weights = weights_of (same_point (v_of s shape i) (w_of s shape i)) (triple_of s shape i);
}

abbrev pub rows_of : List ℕ → List Formal.Row
rows_of s = table (row_of s (shape_of s)) (row_count s)

-- a row with points by value
abbrev pub by_value : Formal.Row → Row
by_value a = record { v = point_of a.v; w = point_of a.w; weights = a.weights }

-- the triple of a row's weights: of a lone row "q and r are zero"
abbrev pub triple_for : Weights → Triple
triple_for (Pair p q r) = record { p = p; q = q; r = r }
triple_for (Lone p) = record { p = p; q = pos 0; r = pos 0 }

-- a lone row has one weight, a pair three
abbrev pub Suits : Bool → Weights → Type 0
Suits true (Lone p) = Unit {0}
Suits true (Pair p q r) = ⊥
Suits false (Lone p) = ⊥
Suits false (Pair p q r) = Unit {0}

-- numbers of 32 bits
pub record Narrow (x : Triple) : Type 0 where
  pub p_fits : SFits w32 x.p
  pub q_fits : SFits w32 x.q
  pub r_fits : SFits w32 x.r
