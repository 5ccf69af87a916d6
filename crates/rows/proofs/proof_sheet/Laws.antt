-- Laws of the proof sheet: its rows by their index, their triples, and what is read from the same bytes.
use mathlib.Core.Path.{◌≡◌, refl, sym, ap₂}
use mathlib.Core.Bool.{Bool, true, false}
use mathlib.Core.List.{List}
use Prim.Native.Nat.{ℕ, ◌+◌, ◌*◌, ◌<◌, ◌≤◌}
use native.Mathlib.Nat.{mul-le-mul_right}
use native.Mathlib.Omega.{arith}
use lib.IntN.{ℤ, pos}
use lib.ListN.{length, get_or}
use Rattle.integers.specs.Words.{Bytes, u32_at, i32_at}
use Rattle.integers.proofs.words.Laws.{same_bits, u32_bound, i32_fits}
use Rattle.integers.proofs.Tests.{never}
use Rattle.points.specs.Lists.{table}
use Rattle.points.specs.Points.{bytes_at, same_point, has_midpoint}
use Rattle.points.proofs.points.Laws.{bytes_length, bytes_same}
use Rattle.squares.specs.Rows as Formal
use Rattle.squares.specs.Decomposition.{Placed, Whole}
use Rattle.squares.specs.declared.rows.Weights.{Weights}
use Rattle.squares.specs.declared.rows.Weights.TheVariants.{Pair, Lone}
use Rattle.sheets.specs.Layout.{shape_of, place, v_at, w_at, triple_at, ProofRoom}
use Rattle.sheets.specs.declared.layout.Shape.{Shape}
use Rattle.rows.specs.ProofSheet.{scale_of, v_of, w_of, triple_of, weights_of, row_of, rows_of, by_value, triple_for, Suits, Narrow}
use Rattle.rows.specs.declared.proof_sheet.Row.{Row}
use Rattle.rows.specs.declared.proof_sheet.Triple.{Triple}

pub triple_inside : (s : List ℕ) (sh : Shape) (i at : ℕ) → ProofRoom s sh → i < sh.k → at ≡ triple_at sh i
    → at + 12 ≤ length s
triple_inside s sh i at room l e = omega (arith, mul-le-mul_right 12 l)

-- ---- the triple of weights

pub for_pair : (a : Weights) (p p' q q' r r' : ℤ) → a ≡ Pair p q r → p' ≡ p → q' ≡ q → r' ≡ r
    → record { p = p'; q = q'; r = r' } ≡ triple_for a
for_pair a p p' q q' r r' e ep eq er = rw (e, ep, eq, er)

pub for_lone : (a : Weights) (p p' : ℤ) → a ≡ Lone p → p' ≡ p → record { p = p'; q = pos 0; r = pos 0 } ≡ triple_for a
for_lone a p p' e ep = rw (e, ep)

-- weights that suit a row are read back as they are
pub suits_read : (lone : Bool) (a : Weights) → Suits lone a → weights_of lone (triple_for a) ≡ a
suits_read true (Lone p) h = refl
suits_read false (Pair p q r) h = refl
suits_read true (Pair p q r) h = absurd h
suits_read false (Lone p) h = absurd h

-- and a lone row's triple is written as it was, where q and r are zero
pub lone_again : (lone : Bool) (x : Triple) → (lone ≡ true → (x.q ≡ pos 0) × (x.r ≡ pos 0))
    → triple_for (weights_of lone x) ≡ x
lone_again true x h = let z = h refl in sym (ap₂ (λ (q r : ℤ). record { p = x.p; q = q; r = r }) z.0 z.1)
lone_again false x h = refl

-- ---- fields, where they stand

pub scale_word : (s : List ℕ) → scale_of s ≡ u32_at s 4
scale_word s = refl

pub v_bytes : (s : List ℕ) (sh : Shape) (i : ℕ) → v_of s sh i ≡ bytes_at s (v_at sh i) sh.n
v_bytes s sh i = refl

pub w_bytes : (s : List ℕ) (sh : Shape) (i : ℕ) → w_of s sh i ≡ bytes_at s (w_at sh i) sh.n
w_bytes s sh i = refl

-- a scale and a row's numbers have 32 bits
pub scale_bound : (s : List ℕ) → Bytes s → scale_of s < 4294967296
scale_bound s b = u32_bound s 4 b

pub triple_narrow : (s : List ℕ) (sh : Shape) (i : ℕ) → Bytes s → Narrow (triple_of s sh i)
triple_narrow s sh i b =
    let at = triple_at sh i in
    record { p_fits = i32_fits s at b; q_fits = i32_fits s (at + 4) b; r_fits = i32_fits s (at + 8) b }

-- the three numbers of a row, where they stand
module _ (s : List ℕ) (sh : Shape) (i at : ℕ) (e : at ≡ triple_at sh i) where
  pub p_there : i32_at s at ≡ (triple_of s sh i).p
  p_there = rw e

  pub q_there : i32_at s (at + 4) ≡ (triple_of s sh i).q
  q_there = rw e

  pub r_there : i32_at s (at + 8) ≡ (triple_of s sh i).r
  r_there = rw e

-- ---- what is read from the same bytes

-- s and z have the same header and points
module _ (s z : List ℕ) (sh : Shape) (same : (j : ℕ) → j < place 8 sh.k (2 * sh.n) → get_or s j 0 ≡ get_or z j 0) where
  pub scale_same : scale_of s ≡ scale_of z
  scale_same = same_bits s z 4 (λ j l. same (4 + j) (omega arith))

  module _ (i : ℕ) (l : i < sh.k) where
    pub v_same : v_of s sh i ≡ v_of z sh i
    v_same =
        bytes_same s z (v_at sh i) sh.n
        (λ j m. same (v_at sh i + j) (omega (arith, mul-le-mul_right (2 * sh.n) l)))

    pub w_same : w_of s sh i ≡ w_of z sh i
    w_same =
        bytes_same s z (w_at sh i) sh.n
        (λ j m. same (w_at sh i + j) (omega (arith, mul-le-mul_right (2 * sh.n) l)))

-- ---- rows by their index

module _ (s : List ℕ) (sh : Shape) (i : ℕ) where
  -- a lone row has one weight, a pair three
  pub row_lone : same_point (v_of s sh i) (w_of s sh i) ≡ true → (row_of s sh i).weights ≡ Lone (triple_of s sh i).p
  row_lone h = rw h

  pub row_pair : same_point (v_of s sh i) (w_of s sh i) ≡ false
      → (row_of s sh i).weights ≡ Pair (triple_of s sh i).p (triple_of s sh i).q (triple_of s sh i).r
  row_pair h = rw h

  -- and the other way round
  pub lone_of : (p : ℤ) → (row_of s sh i).weights ≡ Lone p
      → (same_point (v_of s sh i) (w_of s sh i) ≡ true) × ((triple_of s sh i).p ≡ p)
  lone_of p h = go (same_point (v_of s sh i) (w_of s sh i)) refl
    where
      go : (b : Bool) → same_point (v_of s sh i) (w_of s sh i) ≡ b → (b ≡ true) × ((triple_of s sh i).p ≡ p)
      go true e = let g = row_lone e in (refl, cc)
      go false e = let g = row_pair e in never (cc)

  pub pair_of : (p q r : ℤ) → (row_of s sh i).weights ≡ Pair p q r
      → (same_point (v_of s sh i) (w_of s sh i) ≡ false) × ((triple_of s sh i).p ≡ p) × ((triple_of s sh i).q ≡ q)
      × ((triple_of s sh i).r ≡ r)
  pair_of p q r h = go (same_point (v_of s sh i) (w_of s sh i)) refl
    where
      go : (b : Bool) → same_point (v_of s sh i) (w_of s sh i) ≡ b
          → (b ≡ false) × ((triple_of s sh i).p ≡ p) × ((triple_of s sh i).q ≡ q) × ((triple_of s sh i).r ≡ r)
      go true e = let g = row_lone e in never (cc)
      go false e = let g = row_pair e in (refl, cc, cc, cc)

  pub v_length : length (v_of s sh i) ≡ sh.n
  v_length = bytes_length s (v_at sh i) sh.n

  pub w_length : length (w_of s sh i) ≡ sh.n
  w_length = bytes_length s (w_at sh i) sh.n

-- a row has its two points, a pair with a whole midpoint
pub row_placed : (s : List ℕ) (sh : Shape) (i : ℕ) → has_midpoint (v_of s sh i) (w_of s sh i) ≡ true
    → Placed sh.n (row_of s sh i)
row_placed s sh i h = record {
  v_length = v_length s sh i;
  w_length = w_length s sh i;
  whole = go (same_point (v_of s sh i) (w_of s sh i));
}
  where
    go : (lone : Bool) → Whole (v_of s sh i) (w_of s sh i) (weights_of lone (triple_of s sh i))
    go true = tt
    go false = h

-- a row by value
pub value_weights : (a : Formal.Row) (b : Row) → b ≡ by_value a → b.weights ≡ a.weights
value_weights a b e = rw e

pub rows_table : (s : List ℕ) (sh : Shape) → sh ≡ shape_of s → table (row_of s sh) sh.k ≡ rows_of s
rows_table s sh e = rw e
