-- Laws of rows: where a midpoint's worth is the mean of its ends', a row that holds is worth at least 0.
use mathlib.Core.Path.{◌≡◌, refl, sym, ◌∙◌, ap}
use mathlib.Core.List.{List, [], ◌∷◌}
use Prim.Native.Nat.{ℕ, suc, ◌+◌, ◌*◌, ◌≤◌}
use native.Mathlib.Decide.{dec_le}
use native.Mathlib.Nat.{mul-le-mul, mul-le-mul_right}
use native.Mathlib.Omega.{arith}
use lib.IntN.{ℤ, pos, negsuc, nat_abs, ◌+ℤ◌, ◌-ℤ◌, ◌*ℤ◌, +ℤ_idr}
use lib.Signed.{◌≤ℤ◌}
use Rattle.integers.proofs.Integers.{ring, ints, by_le, read_le, abs_mul, *ℤ_nonneg, pos_nonneg, square_nonneg}
use Rattle.points.specs.Points.{Exponents, midpoint_of}
use Rattle.points.specs.Lists.{All}
use Rattle.points.proofs.Lists.{all_both}
use Rattle.squares.specs.Sums.{value}
use Rattle.squares.specs.Rows.{Row, slots_at, slots_of, slots, Holds}
use Rattle.squares.specs.declared.rows.Weights.{Weights}
use Rattle.squares.specs.declared.rows.Weights.TheVariants.{Pair, Lone}
use Rattle.squares.proofs.Sums.{gathered_nonneg}

-- ---- slots

pub slots_pair : (v w : Exponents) (p q r : ℤ) → slots_at v w (Pair p q r) ≡ (v, p) ∷ (w, q) ∷ (midpoint_of v w, r) ∷ []
unfolding slots_at
slots_pair v w p q r = refl

pub slots_lone : (v w : Exponents) (p : ℤ) → slots_at v w (Lone p) ≡ (v, p) ∷ []
unfolding slots_at
slots_lone v w p = refl

-- ---- naturals

root_le : (x y : ℕ) → x * x ≤ y * y → x ≤ y
root_le x y h = go (dec_le x y)
  where
    go : Dec (x ≤ y) → x ≤ y
    go (yes k) = k
    go (no f) = let k : suc y ≤ x = omega arith in omega (arith, mul-le-mul k k)

four_le : (x y : ℕ) → 4 * (x * y) ≤ (x + y) * (x + y)
four_le x y = let s = simp ring at (read_le (square_nonneg (pos x -ℤ pos y))) in omega arith

-- r × m is at most p × a + q × b where r² ≤ 4 × p × q and m² = a × b: the mean of the two against half their sum
mean_le : (p q r a b m : ℕ) → r * r ≤ 4 * (p * q) → m * m ≡ a * b → r * m ≤ p * a + q * b
mean_le p q r a b m h e =
    root_le (r * m) (p * a + q * b)
    (omega (arith, mul-le-mul_right (m * m) h, ap (λ (k : ℕ). 4 * (p * q) * k) e, four_le (p * a) (q * b)))

-- ---- a row

pair_nonneg : (p q r : ℤ) (a b m : ℕ) → Holds (Pair p q r) → m * m ≡ a * b
    → pos 0 ≤ℤ (p *ℤ pos a +ℤ (q *ℤ pos b +ℤ (r *ℤ pos m +ℤ pos 0)))
pair_nonneg (pos p) (pos q) (pos r) a b m h e = omega ints
pair_nonneg (pos p) (pos q) (negsuc r) a b m h e =
    let s = simp ring at (read_le h.2) in
    let k = mean_le p q (suc r) a b m (omega arith) e in
    by_le (simp ring (omega ints))
pair_nonneg (pos p) (negsuc q) r a b m h e = absurd h.1.le
pair_nonneg (negsuc p) q r a b m h e = absurd h.0.le

lone_nonneg : (p : ℤ) (a : ℕ) → pos 0 ≤ℤ p → pos 0 ≤ℤ (p *ℤ pos a +ℤ pos 0)
lone_nonneg p a h = rw +ℤ_idr (*ℤ_nonneg h (pos_nonneg a))

-- a midpoint's worth is the geometric mean of its ends'
abbrev pub Mean : (Exponents → ℤ) → Exponents → Exponents → Weights → Type 0
Mean φ v w (Pair p q r) = φ (midpoint_of v w) *ℤ φ (midpoint_of v w) ≡ φ v *ℤ φ w
Mean φ v w (Lone p) = Unit {0}

-- what a point is worth at absolute values
abbrev pub absolute : (Exponents → ℤ) → Exponents → ℤ
absolute φ α = pos (nat_abs (φ α))

row_nonneg : (φ : Exponents → ℤ) (v w : Exponents) (s : Weights) → Mean φ v w s → Holds s
    → pos 0 ≤ℤ value (absolute φ) (slots_at v w s)
unfolding value slots_at
row_nonneg φ v w (Pair p q r) e h =
    let u = midpoint_of v w in
    pair_nonneg p q r (nat_abs (φ v)) (nat_abs (φ w)) (nat_abs (φ u)) h
    (sym (abs_mul (φ u) (φ u)) ∙ ap nat_abs e ∙ abs_mul (φ v) (φ w))
row_nonneg φ v w (Lone p) e h = lone_nonneg p (nat_abs (φ v)) h

pub rows_nonneg : (φ : Exponents → ℤ) (rows : List Row) → All (λ a. Mean φ a.v a.w a.weights) rows
    → All (λ a. Holds a.weights) rows → pos 0 ≤ℤ value (absolute φ) (slots rows)
rows_nonneg φ rows t h =
    gathered_nonneg slots_of (absolute φ) rows
    (all_both _ _ _ rows (λ a m k. row_nonneg φ a.v a.w a.weights m k) t h)
