-- The steps of saturated products: they respect the products of ℤ, and zero brings down what is too large.
use mathlib.Core.Path.{◌≡◌, refl, sym, ◌∙◌}
use mathlib.Core.Bool.{Bool, true, false}
use mathlib.Core.List.{List, [], ◌∷◌}
use Prim.Native.Nat.{ℕ, zero, suc, ◌+◌, ◌-◌, ◌*◌, ◌/◌, ◌%◌, ◌≤◌, ◌<◌, min}
use native.Mathlib.Decide.{dec_lt, ℕ_discrete}
use native.Mathlib.Nat.{mul-le-mul_right, le-div_iff_mul-le, div-lt_iff_lt-mul}
use native.Mathlib.Omega.{arith}
use lib.Dec.{leb}
use lib.IntN.{ℤ, pos, nat_abs, ◌*ℤ◌, *ℤ_comm, zero-*ℤ}
use lib.ListN.{length, get_or, drop}
use lib.Seq.{drop-cons, drop-nil}
use borrow.Author.Tests.{leb-true, leb-false, le-leb, lt-leb, lt-ltb, le-ltb}
use mir.Syntax.{w64}
use mir.Val.{Fits, SFits}
use mir.Facts.{to_z-of_z}
use Rattle.integers.proofs.Integers.{back, abs_mul, abs_zero, fits_within}
use Rattle.bounds.specs.Bounds.{greatest_value}
use Rattle.points.specs.Points.{Exponents}
use Rattle.std.specs.Prelude.{Option}
use Rattle.monomials.specs.Powers.{power_of, monomial_of, within, saturation, saturated, reduced}
use Rattle.monomials.proofs.powers.Laws.{power_parity, within_large}

-- ---- saturated numbers

module _ (z : ℤ) where
  saturated_small : nat_abs z ≤ greatest_value → z ≡ saturated z
  unfolding saturated
  saturated_small h = rw (le-leb (nat_abs z) greatest_value h)

  saturated_large : greatest_value < nat_abs z → saturation ≡ saturated z
  unfolding saturated
  saturated_large h = rw (lt-leb (nat_abs z) greatest_value h)

  within_saturated : within (saturated z) ≡ within z
  unfolding within
  within_saturated = go (dec_lt greatest_value (nat_abs z))
    where
      go : Dec (greatest_value < nat_abs z) → within (saturated z) ≡ within z
      go (yes h) = rw (← (saturated_large h)) (within_large z h)
      go (no h) = rw (← (saturated_small (omega arith)))

abs_more : (x y : ℤ) → (nat_abs x ≡ 0 → ⊥) → nat_abs y ≤ nat_abs (x *ℤ y)
abs_more x y h = let k : 1 ≤ nat_abs x = omega arith in rw (abs_mul x y) (omega (arith, mul-le-mul_right (nat_abs y) k))

-- a product may be of saturated numbers
saturated_second : (x y : ℤ) → saturated (x *ℤ saturated y) ≡ saturated (x *ℤ y)
saturated_second x y = go (dec_lt greatest_value (nat_abs y)) (ℕ_discrete (nat_abs x) 0)
  where
    go : Dec (greatest_value < nat_abs y) → Dec (nat_abs x ≡ 0) → saturated (x *ℤ saturated y) ≡ saturated (x *ℤ y)
    go (no h) d = rw (← (saturated_small y (omega arith)))
    go (yes h) (yes e) = rw (abs_zero x e, zero-*ℤ, zero-*ℤ)
    go (yes h) (no e) =
        rw (← (saturated_large y h))
        (sym (saturated_large (x *ℤ saturation) (omega (arith, abs_more x (saturation) e)))
        ∙ saturated_large (x *ℤ y) (omega (arith, abs_more x y e)))

saturated_both : (x y : ℤ) → saturated (saturated x *ℤ saturated y) ≡ saturated (x *ℤ y)
saturated_both x y =
    saturated_second (saturated x) y
    ∙ rw (*ℤ_comm (saturated x) y) (saturated_second y x ∙ rw (*ℤ_comm y x))

-- ---- the ways through the code; x' is what the machine reads back of x

-- fits
module _ (m n : ℕ) where
  pub fits_room : m < 268435456 → Fits w64 n → Fits w64 (m * (n / 268435456 + 1))
  fits_room h f =
      let k : m ≤ 268435455 = omega arith in
      record { fits = omega (arith, mul-le-mul_right (n / 268435456 + 1) k) }

  pub fits_small : m * (n / 268435456 + 1) ≤ 268435456 → true ≡ leb (m * n) greatest_value
  fits_small h =
      let k : n ≤ (n / 268435456 + 1) * 268435456 = omega arith in
      sym (le-leb (m * n) greatest_value (omega (arith, mul-le-mul_right m k, mul-le-mul_right 268435456 h)))

  pub fits_none : m ≡ 0 → true ≡ leb (m * n) greatest_value
  fits_none h = sym (le-leb (m * n) greatest_value (rw h (omega arith)))

  pub fits_divided : (m ≡ 0 → ⊥) → leb n (greatest_value / m) ≡ leb (m * n) greatest_value
  fits_divided h = go (leb n (greatest_value / m)) refl
    where
      go : (t : Bool) → leb n (greatest_value / m) ≡ t → t ≡ leb (m * n) greatest_value
      go true e =
          let p = (le-div_iff_mul-le {k = m} (omega arith)).0 (leb-true n (greatest_value / m) e) in
          sym (le-leb (m * n) greatest_value (omega (arith, p)))
      go false e =
          let p = (div-lt_iff_lt-mul {k = m} (omega arith)).0 (leb-false n (greatest_value / m) e) in
          sym (lt-leb (m * n) greatest_value (omega (arith, p)))

pub ruleset fit = (fits_room, fits_small, fits_none, fits_divided)

-- product: m and n are the absolute values, t says whether their product fits
module _ (x y x' y' : ℤ) (m n : ℕ) (t : Bool) (et : t ≡ leb (m * n) greatest_value) (em : m ≡ nat_abs x') (sx : x' ≡ x)
    (en : n ≡ nat_abs y') (sy : y' ≡ y) where
  abs_is : nat_abs (x *ℤ y) ≡ m * n
  abs_is = abs_mul x y ∙ (let p : nat_abs x ≡ m = cc in let q : nat_abs y ≡ n = cc in rw (p, q))

  pub product_large : t ≡ false → saturation ≡ saturated (x *ℤ y)
  product_large h = saturated_large (x *ℤ y) (rw abs_is (leb-false (m * n) greatest_value (sym et ∙ h)))

  module _ (h : t ≡ true) where
    small : nat_abs (x *ℤ y) ≤ greatest_value
    small = rw abs_is (leb-true (m * n) greatest_value (sym et ∙ h))

    pub product_fits : SFits w64 (x' *ℤ y')
    product_fits = rw (sx, sy) (fits_within (x *ℤ y) greatest_value small (omega arith))

    pub product_value : back (x' *ℤ y') ≡ saturated (x *ℤ y)
    product_value = to_z-of_z product_fits ∙ rw (sx, sy) (saturated_small (x *ℤ y) small)

-- power: y is the power with exponent one less, z their product
pub power_none : (b : ℤ) (e : ℕ) → e ≡ 0 → pos 1 ≡ saturated (power_of b e)
unfolding power_of
power_none b e h = rw h (saturated_small (pos 1) (omega arith))

power_less : (b : ℤ) (e : ℕ) → (e ≡ 0 → ⊥) → power_of b e ≡ b *ℤ power_of b (e - 1)
unfolding power_of
power_less b zero h = absurd (h refl)
power_less b (suc k) h = let q : suc k - 1 ≡ k = omega arith in rw q

pub power_more : (b b' b'' y y' z z' : ℤ) (e : ℕ) → z' ≡ z → z ≡ saturated (b'' *ℤ y') → b'' ≡ b → y' ≡ y
    → y ≡ saturated (power_of b' (e - 1)) → b' ≡ b → (e ≡ 0 → ⊥) → z' ≡ saturated (power_of b e)
power_more b b' b'' y y' z z' e sz ez t u ey s h =
    rw (sz, ez, t, u, ey, s, power_less b e h) (saturated_second b (power_of b (e - 1)))

-- reduced
module _ (x : ℤ) (e : ℕ) where
  pub reduced_low : e < 3 → e ≡ reduced x e
  unfolding reduced
  reduced_low h = rw (lt-ltb e 3 h)

  pub reduced_same : 1 < nat_abs x → e ≡ reduced x e
  unfolding reduced
  reduced_same h = go (dec_lt e 3)
    where
      go : Dec (e < 3) → e ≡ reduced x e
      go (yes l) = rw (lt-ltb e 3 l)
      go (no l) = rw (le-ltb e 3 (omega arith), lt-ltb 1 (nat_abs x) h)

  pub reduced_parity : 3 ≤ e → nat_abs x ≤ 1 → 2 - e % 2 ≡ reduced x e
  unfolding reduced
  reduced_parity l h = rw (le-ltb e 3 l, le-ltb 1 (nat_abs x) h)

  power_reduced : power_of x (reduced x e) ≡ power_of x e
  unfolding reduced
  power_reduced = go (dec_lt e 3) (dec_lt 1 (nat_abs x))
    where
      go : Dec (e < 3) → Dec (1 < nat_abs x) → power_of x (reduced x e) ≡ power_of x e
      go (yes h) d = rw (lt-ltb e 3 h)
      go (no h) (yes k) = rw (le-ltb e 3 (omega arith), lt-ltb 1 (nat_abs x) k)
      go (no h) (no k) =
          rw (le-ltb e 3 (omega arith), le-ltb 1 (nat_abs x) (omega arith))
          (power_parity x e (omega arith) (omega arith))

pub ruleset reduces = (reduced_low, reduced_same, reduced_parity)

-- monomial: the product of the powers from a variable on
monomial_past : (x : List ℤ) (α : Exponents) (i : ℕ) → min (length α) (length x) ≤ i
    → monomial_of (drop i x) (drop i α) ≡ pos 1
unfolding monomial_of
monomial_past x [] i h = rw (drop-nil {A = ℕ} i)
monomial_past [] (e ∷ α) i h = rw (drop-nil {A = ℤ} i) (go (drop i (e ∷ α)))
  where
    go : (α : Exponents) → monomial_of [] α ≡ pos 1
    go [] = refl
    go (e ∷ α) = refl
monomial_past (y ∷ x) (e ∷ α) zero h = absurd (omega arith)
monomial_past (y ∷ x) (e ∷ α) (suc i) h = monomial_past x α i (omega arith)

monomial_cons : (x : List ℤ) (α : Exponents) (i : ℕ) → i < length x → i < length α
    → monomial_of (drop i x) (drop i α)
    ≡ power_of (get_or x i (pos 0)) (get_or α i 0) *ℤ monomial_of (drop (suc i) x) (drop (suc i) α)
unfolding monomial_of
monomial_cons x α i h k = rw (drop-cons x i (pos 0) h, drop-cons α i 0 k)

-- nothing is multiplied yet past the last variable of both
pub last_product : (x : List ℤ) (α : Exponents)
    → saturated (monomial_of (drop (min (length α) (length x)) x) (drop (min (length α) (length x)) α)) ≡ pos 1
last_product x α =
    rw (monomial_past x α (min (length α) (length x)) (omega arith)) (sym (saturated_small (pos 1) (omega arith)))

-- one variable more: b is its offset, r the power, v the product so far and q both
pub next_product : (x : List ℤ) (α : Exponents) (i d : ℕ) (b b' b'' r r' v v' q q' : ℤ)
    → v ≡ saturated (monomial_of (drop i x) (drop i α)) → v' ≡ v → 0 < i → i ≤ length x → i ≤ length α
    → b ≡ get_or x (i - 1) (pos 0) → b' ≡ b → d ≡ reduced b' (get_or α (i - 1) 0)
    → b'' ≡ b → r ≡ saturated (power_of b'' d) → r' ≡ r → q ≡ saturated (r' *ℤ v') → q' ≡ q
    → q' ≡ saturated (monomial_of (drop (i - 1) x) (drop (i - 1) α))
next_product x α i d b b' b'' r r' v v' q q' ev sv l h k eb s ed t er sr eq sq =
    let j : suc (i - 1) ≡ i = omega arith in
    let same : power_of b d ≡ power_of b (get_or α (i - 1) 0) = rw (ed, s) (power_reduced b (get_or α (i - 1) 0)) in
    rw (monomial_cons x α (i - 1) (omega arith) (omega arith), j, sq, eq, sr, sv, er, ev, t, same, eb)
    (saturated_both (power_of (get_or x (i - 1) (pos 0)) (get_or α (i - 1) 0)) (monomial_of (drop i x) (drop i α)))

-- term: y is the monomial m, z the product
pub term_is : (c c' m y y' z z' : ℤ) (r : Option ℤ) → r ≡ within z' → z' ≡ z → z ≡ saturated (c' *ℤ y') → c' ≡ c
    → y' ≡ y
    → y ≡ saturated m → r ≡ within (c *ℤ m)
term_is c c' m y y' z z' r er sz ez sc sy ey =
    er ∙ rw (sz, ez, sc, sy, ey, saturated_second c m) (within_saturated (c *ℤ m))
