-- Laws of monomials over ℤ: never negative at a point that keeps its sign, and which numbers make it so; at a midpoint
-- the mean of those at its ends; of a pure power; and what an answer up to the greatest value says.
use mathlib.Core.Path.{◌≡◌, refl, sym, ◌∙◌, ap}
use mathlib.Core.Bool.{true, Bool, false, cond}
use mathlib.Core.List.{List, [], ◌∷◌}
use Prim.Native.Nat.{ℕ, zero, suc, ◌+◌, ◌-◌, ◌/◌, ◌%◌, ◌^◌, ◌≤◌, ◌<◌}
use native.Mathlib.Nat.{zero-add, suc-add, zero-div, pow-zero, pow-suc}
use native.Mathlib.Decide.{ℕ_discrete}
use native.Mathlib.Omega.{arith}
use lib.IntN.{ℤ, pos, negsuc, ◌*ℤ◌, nat_abs, one, *ℤ-one}
use lib.ListN.{get_or, replicate}
use lib.Signed.{◌≤ℤ◌}
use lib.Dec.{leb}
use borrow.Author.Tests.{leb-true, leb-false, le-leb, lt-leb}
use Rattle.integers.proofs.Integers.{one-*ℤ, *ℤ_assoc, *ℤ_swap, abs_mul, *ℤ_nonneg, pos_nonneg, square_nonneg}
use Rattle.bounds.specs.Bounds.{greatest_value}
use Rattle.points.specs.Points.{Exponents, has_midpoint, midpoint_of, OddsMasked, keeps_sign, pure_at}
use Rattle.points.proofs.points.Laws.{pure_first, pure_later, pure_elsewhere, masked_more, odds_more, keeps_means, midpoint_none, midpoint_more, whole_more, whole_sized}
use Rattle.monomials.specs.Powers.{power_of, monomial_of, variable, Allowed, AllowedExactly, Represents, within}
use Rattle.std.specs.Prelude.{Some, None}

-- ---- powers

power_add : (x : ℤ) (a b : ℕ) → power_of x (a + b) ≡ power_of x a *ℤ power_of x b
unfolding power_of
power_add x zero b = rw zero-add (sym (one-*ℤ (power_of x b)))
power_add x (suc a) b = rw (suc-add, power_add x a b) (sym (*ℤ_assoc x (power_of x a) (power_of x b)))

power_half : (x : ℤ) (a b : ℕ) → (a + b) % 2 ≡ 0
    → power_of x ((a + b) / 2) *ℤ power_of x ((a + b) / 2) ≡ power_of x a *ℤ power_of x b
power_half x a b h =
    let e : (a + b) / 2 + (a + b) / 2 ≡ a + b = omega arith in
    sym (power_add x ((a + b) / 2) ((a + b) / 2)) ∙ ap (power_of x) e ∙ power_add x a b

power_even : (x : ℤ) (e : ℕ) → e % 2 ≡ 0 → pos 0 ≤ℤ power_of x e
power_even x e h =
    let k : e ≡ e / 2 + e / 2 = omega arith in
    rw (k, power_add) (square_nonneg (power_of x (e / 2)))

power_nonneg : (x : ℤ) (e : ℕ) → pos 0 ≤ℤ x → pos 0 ≤ℤ power_of x e
unfolding power_of
power_nonneg x zero h = pos_nonneg 1
power_nonneg x (suc e) h = *ℤ_nonneg h (power_nonneg x e h)

-- an odd power only of a number that is not negative
power_sign : (x : ℤ) (e : ℕ) → (e % 2 ≡ 1 → pos 0 ≤ℤ x) → pos 0 ≤ℤ power_of x e
power_sign x e f = go (ℕ_discrete (e % 2) 1)
  where
    go : Dec (e % 2 ≡ 1) → pos 0 ≤ℤ power_of x e
    go (yes h) = power_nonneg x e (f h)
    go (no h) = power_even x e (omega arith)

-- its absolute value
pub power_abs : (x : ℤ) (e : ℕ) → nat_abs (power_of x e) ≡ nat_abs x ^ e
unfolding power_of
power_abs x zero = sym (pow-zero (nat_abs x))
power_abs x (suc e) = abs_mul x (power_of x e) ∙ rw (power_abs x e) (omega (arith, pow-suc (nat_abs x) e))

power_one : (e : ℕ) → power_of (pos 1) e ≡ pos 1
unfolding power_of
power_one zero = refl
power_one (suc e) = one-*ℤ (power_of (pos 1) e) ∙ power_one e

-- the powers of 0, 1 and −1 with positive exponents: two more change nothing, so they go by parity
power_two_more : (x : ℤ) (e : ℕ) → nat_abs x ≤ 1 → power_of x (suc (suc (suc e))) ≡ power_of x (suc e)
unfolding power_of
power_two_more (pos zero) zero h = refl
power_two_more (pos (suc zero)) zero h = refl
power_two_more (pos (suc (suc n))) zero h = absurd (omega arith)
power_two_more (negsuc zero) zero h = refl
power_two_more (negsuc (suc n)) zero h = absurd (omega arith)
power_two_more x (suc e) h = ap (λ (y : ℤ). x *ℤ y) (power_two_more x e h)

pub power_parity : (x : ℤ) (e : ℕ) → nat_abs x ≤ 1 → 0 < e → power_of x (2 - e % 2) ≡ power_of x e
power_parity x zero h l = absurd (omega arith)
power_parity x (suc zero) h l = refl
power_parity x (suc (suc zero)) h l = refl
power_parity x (suc (suc (suc e))) h l =
    let p : suc (suc (suc e)) % 2 ≡ suc e % 2 = omega arith in
    rw (p, power_two_more x e h) (power_parity x (suc e) h (omega arith))

-- ---- monomials

-- the constant's monomial is one
pub monomial_constant : (x : List ℤ) (n : ℕ) → monomial_of x (replicate n 0) ≡ pos 1
unfolding monomial_of power_of
monomial_constant x zero = refl
monomial_constant [] (suc n) = refl
monomial_constant (x ∷ xs) (suc n) = one-*ℤ (monomial_of xs (replicate n 0)) ∙ monomial_constant xs n

-- that of a pure power is the power
pub pure_value : (x : List ℤ) (n i e : ℕ) → i < n → monomial_of x (pure_at n i e) ≡ power_of (variable x i) e
unfolding monomial_of one power_of
pure_value x zero i e l = absurd (omega arith)
pure_value [] (suc n) zero e l = rw (pure_first n e) (sym (power_one e))
pure_value [] (suc n) (suc i) e l = rw (pure_later n i e) (sym (power_one e))
pure_value (x ∷ xs) (suc n) zero e l = rw (pure_first n e, monomial_constant xs n) (*ℤ-one (power_of x e))
pure_value (x ∷ xs) (suc n) (suc i) e l =
    rw (pure_later n i e) (one-*ℤ (monomial_of xs (pure_at n i e)) ∙ pure_value xs n i e (omega arith))

-- never negative where every odd exponent belongs to a variable that is not
odds_sign : (mask : ℕ) (x : List ℤ) (α : Exponents) → Allowed mask x → OddsMasked mask α → pos 0 ≤ℤ monomial_of x α
unfolding monomial_of
odds_sign mask x [] a o = pos_nonneg 1
odds_sign mask [] (e ∷ α) a o = pos_nonneg 1
odds_sign mask (x ∷ xs) (e ∷ α) a o =
    *ℤ_nonneg (power_sign x e (λ h. a 0 (o 0 (omega arith) h)))
    (odds_sign (mask / 2) xs α (λ i h. a (suc i) (rw (masked_more mask i) at h)) (odds_more mask e α o).1)

pub monomial_sign : (mask : ℕ) (x : List ℤ) (α : Exponents) → Allowed mask x → keeps_sign mask α ≡ true
    → pos 0 ≤ℤ monomial_of x α
monomial_sign mask x α a t = odds_sign mask x α a ((keeps_means mask α).0 t)

-- and only there, since variable i is a monomial too
unit : ℕ → Exponents
unit i = pure_at (suc i) i 1

unit_odd : (i j : ℕ) → get_or (unit i) j 0 % 2 ≡ 1 → j ≡ i
unfolding unit
unit_odd i j h = go (ℕ_discrete j i)
  where
    go : Dec (j ≡ i) → j ≡ i
    go (yes e) = e
    go (no d) = let z = pure_elsewhere (suc i) i 1 j d in absurd (omega arith)

unit_value : (x : List ℤ) (i : ℕ) → monomial_of x (unit i) ≡ variable x i
unfolding unit power_of one
unit_value x i = pure_value x (suc i) i 1 (omega arith) ∙ *ℤ-one (variable x i)

pub allowed_exactly : AllowedExactly
allowed_exactly mask x = (
  λ a α. monomial_sign mask x α a,
  λ f i m. rw (unit_value x i) at (f (unit i) ((keeps_means mask (unit i)).1 (λ j l h. rw (unit_odd i j h) m))),
)

-- without a mask all numbers are allowed
pub allowed_all : (mask : ℕ) (x : List ℤ) → mask ≡ 0 → Allowed mask x
allowed_all mask x z i h = let none : mask / 2 ^ i ≡ 0 = rw z (zero-div (2 ^ i)) in absurd (omega arith)

pub monomial_mean : (x : List ℤ) (v w : Exponents) → has_midpoint v w ≡ true
    → monomial_of x (midpoint_of v w) *ℤ monomial_of x (midpoint_of v w) ≡ monomial_of x v *ℤ monomial_of x w
unfolding monomial_of
monomial_mean x [] [] t = rw midpoint_none
monomial_mean x [] (b ∷ w) t = let l = whole_sized [] (b ∷ w) t in absurd (omega arith)
monomial_mean x (a ∷ v) [] t = let l = whole_sized (a ∷ v) [] t in absurd (omega arith)
monomial_mean [] (a ∷ v) (b ∷ w) t = rw midpoint_more
monomial_mean (x ∷ xs) (a ∷ v) (b ∷ w) t =
    let q = whole_more a b v w t in
    rw (midpoint_more, *ℤ_swap, power_half x a b q.0, monomial_mean xs v w q.1, *ℤ_swap)

-- ---- what an answer says

module _ (z : ℤ) where
  pub within_small : nat_abs z ≤ greatest_value → Some z ≡ within z
  unfolding within
  within_small h = rw (le-leb (nat_abs z) greatest_value h)

  pub within_large : greatest_value < nat_abs z → None ≡ within z
  unfolding within
  within_large h = rw (lt-leb (nat_abs z) greatest_value h)

  pub within_represents : Represents (within z) z
  unfolding within
  within_represents = go (leb (nat_abs z) greatest_value) refl
    where
      go : (b : Bool) → leb (nat_abs z) greatest_value ≡ b → Represents (cond b (Some z) None) z
      go true e = (refl, leb-true _ _ e)
      go false e = leb-false _ _ e
