-- Laws of what the limits add: how large it is, and that it is what their sum weighs at a point.
use mathlib.Core.Path.{◌≡◌, refl, sym, ◌∙◌}
use mathlib.Core.Bool.{Bool, true, false, cond}
use mathlib.Core.Logic.{inl, inr}
use Prim.Native.Nat.{ℕ, zero, suc, ◌*◌, ◌^◌, ◌<◌, ◌≤◌}
use native.Mathlib.Nat.{mul-le-mul, pow-le-pow_left, pow-le-pow_right}
use native.Mathlib.Omega.{arith}
use lib.Dec.{eqb}
use lib.IntN.{ℤ, pos, neg_ℤ, nat_abs, ◌+ℤ◌, +ℤ_idl, +ℤ_idr}
use lib.ListN.{length, replicate, length-replicate}
use lib.Pow.{pow_pos}
use borrow.Author.Tests.{eq-eqb, ne_eqb, eqb-true}
use Rattle.integers.proofs.Integers.{abs_add, abs_neg}
use Rattle.bounds.specs.Bounds.{greatest_limit, greatest_multiplier}
use Rattle.points.specs.Points.{Exponents, same_point, pure_at, exponents_within}
use Rattle.points.proofs.points.Laws.{zeros_within, pure_length, pure_within}
use Rattle.keys.specs.Keys.{key_of}
use Rattle.keys.proofs.keys.Laws.{Below, within_below, key_same, key_zeros, key_pure}
use Rattle.squares.specs.Sums.{coefficient}
use Rattle.squares.specs.Domains.{limit_at, limits_to}
use Rattle.squares.specs.declared.limits.Limit.{Limit}
use Rattle.squares.proofs.limits.Laws.{limit_coefficient, limit_none, limits_none, limits_more}
use Rattle.limits.specs.LimitsSheet.{limit_in}
use Rattle.limits.specs.LimitChecks.{IsLimited, RightLimit, RightLimits}
use Rattle.limits.specs.Additions.{limit_adds, limits_add}
use Rattle.limits.specs.declared.limits_sheet.Limits.{Limits}
use Rattle.limits.proofs.limit_checks.Laws.{power_some}

-- ---- powers of L

pub square_small : (b : ℕ) → b ≤ greatest_limit → b * b ≤ 2 ^ 20
square_small b h = omega (arith, mul-le-mul h h)

pub power_small : (b e : ℕ) → b ≤ greatest_limit → e ≤ 4 → b ^ e ≤ 2 ^ 40
power_small b e h k =
    let low : b ^ e ≤ greatest_limit ^ e = pow-le-pow_left h e in
    let high : greatest_limit ^ e ≤ greatest_limit ^ 4 = pow-le-pow_right (omega arith) k in
    omega arith

module _ (l : Limit) (h : IsLimited l) where
  pub fall_small : l.multiplier * l.bound ^ l.power ≤ 2 ^ 56
  fall_small =
      mul-le-mul {n₂ = greatest_multiplier} h.multiplier_within
      (power_small l.bound l.power h.bound_within (power_some l h).1)

-- ---- how large it is

pub adds_small : (l : Limit) (i key : ℕ) → RightLimit l → nat_abs (limit_adds l i key) ≤ 2 ^ 56
unfolding limit_adds
adds_small l i key (inl u) = rw (eq-eqb l.power 0 u.power_none) (omega arith)
adds_small l i key (inr h) =
    go (eqb l.power 0) (eqb key 0) (eqb key (l.power * 2 ^ (8 * i)))
  where
    go : (z c p : Bool) → nat_abs (cond z (pos 0)
        (cond c (neg_ℤ (pos (l.multiplier * l.bound ^ l.power))) (cond p (pos l.multiplier) (pos 0)))) ≤ 2 ^ 56
    go true c p = omega arith
    go false true p = rw (abs_neg (pos (l.multiplier * l.bound ^ l.power))) (fall_small l h)
    go false false true = omega (arith, h.multiplier_within)
    go false false false = omega arith

module _ (limits : Limits) (key : ℕ) (right : RightLimits limits) where
  pub limits_small : (k : ℕ) → nat_abs (limits_add limits key k) ≤ k * 2 ^ 56
  unfolding limits_add
  limits_small zero = omega arith
  limits_small (suc k) =
      omega (
        arith,
        limits_small k,
        adds_small (limit_in limits k) k key (right.right k),
        abs_add (limits_add limits key k) (limit_adds (limit_in limits k) k key),
      )

-- ---- it is what their sum weighs at the point with the key

-- α is a point of n exponents, each a byte
module _ (n : ℕ) (α : Exponents) (sized : length α ≡ n) (low : Below 256 α) where
  tested : (β : Exponents) → length β ≡ n → (limit : ℕ) → exponents_within limit β ≡ true → limit < 256
      → eqb (key_of α) (key_of β) ≡ same_point α β
  tested β s limit w h = key_same α β (sized ∙ sym s) low (within_below limit 256 β h w)

  pub constant_tested : eqb (key_of α) 0 ≡ same_point α (replicate n 0)
  constant_tested =
      rw key_zeros at (tested (replicate n 0) (length-replicate n 0) 0 (zeros_within 0 n) (omega arith))

  pure_tested : (i e : ℕ) → i < n → e < 256 → eqb (key_of α) (e * 2 ^ (8 * i)) ≡ same_point α (pure_at n i e)
  pure_tested i e k h =
      rw (key_pure n i e k) at (tested (pure_at n i e) (pure_length n i e) e (pure_within e n i e (omega arith)) h)

  -- a pure power is not the constant
  pure_apart : (i e : ℕ) → i < n → 0 < e → e < 256 → same_point α (replicate n 0) ≡ true
      → same_point α (pure_at n i e) ≡ false
  pure_apart i e k some h same =
      let zero = eqb-true (key_of α) 0 (constant_tested ∙ same) in
      let positive : 1 * 1 ≤ e * 2 ^ (8 * i) = mul-le-mul some (pow_pos (8 * i)) in
      sym (pure_tested i e k h) ∙ ne_eqb (key_of α) _ (λ q. omega arith)

  limited_is : (l : Limit) (i : ℕ) → IsLimited l → i < n → limit_adds l i (key_of α) ≡ coefficient α (limit_at n i l)
  unfolding limit_adds
  limited_is l i h k =
      let p = power_some l h in
      let low : l.power < 256 = omega (arith, p.1) in
      rw (
        ne_eqb l.power 0 (λ z. omega arith),
        constant_tested,
        pure_tested i l.power k low,
        limit_coefficient n α i l,
      )
      (go (same_point α (replicate n 0)) (same_point α (pure_at n i l.power)) _ _
      (pure_apart i l.power k p.0 low))
    where
      go : (s t : Bool) (a m : ℤ) → (s ≡ true → t ≡ false)
          → cond s a (cond t m (pos 0)) ≡ cond s a (pos 0) +ℤ cond t m (pos 0)
      go true t a m f = rw (f refl) (sym (+ℤ_idr a))
      go false t a m f = sym (+ℤ_idl (cond t m (pos 0)))

  limit_is : (l : Limit) (i : ℕ) → RightLimit l → i < n → limit_adds l i (key_of α) ≡ coefficient α (limit_at n i l)
  unfolding limit_adds
  limit_is l i (inl u) k = rw (eq-eqb l.power 0 u.power_none) (sym (limit_none n α i l u.power_none))
  limit_is l i (inr h) k = limited_is l i h k

  pub additions_are : (limits : Limits) → RightLimits limits → (k : ℕ) → k ≤ n
      → limits_add limits (key_of α) k ≡ coefficient α (limits_to n (limit_in limits) k)
  unfolding limits_add
  additions_are limits r zero l = sym (limits_none n α (limit_in limits))
  additions_are limits r (suc k) l =
      rw (limits_more n α (limit_in limits) k, additions_are limits r k (omega arith))
      (rw (limit_is (limit_in limits k) k (r.right k) (omega arith)))
