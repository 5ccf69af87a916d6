-- Laws of floor division: e ≡ q × c + m with 0 ≤ m < c, and the shares of c slots add up to e.
use mathlib.Core.Path.{◌≡◌, refl}
use mathlib.Core.Bool.{Bool, true, false, not, cond}
use Prim.Native.Nat.{ℕ, zero, suc, ◌+◌, ◌*◌, ◌<◌, ◌≤◌, min}
use native.Mathlib.Nat.{div-add-mod, mod-lt, div-le_self, zero-div, zero-mod}
use native.Mathlib.Omega.{arith}
use lib.Dec.{T, ltb, ltb→lt, nltb→le, leb-suc-zero}
use lib.IntN.{ℤ, pos, negsuc, nat_abs, ◌+ℤ◌, ◌*ℤ◌}
use lib.Signed.{mag, lt_z, ◌≤ℤ◌}
use Rattle.integers.specs.Division.{floor_div, floor_mod, share, shares}
use Rattle.integers.proofs.Integers.{abs_add, ring, ints, by_eq, by_le, read_eq, read_le, up, dn, le_parts, lt_parts, lt_z_true, lt_z_false, *ℤ_mono}

pub floor_mod-< : (e : ℤ) (c : ℕ) → 0 < c → floor_mod e c < c
unfolding floor_mod
floor_mod-< (pos a) c h = mod-lt a h
floor_mod-< (negsuc a) c h = omega (arith, mod-lt a h)

pub floor_sum : (e : ℤ) (c : ℕ) → 0 < c → e ≡ floor_div e c *ℤ pos c +ℤ pos (floor_mod e c)
unfolding floor_div floor_mod
floor_sum (pos a) c h = by_eq (simp ring (omega (ints, div-add-mod a c)))
floor_sum (negsuc a) c h = by_eq (simp ring (omega (ints, div-add-mod a c, mod-lt a h)))

-- ---- shares

pub shares_none : (e : ℤ) (c k : ℕ) → shares e c k 0 ≡ pos 0
unfolding shares
shares_none e c k = refl

pub shares_more : (e : ℤ) (c k m : ℕ) → shares e c k (suc m) ≡ share e c k +ℤ shares e c (suc k) m
unfolding shares
shares_more e c k m = refl

-- one share more, where r is the remainder and q the quotient
one_more_lem : (q s : ℤ) (r k m : ℕ) → s +ℤ pos (min (suc k) r) ≡ q *ℤ pos m +ℤ pos (min (suc k + m) r)
    → cond (ltb k r) (q +ℤ pos 1) q +ℤ s +ℤ pos (min k r) ≡ q *ℤ pos (suc m) +ℤ pos (min (k + suc m) r)
one_more_lem q s r k m e = go (ltb k r) (ltb→lt k r) (nltb→le k r)
  where
    go : (b : Bool) → (T b → k < r) → (T (not b) → r ≤ k)
        → cond b (q +ℤ pos 1) q +ℤ s +ℤ pos (min k r) ≡ q *ℤ pos (suc m) +ℤ pos (min (k + suc m) r)
    go true f g = let h = f tt in let t = simp ring at (read_eq e) in by_eq (simp ring (omega arith))
    go false f g = let h = g tt in let t = simp ring at (read_eq e) in by_eq (simp ring (omega arith))

-- m slots from the k-th on have the quotient each, and one more as far as the remainder goes
shares_are : (e : ℤ) (c k m : ℕ)
    → shares e c k m +ℤ pos (min k (floor_mod e c)) ≡ floor_div e c *ℤ pos m +ℤ pos (min (k + m) (floor_mod e c))
unfolding shares share
shares_are e c k zero = by_eq (simp ring (omega arith))
shares_are e c k (suc m) = one_more_lem (floor_div e c) (shares e c (suc k) m) (floor_mod e c) k m (shares_are e c (suc k) m)

-- the shares of all c slots add up to the error
pub shares_sum : (e : ℤ) (c : ℕ) → 0 < c → shares e c 0 c ≡ e
shares_sum e c h =
    let t = simp ring at (read_eq (shares_are e c 0 c)) in
    let s = simp ring at (read_eq (floor_sum e c h)) in
    let l = floor_mod-< e c h in
    by_eq (simp ring (omega arith))

-- no error, no share
pub share_none : (c k : ℕ) → share (pos 0) c k ≡ pos 0
unfolding share floor_div floor_mod
share_none c k = rw (zero-div, zero-mod, leb-suc-zero)

-- a quotient is no larger than what is divided
pub floor_div_size : (e : ℤ) (c : ℕ) → (nat_abs (floor_div e c) ≤ nat_abs e) × (mag (floor_div e c) ≤ mag e)
unfolding floor_div
floor_div_size (pos a) c = (div-le_self a c, div-le_self a c)
floor_div_size (negsuc a) c = let h = div-le_self a c in (omega arith, h)

-- a share is at most one larger than the error
pub share_abs : (e : ℤ) (c k : ℕ) → nat_abs (share e c k) ≤ nat_abs e + 1
unfolding share
share_abs e c k = go (ltb k (floor_mod e c))
  where
    go : (b : Bool) → nat_abs (cond b (floor_div e c +ℤ pos 1) (floor_div e c)) ≤ nat_abs e + 1
    go true = omega (arith, floor_div_size e c, abs_add (floor_div e c) (pos 1))
    go false = omega (arith, floor_div_size e c)

-- ---- a larger error has shares at least as large

module _ (e f : ℤ) (c : ℕ) (h : 0 < c) (l : e ≤ℤ f) where
  -- a quotient that is larger by d at least, and with d 0 has a larger remainder, is that of a larger error
  not_larger : (d : ℕ) → (floor_div f c +ℤ pos d) ≤ℤ floor_div e c → floor_mod f c < floor_mod e c + d * c → ⊥
  not_larger d over more =
      let product = simp ring at (read_le (*ℤ_mono {z = pos c} (by_le (simp ring (omega ints))) over)) in
      let of-e = simp ring at (read_eq (floor_sum e c h)) in
      let of-f = simp ring at (read_eq (floor_sum f c h)) in
      omega (ints, l, product, of-e, of-f, more)

  quotient_rises : floor_div e c ≤ℤ floor_div f c
  quotient_rises = go (lt_z (floor_div f c) (floor_div e c)) refl
    where
      go : (b : Bool) → lt_z (floor_div f c) (floor_div e c) ≡ b → floor_div e c ≤ℤ floor_div f c
      go false k = lt_z_false _ _ k
      go true k =
          let less = lt_parts (lt_z_true (floor_div f c) (floor_div e c) k) in
          absurd (not_larger 1 (by_le (simp ring (omega (arith, less)))) (omega (arith, floor_mod-< f c h)))

  quotient_over : floor_mod f c < floor_mod e c → (floor_div e c +ℤ pos 1) ≤ℤ floor_div f c
  quotient_over r = go (lt_z (floor_div e c) (floor_div f c)) refl
    where
      go : (b : Bool) → lt_z (floor_div e c) (floor_div f c) ≡ b → (floor_div e c +ℤ pos 1) ≤ℤ floor_div f c
      go true k =
          let less = lt_parts (lt_z_true (floor_div e c) (floor_div f c) k) in by_le (simp ring (omega (arith, less)))
      go false k =
          let more = le_parts (lt_z_false (floor_div e c) (floor_div f c) k) in
          absurd (not_larger 0 (by_le (simp ring (omega (arith, more)))) (omega (arith, r)))

  pub share_rises : (k : ℕ) → share e c k ≤ℤ share f c k
  unfolding share
  share_rises k =
      go (ltb k (floor_mod e c)) (ltb k (floor_mod f c)) (ltb→lt k (floor_mod e c)) (nltb→le k (floor_mod f c))
    where
      q : up (floor_div e c) + dn (floor_div f c) ≤ up (floor_div f c) + dn (floor_div e c)
      q = le_parts quotient_rises

      go : (a b : Bool) → (T a → k < floor_mod e c) → (T (not b) → floor_mod f c ≤ k)
          → cond a (floor_div e c +ℤ pos 1) (floor_div e c) ≤ℤ cond b (floor_div f c +ℤ pos 1) (floor_div f c)
      go false false x y = quotient_rises
      go false true x y = by_le (simp ring (omega (arith, q)))
      go true true x y = by_le (simp ring (omega (arith, q)))
      go true false x y = quotient_over (let a = x tt in let b = y tt in omega arith)
