-- The ways through the code of division, over what the machine reads back.
use mathlib.Core.Path.{◌≡◌, refl, ◌∙◌}
use Prim.Native.Nat.{ℕ, ◌/◌, ◌<◌, ◌≤◌}
use native.Mathlib.Nat.{mul-le-mul_right, div-add-mod, div-le_self}
use native.Mathlib.Omega.{arith}
use lib.IntN.{ℤ, pos, negsuc, nat_abs, ◌+ℤ◌}
use borrow.Author.Tests.{lt-ltb, le-ltb}
use mir.Syntax.{w64}
use mir.Val.{SFits}
use mir.Facts.{to_z-of_z}
use Rattle.std.specs.Int.{int_div_euclid, int_rem_euclid}
use Rattle.integers.specs.Division.{floor_div, floor_mod, share}
use Rattle.integers.proofs.Integers.{back, by_fits, ring}

-- ---- floor_div and floor_mod: by a positive count the quotient whose remainder is not negative is the floor

pub floor_euclid : (e : ℤ) (c : ℕ) → floor_div e c ≡ int_div_euclid e (pos c)
unfolding floor_div
floor_euclid (pos a) c = refl
floor_euclid (negsuc a) c = refl

pub mod_euclid : (e : ℤ) (c : ℕ) → floor_mod e c ≡ nat_abs (int_rem_euclid e (pos c))
unfolding floor_mod
mod_euclid (pos a) c = refl
mod_euclid (negsuc a) c = omega arith

-- ---- share: q and m are the quotient and the remainder; a prime marks a number as the machine reads it back

module _ (e e₁ e₂ q : ℤ) (c m k : ℕ) (eq : q ≡ floor_div e₁ c) (em : m ≡ floor_mod e₂ c) where
  pub more_fits : (q' : ℤ) → k < m → q' ≡ q → e₁ ≡ e → e₂ ≡ e → SFits w64 e → 0 < c → SFits w64 (q' +ℤ pos 1)
  unfolding floor_div floor_mod
  more_fits q' l b b₁ b₂ f h = rw (b, eq, b₁) (go e f (rw (em, b₂) at l))
    where
      go : (e : ℤ) → SFits w64 e → k < floor_mod e c → SFits w64 (floor_div e c +ℤ pos 1)
      go (pos a) f l = by_fits (simp ring (omega (arith, div-add-mod a c, mul-le-mul_right (a / c) h)))
      go (negsuc a) f l = by_fits (simp ring (omega (arith, div-le_self a c)))

  pub share_more : (q' : ℤ) → k < m → q' ≡ q → e₁ ≡ e → e₂ ≡ e → SFits w64 e → 0 < c → back (q' +ℤ pos 1) ≡ share e c k
  unfolding share
  share_more q' l b b₁ b₂ f h =
      to_z-of_z (more_fits q' l b b₁ b₂ f h) ∙ rw (b, eq, b₁, lt-ltb k (floor_mod e c) (rw (em, b₂) at l))

  pub share_least : (q' : ℤ) → m ≤ k → q' ≡ q → e₁ ≡ e → e₂ ≡ e → q' ≡ share e c k
  unfolding share
  share_least q' l b b₁ b₂ = rw (b, eq, b₁, le-ltb k (floor_mod e c) (rw (em, b₂) at l))
