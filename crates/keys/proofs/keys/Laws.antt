-- Laws of keys: points with as many exponents are the same where their keys are; the keys of the constant and of a pure
-- power; a midpoint's key is half the sum.
use mathlib.Core.Path.{◌≡◌, refl, sym, ◌∙◌, ap, ap₂}
use mathlib.Core.Bool.{Bool, true, false, false≢true}
use mathlib.Core.List.{[], ◌∷◌}
use Prim.Native.Nat.{ℕ, zero, suc, ◌+◌, ◌*◌, ◌^◌, ◌<◌, ◌≤◌}
use native.Mathlib.Omega.{arith}
use lib.Dec.{eqb}
use lib.ListN.{length, get_or, replicate}
use lib.Pow.{pow-add, pow_mono}
use borrow.Author.Tests.{eq-eqb, ne_eqb}
use Rattle.bounds.specs.Bounds.{most_variables}
use Rattle.points.specs.Points.{Exponents, same_point, has_midpoint, midpoint_of, pure_at, exponents_within}
use Rattle.points.proofs.points.Laws.{same_eq, same_refl, pure_first, pure_later, within_more, midpoint_none, midpoint_more, whole_more, whole_sized}
use Rattle.keys.specs.Keys.{key_of}

-- every exponent is below a bound
abbrev pub Below : ℕ → Exponents → Type 0
Below bound α = (i : ℕ) → get_or α i 0 < bound

pub within_below : (limit bound : ℕ) (α : Exponents) → limit < bound → exponents_within limit α ≡ true → Below bound α
within_below limit bound [] h e i = omega arith
within_below limit bound (a ∷ α) h e zero = omega (arith, (within_more limit a α e).0)
within_below limit bound (a ∷ α) h e (suc i) = within_below limit bound α h (within_more limit a α e).1 i

pub byte_more : (n : ℕ) → 2 ^ (8 * suc n) ≡ 2 ^ (8 * n) * 256
byte_more n = let e : 8 * suc n ≡ 8 * n + 8 = omega arith in rw e (pow-add 2 (8 * n) 8)

-- ---- comparing by keys

key_injective : (v w : Exponents) → length v ≡ length w → Below 256 v → Below 256 w → key_of v ≡ key_of w → v ≡ w
unfolding key_of
key_injective [] [] l h k e = refl
key_injective [] (b ∷ w) l h k e = absurd (omega arith)
key_injective (a ∷ v) [] l h k e = absurd (omega arith)
key_injective (a ∷ v) (b ∷ w) l h k e =
    let low : a ≡ b = omega (arith, h 0, k 0) in
    let high : key_of v ≡ key_of w = omega (arith, h 0, k 0) in
    ap₂ ◌∷◌ low (key_injective v w (omega arith) (λ i. h (suc i)) (λ i. k (suc i)) high)

-- points with as many exponents are the same where their keys are
pub key_same : (v w : Exponents) → length v ≡ length w → Below 256 v → Below 256 w
    → eqb (key_of v) (key_of w) ≡ same_point v w
key_same v w l h k = go (same_point v w) refl
  where
    go : (b : Bool) → same_point v w ≡ b → eqb (key_of v) (key_of w) ≡ b
    go true e = eq-eqb _ _ (ap key_of (same_eq v w e))
    go false e = ne_eqb _ _ (λ q. false≢true (sym e ∙ rw (← (key_injective v w l h k q)) (same_refl v)))

-- the constant's key
pub key_zeros : (n : ℕ) → key_of (replicate n 0) ≡ 0
unfolding key_of
key_zeros zero = refl
key_zeros (suc n) = omega (arith, key_zeros n)

-- a pure power's key
pub key_pure : (n i e : ℕ) → i < n → key_of (pure_at n i e) ≡ e * 2 ^ (8 * i)
unfolding key_of
key_pure zero i e l = absurd (omega arith)
key_pure (suc n) zero e l = rw (pure_first n e) (omega (arith, key_zeros n))
key_pure (suc n) (suc i) e l = rw (pure_later n i e, byte_more i) (omega (arith, key_pure n i e (omega arith)))

-- a midpoint's key is half the sum of its ends' keys
pub key_midpoint : (v w : Exponents) → has_midpoint v w ≡ true → key_of v + key_of w ≡ key_of (midpoint_of v w) * 2
unfolding key_of
key_midpoint [] [] e = rw midpoint_none
key_midpoint [] (b ∷ w) e = let l = whole_sized [] (b ∷ w) e in absurd (omega arith)
key_midpoint (a ∷ v) [] e = let l = whole_sized (a ∷ v) [] e in absurd (omega arith)
key_midpoint (a ∷ v) (b ∷ w) e =
    let q = whole_more a b v w e in
    rw midpoint_more (omega (arith, q.0, key_midpoint v w q.1))

-- the keys of two points with low exponents have a sum of 64 bits
key_half : (α : Exponents) → Below 128 α → key_of α * 2 < 2 ^ (8 * length α)
unfolding key_of
key_half [] h = omega arith
key_half (a ∷ α) h = rw (byte_more (length α)) (omega (arith, h 0, key_half α (λ i. h (suc i))))

pub key_low : (α : Exponents) → length α ≤ most_variables → Below 128 α → key_of α * 2 < 2 ^ 64
key_low α l h = let e : 8 * length α ≤ 64 = omega arith in omega (arith, key_half α h, pow_mono e)
