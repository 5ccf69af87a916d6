-- The steps of key_from and key_of.
use mathlib.Core.Path.{◌≡◌, refl}
use mathlib.Core.List.{List, [], ◌∷◌, ◌++◌}
use Prim.Native.Nat.{ℕ, suc, ◌+◌, ◌*◌, ◌-◌, ◌/◌, ◌%◌, ◌^◌, ◌<◌, ◌≤◌}
use native.Mathlib.Decide.{dec_lt}
use native.Mathlib.Omega.{arith}
use lib.Arith.{digits_div, digits_mod}
use lib.Bits.{bit_and, and_mask}
use lib.ListN.{length, get_or, take, drop, replicate, get_or-eq_default}
use lib.Pow.{ones_split, ones_lt}
use Rattle.std.specs.Int.{w64, from_le_bytes}
use Rattle.integers.specs.Words.{Bytes}
use Rattle.bounds.specs.Bounds.{most_variables}
use Rattle.points.specs.Points.{Exponents, bytes_at}
use Rattle.points.proofs.points.Laws.{bytes_length, bytes_get, bytes_split, bytes_cut, bytes_eight}
use Rattle.keys.specs.Keys.{key_of}
use Rattle.keys.proofs.keys.Laws.{Below, byte_more}

key_below : (α : Exponents) → Below 256 α → key_of α < 2 ^ (8 * length α)
unfolding key_of
key_below [] h = omega arith
key_below (a ∷ α) h = rw (byte_more (length α)) (omega (arith, h 0, key_below α (λ i. h (suc i))))

key_append : (α β : Exponents) → key_of (α ++ β) ≡ key_of β * 2 ^ (8 * length α) + key_of α
unfolding key_of
key_append [] β = omega arith
key_append (a ∷ α) β = rw (byte_more (length α)) (omega (arith, key_append α β))

-- ---- the ways through key_from

pub eight_key : (s : List ℕ) (at : ℕ) → at + 8 ≤ length s
    → key_of (bytes_at s at 8) ≡ from_le_bytes w64 (take (at + 8 - at) (drop at s))
unfolding key_of
eight_key s at h = rw (bytes_cut s at 8 h, bytes_eight) (omega arith)

bytes_small : (s : List ℕ) (at n : ℕ) → Bytes s → Below 256 (bytes_at s at n)
bytes_small s at n b i = go (dec_lt i n)
  where
    go : Dec (i < n) → get_or (bytes_at s at n) i 0 < 256
    go (yes l) = rw (bytes_get s at n i l) (omega (arith, b (at + i)))
    go (no l) = rw (get_or-eq_default (bytes_at s at n) 0 {n = i} (rw bytes_length (omega arith))) (omega arith)

-- of the key of m + n bytes, the digits of the m first
key_lowest : (s : List ℕ) (at m n : ℕ) → Bytes s
    → key_of (bytes_at s at (m + n)) % 2 ^ (8 * m) ≡ key_of (bytes_at s at m)
key_lowest s at m n b =
    let low : key_of (bytes_at s at m) < 2 ^ (8 * m) =
    rw bytes_length at (key_below (bytes_at s at m) (bytes_small s at m b)) in
    rw (bytes_split s at m n, key_append (bytes_at s at m) (bytes_at s (at + m) n), bytes_length s at m)
    (digits_mod (key_of (bytes_at s (at + m) n)) low)

-- all bits shifted down to those of n bytes
mask_is : (n : ℕ) → n ≤ most_variables → 18446744073709551615 / 2 ^ (64 - 8 * n) ≡ 2 ^ (8 * n) - 1
mask_is n h =
    let e : 8 * n + (64 - 8 * n) ≡ 64 = omega arith in
    let ones : 18446744073709551615 ≡ (2 ^ (8 * n) - 1) * 2 ^ (64 - 8 * n) + (2 ^ (64 - 8 * n) - 1) =
    rw e at (ones_split (8 * n) (64 - 8 * n)) in
    rw ones (digits_div (2 ^ (8 * n) - 1) (ones_lt (64 - 8 * n)))

pub key_masked : (s : List ℕ) (at n eight : ℕ) → Bytes s → n ≤ most_variables → eight ≡ key_of (bytes_at s at 8)
    → bit_and eight (18446744073709551615 / 2 ^ (64 - 8 * n)) ≡ key_of (bytes_at s at n)
key_masked s at n eight b h e =
    let m : n + (8 - n) ≡ 8 = omega arith in
    rw (mask_is n h, and_mask eight (8 * n), e) (rw m at (key_lowest s at n (8 - n) b))

-- ---- the way through key_of: zeros after the exponents do not count

pub key_padded : (α : Exponents) → length α ≤ most_variables
    → key_of α ≡ from_le_bytes w64 (α ++ drop (length α) (replicate most_variables 0))
unfolding key_of
key_padded [] h = refl
key_padded (a ∷ []) h = omega arith
key_padded (a ∷ b ∷ []) h = omega arith
key_padded (a ∷ b ∷ c ∷ []) h = omega arith
key_padded (a ∷ b ∷ c ∷ d ∷ []) h = omega arith
key_padded (a ∷ b ∷ c ∷ d ∷ e ∷ []) h = omega arith
key_padded (a ∷ b ∷ c ∷ d ∷ e ∷ f ∷ []) h = omega arith
key_padded (a ∷ b ∷ c ∷ d ∷ e ∷ f ∷ g ∷ []) h = omega arith
key_padded (a ∷ b ∷ c ∷ d ∷ e ∷ f ∷ g ∷ i ∷ []) h = omega arith
key_padded (a ∷ b ∷ c ∷ d ∷ e ∷ f ∷ g ∷ i ∷ j ∷ α) h = absurd (omega arith)
