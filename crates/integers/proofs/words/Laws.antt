-- Laws of words: what is written reads back, what was read and written again is the same bytes, no other byte changes.
use mathlib.Core.Path.{◌≡◌, refl, sym, ◌∙◌, ap}
use mathlib.Core.List.{List, [], ◌∷◌, ◌++◌}
use Prim.Native.Nat.{ℕ, zero, suc, ◌+◌, ◌*◌, ◌/◌, ◌%◌, ◌<◌, ◌≤◌}
use native.Mathlib.Nat.{add-zero}
use native.Mathlib.Numerals.{towards_suc}
use native.Mathlib.Omega.{arith}
use lib.IntN.{ℤ}
use lib.ListN.{length, get_or, set, length-set}
use lib.Seq.{sets, length-sets, set-append_left, get_or-set_same, get_or-set_other, set-get_or}
use mir.Syntax.{w32}
use mir.Val.{SFits, to_z, of_z}
use mir.Facts.{to_z-of_z, of_z-to_z, sfits_to_z, Fits-of_z}
use Rattle.integers.specs.Words.{Bytes, u16_at, u32_at, i32_at, bytes_of, with_bits, with_i32}

-- a word is its bytes, the lowest first
pub u32_bytes : (s : List ℕ) (at : ℕ)
    → u32_at s at ≡ get_or s at 0 + get_or s (at + 1) 0 * 256 + get_or s (at + 2) 0 * 65536 + get_or s (at + 3) 0 * 16777216
unfolding u32_at
u32_bytes s at = refl

-- a word of bytes is below 2^32
pub u32_bound : (s : List ℕ) (at : ℕ) → Bytes s → u32_at s at < 4294967296
unfolding u32_at
u32_bound s at b = omega (arith, b at, b (at + 1), b (at + 2), b (at + 3))

pub i32_fits : (s : List ℕ) (at : ℕ) → Bytes s → SFits w32 (i32_at s at)
unfolding i32_at
i32_fits s at b = sfits_to_z (record { fits = u32_bound s at b })

-- ---- elements set in a row

sets_before : (vs l : List ℕ) (i j : ℕ) → j < i → get_or (sets l i vs) j 0 ≡ get_or l j 0
sets_before [] l i j h = refl
sets_before (v ∷ vs) l i j h =
    sets_before vs (set l i v) (suc i) j (omega arith) ∙ get_or-set_other l i j v 0 (omega arith)

sets_after : (vs l : List ℕ) (i j : ℕ) → i + length vs ≤ j → get_or (sets l i vs) j 0 ≡ get_or l j 0
sets_after [] l i j h = refl
sets_after (v ∷ vs) l i j h = sets_after vs (set l i v) (suc i) j (omega arith) ∙ get_or-set_other l i j v 0 (omega arith)

sets_in : (vs l : List ℕ) (i k : ℕ) → i + length vs ≤ length l → k < length vs
    → get_or (sets l i vs) (i + k) 0 ≡ get_or vs k 0
sets_in [] l i k h m = absurd (omega arith)
sets_in (v ∷ vs) l i zero h m =
    rw add-zero (sets_before vs (set l i v) (suc i) i (omega arith) ∙ get_or-set_same l i v 0 (omega arith))
sets_in (v ∷ vs) l i (suc k) h m =
    let e : i + suc k ≡ suc i + k = omega arith in
    rw e (sets_in vs (set l i v) (suc i) k (rw length-set (omega arith)) (omega arith))

sets_append : (vs s l : List ℕ) (at : ℕ) → at + length vs ≤ length s → sets (s ++ l) at vs ≡ sets s at vs ++ l
sets_append [] s l at h = refl
sets_append (v ∷ vs) s l at h =
    rw (set-append_left s l at v (omega arith))
    (sets_append vs (set s at v) l (suc at) (rw length-set (omega arith)))

-- ---- a word written

-- a number is the sum of its bytes
whole : (u : ℕ) → u < 4294967296 → u % 256 + u / 256 % 256 * 256 + u / 65536 % 256 * 65536 + u / 16777216 * 16777216 ≡ u
whole u h = omega arith

-- the same bytes are the same word
pub same_bits : (s t : List ℕ) (p : ℕ) → ((k : ℕ) → k < 4 → get_or s (p + k) 0 ≡ get_or t (p + k) 0)
    → u32_at s p ≡ u32_at t p
unfolding u32_at
same_bits s t p e =
    let e0 : get_or s p 0 ≡ get_or t p 0 = rw add-zero at (e 0 (omega arith)) in
    rw (e0, e 1 (omega arith), e 2 (omega arith), e 3 (omega arith))

-- and the other way: a number's lowest byte, and what stands above it
lowest : (a x c y : ℕ) → a < 256 → c < 256 → a + x * 256 ≡ c + y * 256 → (a ≡ c) × (x ≡ y)
lowest a x c y h k e = (omega arith, omega arith)

pub record SameBytes (s t : List ℕ) (p : ℕ) : Type 0 where
  pub first : get_or s p 0 ≡ get_or t p 0
  pub second : get_or s (p + 1) 0 ≡ get_or t (p + 1) 0
  pub third : get_or s (p + 2) 0 ≡ get_or t (p + 2) 0
  pub fourth : get_or s (p + 3) 0 ≡ get_or t (p + 3) 0

module _ (s t : List ℕ) (b : Bytes s) (c : Bytes t) (p : ℕ) where
  pub short_bytes : u16_at s p ≡ u16_at t p → (get_or s p 0 ≡ get_or t p 0) × (get_or s (p + 1) 0 ≡ get_or t (p + 1) 0)
  short_bytes e = lowest (get_or s p 0) (get_or s (p + 1) 0) (get_or t p 0) (get_or t (p + 1) 0) (b p).fits (c p).fits e

  pub word_bytes : u32_at s p ≡ u32_at t p → SameBytes s t p
  unfolding u32_at
  word_bytes e =
      let f = lowest (get_or s p 0) (upper s) (get_or t p 0) (upper t) (b p).fits (c p).fits (omega arith) in
      let g =
      lowest (get_or s (p + 1) 0) (high s) (get_or t (p + 1) 0) (high t) (b (p + 1)).fits (c (p + 1)).fits
      (omega (arith, f.1))
      in
      let h =
      lowest (get_or s (p + 2) 0) (get_or s (p + 3) 0) (get_or t (p + 2) 0) (get_or t (p + 3) 0) (b (p + 2)).fits
      (c (p + 2)).fits (omega (arith, g.1))
      in
      record { first = f.0; second = g.0; third = h.0; fourth = h.1 }
    where
      high : List ℕ → ℕ
      high l = get_or l (p + 2) 0 + get_or l (p + 3) 0 * 256

      upper : List ℕ → ℕ
      upper l = get_or l (p + 1) 0 + high l * 256

  pub signed_bytes : i32_at s p ≡ i32_at t p → SameBytes s t p
  unfolding i32_at
  signed_bytes e =
      word_bytes
      (sym (of_z-to_z {w = w32} {n = u32_at s p} (record { fits = u32_bound s p b })) ∙ ap (of_z w32) e
      ∙ of_z-to_z {w = w32} {n = u32_at t p} (record { fits = u32_bound t p c }))

module _ (s : List ℕ) (at : ℕ) (v : ℤ) where
  pub written_length : length (with_i32 s at v) ≡ length s
  unfolding with_i32 with_bits
  written_length = length-sets s at (bytes_of (of_z w32 v))

  -- its four bytes change, and no other
  pub written_before : (j : ℕ) → j < at → get_or (with_i32 s at v) j 0 ≡ get_or s j 0
  unfolding with_i32 with_bits
  written_before j h = sets_before (bytes_of (of_z w32 v)) s at j h

  pub written_after : (j : ℕ) → at + 4 ≤ j → get_or (with_i32 s at v) j 0 ≡ get_or s j 0
  unfolding with_i32 with_bits
  written_after j h = sets_after (bytes_of (of_z w32 v)) s at j h

  -- what comes after the list stays
  pub written_append : (l : List ℕ) → at + 4 ≤ length s → with_i32 (s ++ l) at v ≡ with_i32 s at v ++ l
  unfolding with_i32 with_bits
  written_append l h = sets_append (bytes_of (of_z w32 v)) s l at h

  -- so a word that stands apart reads as before
  pub read_before : (p : ℕ) → p + 4 ≤ at → i32_at (with_i32 s at v) p ≡ i32_at s p
  unfolding i32_at
  read_before p h = ap (to_z w32) (same_bits (with_i32 s at v) s p (λ k l. written_before (p + k) (omega arith)))

  pub read_after : (p : ℕ) → at + 4 ≤ p → i32_at (with_i32 s at v) p ≡ i32_at s p
  unfolding i32_at
  read_after p h = ap (to_z w32) (same_bits (with_i32 s at v) s p (λ k l. written_after (p + k) (omega arith)))

  -- and what is written reads back
  pub read_written : at + 4 ≤ length s → SFits w32 v → i32_at (with_i32 s at v) at ≡ v
  unfolding i32_at u32_at with_i32 with_bits
  read_written h f =
      let u = of_z w32 v in
      let b = Fits-of_z {w = w32} f in
      let p = sets_in (bytes_of u) s at in
      let p0 : get_or (sets s at (bytes_of u)) at 0 ≡ u % 256 = rw add-zero at (p 0 (omega arith) (omega arith)) in
      rw (p0, p 1 (omega arith) (omega arith), p 2 (omega arith) (omega arith), p 3 (omega arith) (omega arith))
      (ap (to_z w32) (whole u (omega arith)) ∙ to_z-of_z f)

-- what was read and is written again gives the same bytes
pub written_read : (s : List ℕ) (at : ℕ) → Bytes s → with_i32 s at (i32_at s at) ≡ s
unfolding i32_at u32_at with_i32 with_bits
written_read s at b =
    let u : ℕ = u32_at s at in
    let e0 : u % 256 ≡ get_or s at 0 = omega (arith, b at) in
    let d1 : u / 256 ≡ get_or s (at + 1) 0 + get_or s (at + 2) 0 * 256 + get_or s (at + 3) 0 * 65536 = omega (arith, b at) in
    let d2 : u / 65536 ≡ get_or s (at + 2) 0 + get_or s (at + 3) 0 * 256 = omega (arith, b at, b (at + 1)) in
    let e1 : u / 256 % 256 ≡ get_or s (at + 1) 0 = rw d1 (omega (arith, b (at + 1))) in
    let e2 : u / 65536 % 256 ≡ get_or s (at + 2) 0 = rw d2 (omega (arith, b (at + 2))) in
    let e3 : u / 16777216 ≡ get_or s (at + 3) 0 = omega (arith, b at, b (at + 1), b (at + 2)) in
    rw (of_z-to_z {w = w32} {n = u} (record { fits = u32_bound s at b }), e0, e1, e2, e3) (simp (towards_suc, set-get_or))
