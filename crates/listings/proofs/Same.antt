-- The same bytes in a part of two lists, from the same fields there.
use mathlib.Core.Path.{◌≡◌, sym, ◌∙◌, ap}
use mathlib.Core.List.{List}
use Prim.Native.Nat.{ℕ, zero, suc, ◌+◌, ◌-◌, ◌*◌, ◌<◌}
use native.Mathlib.Decide.{dec_lt}
use native.Mathlib.Omega.{arith}
use lib.ListN.{length, get_or}
use lib.Seq.{ext_get_or}
use Rattle.integers.specs.Words.{Bytes, u16_at, u32_at, i32_at}
use Rattle.integers.proofs.words.Laws.{SameBytes, short_bytes, word_bytes, signed_bytes}
use Rattle.points.specs.Points.{bytes_at}
use Rattle.points.proofs.points.Laws.{bytes_get}

-- n bytes from a place on
abbrev pub Same : List ℕ → List ℕ → ℕ → ℕ → Type 0
Same s z from n = (i : ℕ) → i < n → get_or s (from + i) 0 ≡ get_or z (from + i) 0

module _ (s z : List ℕ) where
  pub same_byte : (at : ℕ) → get_or s at 0 ≡ get_or z at 0 → Same s z at 1
  same_byte at e i l = let h : at + i ≡ at = omega arith in rw h e

  -- one part after another
  pub same_then : (from m n : ℕ) → Same s z from m → Same s z (from + m) n → Same s z from (m + n)
  same_then from m n h k i l = go (dec_lt i m)
    where
      go : Dec (i < m) → get_or s (from + i) 0 ≡ get_or z (from + i) 0
      go (yes p) = h i p
      go (no p) = let e : from + i ≡ from + m + (i - m) = omega arith in rw e (k (i - m) (omega arith))

  -- entries of one size
  pub same_entries : (from size k : ℕ) → ((i : ℕ) → i < k → Same s z (from + i * size) size) → Same s z from (k * size)
  same_entries from size zero h = λ i l. absurd (omega arith)
  same_entries from size (suc k) h =
      let e : suc k * size ≡ k * size + size = omega arith in
      rw e (same_then from (k * size) size (same_entries from size k (λ i l. h i (omega arith))) (h k (omega arith)))

  pub same_exponents : (at n : ℕ) → bytes_at s at n ≡ bytes_at z at n → Same s z at n
  same_exponents at n e i l =
      sym (bytes_get s at n i l) ∙ ap (λ (α : List ℕ). get_or α i 0) e ∙ bytes_get z at n i l

  pub same_whole : length s ≡ length z → Same s z 0 (length s) → s ≡ z
  same_whole e h = ext_get_or 0 s z e (λ i l. let p : 0 + i ≡ i = omega arith in rw p at (h i l))

  module _ (b : Bytes s) (c : Bytes z) (at : ℕ) where
    pub same_short : u16_at s at ≡ u16_at z at → Same s z at 2
    same_short e =
        let both = short_bytes s z b c at e in
        same_then at 1 1 (same_byte at both.0) (same_byte (at + 1) both.1)

    four : SameBytes s z at → Same s z at 4
    four h =
        same_then at 3 1
        (same_then at 2 1 (same_then at 1 1 (same_byte at h.first) (same_byte (at + 1) h.second))
        (same_byte (at + 2) h.third)) (same_byte (at + 3) h.fourth)

    pub same_count : u32_at s at ≡ u32_at z at → Same s z at 4
    same_count e = four (word_bytes s z b c at e)

    pub same_word : i32_at s at ≡ i32_at z at → Same s z at 4
    same_word e = four (signed_bytes s z b c at e)
