-- The steps of the functions that put exponents.
use mathlib.Core.Path.{◌≡◌}
use mathlib.Core.List.{List, [], ◌∷◌, ◌++◌}
use Prim.Native.Nat.{ℕ, ◌+◌, ◌<◌, ◌≤◌}
use native.Mathlib.Omega.{arith}
use lib.ListN.{get_or}
use Rattle.points.specs.Points.{bytes_at}
use Rattle.text.specs.Text.{counted, texts_to, Room, Written}
use Rattle.text.proofs.text.Laws.{room_first, room_then, written_then, texts_start, texts_room, texts_next}
use Rattle.listings.specs.Fields.{exponent_fields, fields_text}
use Rattle.listings.specs.Exponents.{spaced_at, spaced_text}
use Rattle.listings.proofs.exponents.Laws.{exponents_spaced}

module _ (label s l : List ℕ) (at n from : ℕ) where
  abbrev texts : ℕ → List ℕ
  texts i = texts_to (spaced_at s at) i

  module _ (h : 1 ≤ n) (r : Room l from (fields_text (exponent_fields label (bytes_at s at n)))) where
    both : Room l from (label ++ spaced_text s at n)
    both = rw (exponents_spaced label s at n h) at r

    pub label_room : Room l from label
    label_room = room_first label (spaced_text s at n) both

    -- b is the byte that was read
    pub exponent_room : (m k : List ℕ) (mid i end b : ℕ) → Written l from label m mid → Written m mid (texts i) k end
        → i < n → b ≡ get_or s (at + i) 0 → Room k end (counted (32 ∷ []) b)
    exponent_room m k mid i end b w u l e =
        rw e (texts_room (spaced_at s at) i u n (room_then label (spaced_text s at n) both w) l)

  pub exponents_written : (m o : List ℕ) (mid i end : ℕ) → 1 ≤ n → Written l from label m mid
      → Written m mid (texts i) o end → n ≤ i → i ≤ n
      → Written l from (fields_text (exponent_fields label (bytes_at s at n))) o end
  exponents_written m o mid i end h w u p q =
      let e : i ≡ n = omega arith in
      rw (exponents_spaced label s at n h) (written_then label (spaced_text s at n) w (rw e at u))

pub exponents_start : (s label l m : List ℕ) (at from mid : ℕ) → Written l from label m mid
    → Written m mid (texts_to (spaced_at s at) 0) m mid
exponents_start s label l m at from mid w = texts_start (spaced_at s at) m mid w.inside

pub exponent_next : (s m k o : List ℕ) (at mid i end far b : ℕ) → Written m mid (texts_to (spaced_at s at) i) k end
    → b ≡ get_or s (at + i) 0 → Written k end (counted (32 ∷ []) b) o far
    → Written m mid (texts_to (spaced_at s at) (i + 1)) o far
exponent_next s m k o at mid i end far b w e u = texts_next (spaced_at s at) i w (rw e at u)
