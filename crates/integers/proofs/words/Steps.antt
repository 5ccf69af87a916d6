-- The step of write_i32.
use mathlib.Core.Path.{◌≡◌, ◌∙◌}
use mathlib.Core.List.{List, append_assoc}
use Prim.Native.Nat.{ℕ, ◌+◌, ◌-◌, ◌/◌, ◌%◌, ◌≤◌}
use native.Mathlib.Omega.{arith}
use lib.IntN.{ℤ}
use lib.ListN.{length, take, drop}
use lib.Seq.{drop-drop}
use mir.Syntax.{w32}
use mir.Val.{SFits, of_z}
use mir.Facts.{Fits-of_z}
use borrow.Rule.Slice.PartMut.{put_mid}
use Rattle.std.specs.Int.{to_le_bytes}
use Rattle.std.proofs.lemmas.List.Edits.{sets-eq}
use Rattle.integers.specs.Words.{bytes_of, with_bits, with_i32}

-- the number's bytes put in the place of four
pub word_put : (s : List ℕ) (at : ℕ) (v : ℤ) → SFits w32 v → at + 4 ≤ length s
    → with_i32 s at v ≡ put_mid at (at + 4 - at) s (to_le_bytes w32 (of_z w32 v))
unfolding with_i32 with_bits
word_put s at v f h =
    let four : at + 4 - at ≡ 4 = omega arith in
    let high : of_z w32 v / 16777216 % 256 ≡ of_z w32 v / 16777216 = omega (arith, Fits-of_z {w = w32} f) in
    rw (four, high, drop-drop 4 at s)
    (sets-eq (bytes_of (of_z w32 v)) s at h ∙ append_assoc (take at s) (bytes_of (of_z w32 v)) (drop (at + 4) s))
