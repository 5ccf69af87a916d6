-- Laws of printing: what a check of the two sheets prints.
use mathlib.Core.Path.{◌≡◌, sym}
use mathlib.Core.List.{List}
use Prim.Native.Nat.{ℕ, ◌≤◌}
use lib.ListN.{length, take}
use lib.Seq.{length-take-le}
use Rattle.text.specs.Text.{Written}

-- a part of a list has as many bytes as were asked for
pub part_counts : (l : List ℕ) (end : ℕ) → end ≤ length l → end ≡ length (take end l)
part_counts l end h = sym (length-take-le end l h)

-- main: the text is a part of the array
pub text_counts : (l t m : List ℕ) (end : ℕ) → Written l 0 t m end → end ≡ length (take end m)
text_counts l t m end w = part_counts m end w.inside
