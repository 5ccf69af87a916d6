-- The step of the functions that put lines.
use mathlib.Core.Path.{◌≡◌}
use mathlib.Core.List.{List, ◌++◌}
use Prim.Native.Nat.{ℕ}
use lib.IntN.{ℤ}
use Rattle.text.specs.Text.{numbered, Room, Written}
use Rattle.text.proofs.text.Laws.{numbered_room}

-- weights_text: room for the third weight, as the machine reads it back
pub third_room : (a b d l m o : List ℕ) (at mid end : ℕ) (p p' q q' r r' : ℤ) → Written l at (numbered a p') m mid
    → Written m mid (numbered b q') o end → p' ≡ p → q' ≡ q → r' ≡ r
    → Room l at (numbered a p ++ (numbered b q ++ numbered d r)) → Room o end (numbered d r')
third_room a b d l m o at mid end p p' q q' r r' w u ep eq er h =
    rw er (numbered_room b q q' u eq (numbered d r) (numbered_room a p p' w ep _ h))
