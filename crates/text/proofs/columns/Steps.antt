-- The steps of the function that puts a column.
use mathlib.Core.Path.{◌≡◌, sym, ◌∙◌, ap}
use mathlib.Core.List.{List}
use Prim.Native.Nat.{ℕ, ◌+◌, ◌-◌, ◌≤◌}
use native.Mathlib.Omega.{arith}
use lib.IntN.{ℤ}
use lib.ListN.{length}
use mir.Syntax.{w64}
use mir.Val.{SFits}
use Rattle.std.specs.Fmt.{signed_decimal}
use Rattle.text.specs.Text.{integer, Room, Written}
use Rattle.text.specs.Columns.{column, Blank}
use Rattle.text.proofs.text.Laws.{integer_decimal}
use Rattle.text.proofs.columns.Laws.{blank_over}

-- column: t is the bytes of the number's text s, and z' what the machine reads back of z
module _ (z z' : ℤ) (s t l : List ℕ) (width at : ℕ) (fits : SFits w64 z) (et : t ≡ s) (es : s ≡ signed_decimal z')
    (back : z' ≡ z) where
  text_is : t ≡ integer z
  text_is = et ∙ es ∙ ap signed_decimal back ∙ sym (integer_decimal z fits)

  pub column_wide : length (integer z) ≤ width → length t ≤ width
  column_wide h = omega (arith, ap length text_is)

  module _ (h : length (integer z) ≤ width) (b : Blank l at width) where
    pub column_room : Room l (at + (width - length t)) t
    column_room = record { room = omega (arith, b.inside, ap length text_is) }

    pub column_written : (o : List ℕ) (end : ℕ) → Written l (at + (width - length t)) t o end
        → Written l at (column width z) o end
    unfolding column
    column_written o end w =
        blank_over (width - length (integer z)) (integer z) b (omega arith) (rw text_is at w)
