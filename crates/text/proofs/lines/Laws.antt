-- Laws of lines: their first words, and how long they are.
use mathlib.Core.Path.{◌≡◌, refl}
use mathlib.Core.List.{List, ◌++◌}
use Prim.Native.Nat.{ℕ, suc, ◌+◌, ◌^◌, ◌<◌, ◌≤◌}
use native.Mathlib.Omega.{arith}
use lib.IntN.{ℤ}
use lib.ListN.{length, take, length-append}
use mir.Syntax.{w32}
use mir.Val.{SFits}
use Rattle.integers.proofs.Integers.{ints, sizes}
use Rattle.rows.specs.declared.proof_sheet.Triple.{Triple}
use Rattle.text.specs.Text.{ascii, natural, integer, counted, numbered}
use Rattle.text.specs.Lines.{scale_text, accepted_line, later_text, weights_text, row_line, refused_line}
use Rattle.text.proofs.text.Laws.{natural_short, integer_short}

pub accepted_begins : (k scale : ℕ) (floor : ℤ) (rest : List ℕ)
    → take 8 (accepted_line k scale floor ++ rest) ≡ ascii "accepted"
unfolding accepted_line counted
accepted_begins k scale floor rest = refl

pub refused_begins : (number index : ℕ) (rest : List ℕ) → take 8 (refused_line number index ++ rest) ≡ ascii "refused "
unfolding refused_line counted
refused_begins number index rest = refl

pub weights_are : (x : Triple) → weights_text x
    ≡ numbered (ascii " p ") x.p ++ (numbered (ascii " q ") x.q ++ numbered (ascii " r ") x.r)
unfolding weights_text later_text
weights_are x = refl

-- ---- how long they are, with numbers of 32 bits

pub counted_short : (label : List ℕ) (k n : ℕ) → n < 10 ^ suc k → length (counted label n) ≤ length label + suc k
unfolding counted
counted_short label k n h = rw (length-append label (natural n)) (omega (arith, natural_short k n h))

pub word_short : (label : List ℕ) (z : ℤ) → SFits w32 z → length (numbered label z) ≤ length label + 11
unfolding numbered
word_short label z f = rw (length-append label (integer z)) (omega (ints, integer_short 9 z (omega (ints, sizes z))))

pub accepted_short : (k S : ℕ) (b : ℤ) → k < 10 ^ 3 → S < 10 ^ 10 → SFits w32 b → length (accepted_line k S b) ≤ 52
unfolding accepted_line scale_text
accepted_short k S b hk hS f =
    simp length-append
    (omega (
      arith,
      counted_short (ascii "accepted rows ") 2 k hk,
      counted_short (ascii " scale ") 9 S hS,
      word_short (ascii " floor ") b f,
    ))

pub line_short : (i : ℕ) (x : Triple) → i < 10 ^ 3 → SFits w32 x.p → SFits w32 x.q → SFits w32 x.r
    → length (row_line i x) ≤ 49
unfolding row_line weights_text later_text
line_short i x h p q r =
    simp length-append
    (omega (
      arith,
      counted_short (ascii "row ") 2 i h,
      word_short (ascii " p ") x.p p,
      word_short (ascii " q ") x.q q,
      word_short (ascii " r ") x.r r,
    ))

pub refusal_short : (number index : ℕ) → number < 10 ^ 10 → index < 10 ^ 20 → length (refused_line number index) ≤ 42
unfolding refused_line
refusal_short number index h l =
    simp length-append (omega (
      arith,
      counted_short (ascii "refused ") 9 number h,
      counted_short (ascii " at ") 19 index l,
    ))
