-- Laws of exponents: their fields one after another, that these tell the exponents, their labels, and their lengths.
use mathlib.Core.Path.{◌≡◌, refl, sym, ◌∙◌, ap, ap₂}
use mathlib.Core.Bool.{false}
use mathlib.Core.List.{List, [], ◌∷◌, ◌++◌, append_assoc, append-nil}
use Prim.Native.Nat.{ℕ, zero, suc, ◌+◌, ◌*◌, ◌<◌, ◌≤◌}
use native.Mathlib.Omega.{arith}
use lib.Dec.{eqb}
use lib.ListN.{length, get_or, length-append}
use Rattle.integers.specs.Words.{Bytes}
use Rattle.points.specs.Lists.{table, All}
use Rattle.points.specs.Points.{bytes_at}
use Rattle.points.proofs.Lists.{all_append, table_none, table_more, table_length}
use Rattle.points.proofs.points.Laws.{bytes_table}
use Rattle.text.specs.Text.{ascii, counted, texts_to}
use Rattle.text.proofs.text.Laws.{numbered_is, texts_none, texts_more, texts_short}
use Rattle.text.proofs.lines.Laws.{counted_short}
use Rattle.listings.specs.Fields.{Field, count, exponent_fields, fields_text, of_numbers, IsLabel, Labelled}
use Rattle.listings.specs.Exponents.{spaced_at, spaced_text}
use Rattle.listings.proofs.Fields.{split_count, fields_none, fields_more, fields_append}
use Rattle.listings.proofs.Putting.{count_put}
use Rattle.listings.proofs.Lines.{starts_line}

spaced_append : (α β : List ℕ) → exponent_fields [] (α ++ β) ≡ exponent_fields [] α ++ exponent_fields [] β
unfolding exponent_fields
spaced_append [] β = refl
spaced_append (e ∷ α) β = rw (spaced_append α β)

spaced_none : fields_text (exponent_fields [] []) ≡ []
unfolding exponent_fields
spaced_none = fields_none

spaced_one : (e : ℕ) → fields_text (exponent_fields [] (e ∷ [])) ≡ counted (ascii " ") e
unfolding exponent_fields
spaced_one e = rw (fields_more (count (ascii " ") e) [], fields_none, append-nil) (count_put (ascii " ") e)

spaced_table : (g : ℕ → ℕ) (n : ℕ)
    → fields_text (exponent_fields [] (table g n)) ≡ texts_to (λ j. counted (ascii " ") (g j)) n
spaced_table g zero = rw (table_none g, spaced_none) (sym (texts_none _))
spaced_table g (suc n) =
    rw (
      table_more g n,
      spaced_append (table g n) (g n ∷ []),
      fields_append (exponent_fields [] (table g n)),
      spaced_one,
      spaced_table g n,
      texts_more _ n,
    )

labelled : (label α : List ℕ) → 0 < length α
    → fields_text (exponent_fields label α) ≡ label ++ fields_text (exponent_fields [] α)
unfolding exponent_fields
labelled label [] h = absurd (omega arith)
labelled label (e ∷ α) h = simp (fields_more, numbered_is, append_assoc)

pub exponents_spaced : (label s : List ℕ) (at n : ℕ) → 1 ≤ n
    → fields_text (exponent_fields label (bytes_at s at n)) ≡ label ++ spaced_text s at n
exponents_spaced label s at n h =
    rw (bytes_table s at n)
    (labelled label (table g n) (rw (table_length g n) h) ∙ ap (λ (l : List ℕ). label ++ l) (spaced_table g n))
  where
    g : ℕ → ℕ
    g j = get_or s (at + j) 0

-- they tell the exponents, whatever follows
pub exponents_apart : (label α β : List ℕ) (x y : List Field) → length α ≡ length β
    → exponent_fields label α ++ x ≡ exponent_fields label β ++ y → (α ≡ β) × (x ≡ y)
unfolding exponent_fields
exponents_apart label [] [] x y l e = (refl, e)
exponents_apart label [] (b ∷ β) x y l e = absurd (omega arith)
exponents_apart label (a ∷ α) [] x y l e = absurd (omega arith)
exponents_apart label (a ∷ α) (b ∷ β) x y l e =
    let h = split_count e in
    let t = exponents_apart [] α β x y (omega arith) h.1 in
    (ap₂ ◌∷◌ h.0 t.0, t.1)

-- the label that they begin with
pub first_label : List Field → List ℕ
first_label [] = []
first_label (f ∷ fields) = f.label

pub exponents_first : (label α : List ℕ) (rest : List Field) → 0 < length α
    → first_label (exponent_fields label α ++ rest) ≡ label ++ ascii " "
unfolding first_label exponent_fields
exponents_first label [] rest h = absurd (omega arith)
exponents_first label (e ∷ α) rest h = refl

-- ---- they have labels, of which none starts a line where the first does not

plain_label : (label : List ℕ) → All (λ code. of_numbers code ≡ false) label → IsLabel (label ++ ascii " ")
plain_label label p = record {
  some = rw (length-append label (ascii " ")) (omega arith);
  plain = all_append _ label (ascii " ") p (refl, tt);
}

pub exponents_labelled : (label α : List ℕ) → All (λ code. of_numbers code ≡ false) label
    → Labelled (exponent_fields label α)
unfolding exponent_fields
exponents_labelled label [] p = tt
exponents_labelled label (e ∷ α) p = (plain_label label p, exponents_labelled [] α tt)

pub exponents_inline : (label α : List ℕ) → eqb (get_or (label ++ ascii " ") 0 0) 10 ≡ false
    → All (λ f. starts_line f ≡ false) (exponent_fields label α)
unfolding exponent_fields
exponents_inline label [] h = tt
exponents_inline label (e ∷ α) h = (h, exponents_inline [] α refl)

-- ---- how long their text is, of n bytes

pub exponents_short : (label s : List ℕ) (at n : ℕ) → Bytes s → 1 ≤ n
    → length (fields_text (exponent_fields label (bytes_at s at n))) ≤ length label + n * 4
exponents_short label s at n b h =
    rw (exponents_spaced label s at n h, length-append label (spaced_text s at n))
    (omega (
      arith,
      texts_short (spaced_at s at) 4 n (λ i l. counted_short (ascii " ") 2 (get_or s (at + i) 0)
          (omega (arith, b (at + i)))),
    ))
