-- Fields put over a buffer one after another: a first one, and then the others.
use mathlib.Core.Path.{◌≡◌, sym}
use mathlib.Core.List.{List, [], ◌∷◌, ◌++◌, append-nil}
use Prim.Native.Nat.{ℕ}
use lib.IntN.{ℤ, pos}
use Rattle.text.specs.Text.{counted, numbered, Room, Written}
use Rattle.text.proofs.text.Laws.{counted_is, numbered_is, integer_count, room_first, room_then, written_then}
use Rattle.listings.specs.Fields.{Field, number, count, fields_text}
use Rattle.listings.proofs.Fields.{fields_none, fields_more, fields_append}

-- a count is put as it is
pub count_put : (label : List ℕ) (n : ℕ) → numbered label (pos n) ≡ counted label n
count_put label n = rw (numbered_is label (pos n), integer_count n, counted_is label n)

-- ---- fields one by one

-- a text is that of a field: of a count n, which was read as n', or of a number z, which was read as x and which the
-- machine has as z'
pub record Puts (text : List ℕ) (f : Field) : Type 0 where
  pub puts : text ≡ numbered f.label f.number

pub puts_count : (label : List ℕ) (n n' : ℕ) → n' ≡ n → Puts (counted label n') (count label n)
puts_count label n n' e = record { puts = rw e (sym (count_put label n)) }

pub puts_number : (label : List ℕ) (z x z' : ℤ) → z' ≡ x → x ≡ z → Puts (numbered label z') (number label z)
puts_number label z x z' back e = record { puts = rw (back, e) }

module _ (l : List ℕ) (at : ℕ) (t : List ℕ) (f : Field) (p : Puts t f) where
  pub field_room : (rest : List Field) → Room l at (fields_text (f ∷ rest)) → Room l at t
  field_room rest r = rw p.puts (room_first _ (fields_text rest) (rw (fields_more f rest) at r))

  module _ (m : List ℕ) (mid : ℕ) (w : Written l at t m mid) where
    pub after_field : (rest : List Field) → Room l at (fields_text (f ∷ rest)) → Room m mid (fields_text rest)
    after_field rest r = room_then _ (fields_text rest) (rw (fields_more f rest) at r) (rw p.puts at w)

    pub field_then : (rest : List Field) (o : List ℕ) (end : ℕ) → Written m mid (fields_text rest) o end
        → Written l at (fields_text (f ∷ rest)) o end
    field_then rest o end u = rw (fields_more f rest) (written_then _ (fields_text rest) (rw p.puts at w) u)

    pub field_last : Written l at (fields_text (f ∷ [])) m mid
    field_last = rw (fields_more f [], fields_none, append-nil (numbered f.label f.number), ← p.puts) w

-- room for the second field where the first is put, and so on
pub second_field : (l m : List ℕ) (at mid : ℕ) (t u : List ℕ) (f g : Field) (rest : List Field) → Written l at t m mid
    → Room l at (fields_text (f ∷ g ∷ rest)) → Puts t f → Puts u g → Room m mid u
second_field l m at mid t u f g rest w r p q =
    field_room m mid u g q rest (after_field l at t f p m mid w (g ∷ rest) r)

pub third_field : (l m o : List ℕ) (at mid far : ℕ) (t u v : List ℕ) (f g h : Field) (rest : List Field)
    → Written m mid u o far → Written l at t m mid → Room l at (fields_text (f ∷ g ∷ h ∷ rest)) → Puts t f → Puts u g
    → Puts v h → Room o far v
third_field l m o at mid far t u v f g h rest x w r p q s =
    second_field m o mid far u v g h rest x (after_field l at t f p m mid w (g ∷ h ∷ rest) r) q s

pub fourth_field : (l m o r : List ℕ) (at mid far off : ℕ) (t u v x : List ℕ) (f g h i : Field) (rest : List Field)
    → Written o far v r off → Written m mid u o far → Written l at t m mid
    → Room l at (fields_text (f ∷ g ∷ h ∷ i ∷ rest)) → Puts t f → Puts u g → Puts v h → Puts x i → Room r off x
fourth_field l m o r at mid far off t u v x f g h i rest a b w s p q y z =
    third_field m o r mid far off u v x g h i rest a b (after_field l at t f p m mid w (g ∷ h ∷ i ∷ rest) s) q y z

-- ---- some fields, and then others

module _ {l : List ℕ} {at : ℕ} (a b : List Field) where
  pub first_room : Room l at (fields_text (a ++ b)) → Room l at (fields_text a)
  first_room r = room_first (fields_text a) (fields_text b) (rw (fields_append a b) at r)

  module _ {m : List ℕ} {mid : ℕ} (w : Written l at (fields_text a) m mid) where
    pub rest_room : Room l at (fields_text (a ++ b)) → Room m mid (fields_text b)
    rest_room r = room_then (fields_text a) (fields_text b) (rw (fields_append a b) at r) w

    pub both_written : {o : List ℕ} {end : ℕ} → Written m mid (fields_text b) o end
        → Written l at (fields_text (a ++ b)) o end
    both_written u = rw (fields_append a b) (written_then (fields_text a) (fields_text b) w u)
