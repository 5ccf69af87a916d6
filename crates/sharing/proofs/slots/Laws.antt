-- Laws of slots: those of one row more, how much they can weigh, and that the slots with a point's key are those there.
use Rattle.std.proofs.Common.{None}
use mathlib.Core.Path.{◌≡◌, refl, ◌∙◌, ap}
use mathlib.Core.Bool.{Bool, true, false, cond}
use mathlib.Core.List.{List, [], ◌∷◌, ◌++◌}
use Prim.Native.Nat.{ℕ, zero, suc, ◌+◌, ◌*◌, ◌^◌, ◌<◌, ◌≤◌}
use native.Mathlib.Nat.{mul-le-mul_right}
use native.Mathlib.Omega.{arith}
use lib.Dec.{eqb}
use lib.IntN.{ℤ, pos, nat_abs, ◌+ℤ◌, +ℤ_idl, +ℤ_idr, +ℤ_assoc}
use lib.ListN.{length, length-append}
use borrow.Author.Tests.{ltb-true, ltb-false}
use Rattle.integers.proofs.Integers.{abs_add}
use Rattle.bounds.specs.Bounds.{greatest_exponent, greatest_weight}
use Rattle.answers.specs.Searches.{first}
use Rattle.answers.proofs.searches.Laws.{none_wrong}
use Rattle.points.specs.Lists.{table, All}
use Rattle.points.specs.Points.{Exponents, same_point, midpoint_of}
use Rattle.points.proofs.Lists.{all_append}
use Rattle.points.proofs.points.Laws.{midpoint_sized, midpoint_within}
use Rattle.keys.specs.Keys.{key_of}
use Rattle.squares.specs.Sums.{Sum, coefficient}
use Rattle.squares.specs.Rows.{slots_of, slots}
use Rattle.squares.proofs.Sums.{coefficient_nil, coefficient_cons, gathered_none, gathered_more}
use Rattle.squares.proofs.rows.Laws.{slots_pair, slots_lone}
use Rattle.sheets.specs.Layout.{shape_of}
use Rattle.sheets.specs.declared.layout.Shape.{Shape}
use Rattle.rows.specs.ProofSheet.{v_of, w_of, triple_of, row_of, rows_of}
use Rattle.rows.proofs.proof_sheet.Laws.{row_lone, row_pair, v_length, w_length, rows_table}
use Rattle.checks.specs.ProofChecks.{ProofFacts}
use Rattle.targets.specs.Carried.{Carried}
use Rattle.targets.proofs.Carried.{carried_same, carried_low}
use Rattle.sharing.specs.Sharing.{count}
use Rattle.sharing.specs.Slots.{slots_to, holds_point, more, added, tally_from, tally_of, holding_of}
use Rattle.sharing.specs.declared.slots.Tally.{Tally}
use Rattle.sharing.proofs.Sharing.{count_append, count_nil, row_counted}

-- ---- the slots of one row more

pub no_slots : (s : List ℕ) (sh : Shape) → slots_to s sh 0 ≡ []
unfolding slots_to
no_slots s sh = gathered_none slots_of (row_of s sh)

pub all_slots : (s : List ℕ) (sh : Shape) → sh ≡ shape_of s → slots_to s sh sh.k ≡ slots (rows_of s)
unfolding slots_to
all_slots s sh e = ap slots (rows_table s sh e)

module _ (s : List ℕ) (sh : Shape) (i : ℕ) where
  pub lone_slots : same_point (v_of s sh i) (w_of s sh i) ≡ true
      → slots_to s sh (suc i) ≡ slots_to s sh i ++ ((v_of s sh i, (triple_of s sh i).p) ∷ [])
  unfolding slots_to
  lone_slots h = gathered_more slots_of (row_of s sh) i ∙ rw (row_lone s sh i h, slots_lone)

  pub pair_slots : same_point (v_of s sh i) (w_of s sh i) ≡ false
      → slots_to s sh (suc i) ≡ slots_to s sh i ++ ((v_of s sh i, (triple_of s sh i).p) ∷ (w_of s sh i, (triple_of s sh i).q)
      ∷ (midpoint_of (v_of s sh i) (w_of s sh i), (triple_of s sh i).r) ∷ [])
  unfolding slots_to
  pair_slots h =
      gathered_more slots_of (row_of s sh) i ∙ rw (row_pair s sh i h, slots_pair)

  -- those of the rows before and the row's own are among all
  pub among : (α : Exponents) → i < sh.k
      → count α (slots_to s sh i) + count α (slots_of (row_of s sh i)) ≤ count α (slots_to s sh sh.k)
  unfolding slots_to
  among α l = row_counted slots_of (row_of s sh) α i sh.k l

-- ---- points that they can be at

module _ (s : List ℕ) (sh : Shape) (i : ℕ) (f : ProofFacts s sh) (l : i < sh.k) where
  pub v_carried : Carried sh.n (v_of s sh i)
  v_carried = record { sized = v_length s sh i; within = f.v_within i l }

  pub w_carried : Carried sh.n (w_of s sh i)
  w_carried = record { sized = w_length s sh i; within = f.w_within i l }

  pub middle_carried : Carried sh.n (midpoint_of (v_of s sh i) (w_of s sh i))
  middle_carried = record {
    sized = midpoint_sized (v_of s sh i) (w_of s sh i) sh.n (v_length s sh i) (w_length s sh i);
    within = midpoint_within greatest_exponent (v_of s sh i) (w_of s sh i) (f.v_within i l) (f.w_within i l);
  }

-- ---- what they are: points that the sheets can hold, with weights within the greatest

record Slot (n : ℕ) (t : Exponents × ℤ) : Type 0 where
  point : Carried n t.0
  weight : nat_abs t.1 ≤ greatest_weight

-- at most m of them
record Slots (n m : ℕ) (L : Sum) : Type 0 where
  short : length L ≤ m
  each : All (Slot n) L

slots_append : (n m d : ℕ) (L M : Sum) → Slots n m L → Slots n d M → Slots n (m + d) (L ++ M)
slots_append n m d L M h k = record {
  short = rw (length-append L M) (omega (arith, h.short, k.short));
  each = all_append (Slot n) L M h.each k.each;
}

module _ (s : List ℕ) (sh : Shape) (f : ProofFacts s sh) where
  slots_are : (i : ℕ) → i ≤ sh.k → Slots sh.n (i * 3) (slots_to s sh i)
  slots_are zero l = rw (no_slots s sh) (record { short = omega arith; each = tt })
  slots_are (suc i) l =
      let e : suc i * 3 ≡ i * 3 + 3 = omega arith in
      rw e (go (same_point (v_of s sh i) (w_of s sh i)) refl (slots_are i (omega arith)))
    where
      p : Slot sh.n (v_of s sh i, (triple_of s sh i).p)
      p = record { point = v_carried s sh i f l; weight = (f.weights_within i l).p_within }

      q : Slot sh.n (w_of s sh i, (triple_of s sh i).q)
      q = record { point = w_carried s sh i f l; weight = (f.weights_within i l).q_within }

      r : Slot sh.n (midpoint_of (v_of s sh i) (w_of s sh i), (triple_of s sh i).r)
      r = record { point = middle_carried s sh i f l; weight = (f.weights_within i l).r_within }

      go : (b : Bool) → same_point (v_of s sh i) (w_of s sh i) ≡ b → Slots sh.n (i * 3) (slots_to s sh i)
          → Slots sh.n (i * 3 + 3) (slots_to s sh (suc i))
      go true e h =
          rw (lone_slots s sh i e)
          (slots_append sh.n (i * 3) 3 _ _ h (record { short = omega arith; each = (p, tt) }))
      go false e h =
          rw (pair_slots s sh i e)
          (slots_append sh.n (i * 3) 3 _ _ h (record { short = omega arith; each = (p, (q, (r, tt))) }))

-- ---- tallies

pub tally_nil : (key : ℕ) (a : Tally) → tally_from key a [] ≡ a
unfolding tally_from
tally_nil key a = refl

pub tally_cons : (key : ℕ) (a : Tally) (t : Exponents × ℤ) (L : Sum)
    → tally_from key a (t ∷ L) ≡ tally_from key (added (eqb key (key_of t.0)) t.1 a) L
unfolding tally_from
tally_cons key a t L = refl

added_bound : (hit : Bool) (x : ℤ) (a : Tally) → nat_abs x ≤ greatest_weight
    → (nat_abs (added hit x a).sum ≤ nat_abs a.sum + greatest_weight) × ((added hit x a).count ≤ a.count + 1)
unfolding added more
added_bound true x a h = (omega (arith, abs_add a.sum x), omega arith)
added_bound false x a h = (omega arith, omega arith)

from_bound : (n key : ℕ) (a : Tally) (L : Sum) → All (Slot n) L
    → (nat_abs (tally_from key a L).sum ≤ nat_abs a.sum + length L * greatest_weight)
    × ((tally_from key a L).count ≤ a.count + length L)
unfolding tally_from
from_bound n key a [] h = (omega arith, omega arith)
from_bound n key a (t ∷ L) h =
    let b = added (eqb key (key_of t.0)) t.1 a in
    let g = added_bound (eqb key (key_of t.0)) t.1 a h.0.weight in
    let ih = from_bound n key b L h.1 in
    (omega (arith, g.0, ih.0), omega (arith, g.1, ih.1))

tally_bound : (n m key : ℕ) (L : Sum) → Slots n m L
    → (nat_abs (tally_of key L).sum ≤ m * greatest_weight) × ((tally_of key L).count ≤ m)
unfolding tally_of
tally_bound n m key L h =
    let g = from_bound n key (record { sum = pos 0; count = 0 }) L h.each in
    (omega (arith, g.0, h.short, mul-le-mul_right greatest_weight h.short), omega (arith, g.1, h.short))

-- what the slots of the first rows can weigh together, and how many they can be
pub tally_small : (s : List ℕ) (sh : Shape) → ProofFacts s sh → (key i : ℕ) → i ≤ sh.k
    → (nat_abs (tally_of key (slots_to s sh i)).sum ≤ 2 ^ 41) × ((tally_of key (slots_to s sh i)).count ≤ 768)
tally_small s sh f key i l =
    let g = tally_bound sh.n (i * 3) key (slots_to s sh i) (slots_are s sh f i l) in
    let rows = f.header.room.rows in
    (omega (arith, g.0), omega (arith, g.1))

-- ---- the slots with a point's key are those at the point

module _ (n : ℕ) (α : Exponents) (carried : Carried n α) where
  from_sum : (a : Tally) (L : Sum) → All (Slot n) L → (tally_from (key_of α) a L).sum ≡ a.sum +ℤ coefficient α L
  unfolding added more
  from_sum a [] h = rw (tally_nil, coefficient_nil, +ℤ_idr)
  from_sum a (t ∷ L) h =
      rw (tally_cons, carried_same n α t.0 carried h.0.point, coefficient_cons α t L)
      (go (same_point α t.0) (λ b. from_sum b L h.1))
    where
      go : (hit : Bool) → ((b : Tally) → (tally_from (key_of α) b L).sum ≡ b.sum +ℤ coefficient α L)
          → (tally_from (key_of α) (added hit t.1 a) L).sum
          ≡ a.sum +ℤ cond hit (t.1 +ℤ coefficient α L) (coefficient α L)
      go true ih = ih _ ∙ +ℤ_assoc a.sum t.1 (coefficient α L)
      go false ih = ih _

  from_count : (a : Tally) (L : Sum) → All (Slot n) L → (tally_from (key_of α) a L).count ≡ a.count + count α L
  unfolding added more count
  from_count a [] h = rw tally_nil (omega arith)
  from_count a (t ∷ L) h =
      rw (tally_cons, carried_same n α t.0 carried h.0.point)
      (go (same_point α t.0) (λ b. from_count b L h.1))
    where
      go : (hit : Bool) → ((b : Tally) → (tally_from (key_of α) b L).count ≡ b.count + count α L)
          → (tally_from (key_of α) (added hit t.1 a) L).count ≡ a.count + cond hit (suc (count α L)) (count α L)
      go true ih = ih _ ∙ omega arith
      go false ih = ih _

  tally_sum : (L : Sum) → All (Slot n) L → (tally_of (key_of α) L).sum ≡ coefficient α L
  unfolding tally_of
  tally_sum L h = from_sum _ L h ∙ +ℤ_idl (coefficient α L)

  tally_count : (L : Sum) → All (Slot n) L → (tally_of (key_of α) L).count ≡ count α L
  unfolding tally_of
  tally_count L h = from_count _ L h ∙ omega arith

-- ---- a point that a row holds has a slot, and one that no row holds has none

module _ (s : List ℕ) (sh : Shape) (α : Exponents) where
  pub point_held : (i : ℕ) → i < sh.k → holds_point s sh α i ≡ true → 0 < count α (slots_to s sh sh.k)
  unfolding holds_point
  point_held i l h = omega (arith, ltb-true 0 (count α (slots_of (row_of s sh i))) h, among s sh i α l)

  pub point_unheld : first (holds_point s sh α) sh.k ≡ None → count α (slots_to s sh sh.k) ≡ 0
  unfolding slots_to holds_point
  point_unheld h = go sh.k (omega arith)
    where
      go : (i : ℕ) → i ≤ sh.k → count α (slots (table (row_of s sh) i)) ≡ 0
      go zero l = rw (gathered_none, count_nil)
      go (suc i) l =
          let z = ltb-false 0 (count α (slots_of (row_of s sh i))) (none_wrong _ sh.k h i l) in
          rw (gathered_more slots_of (row_of s sh) i, count_append) (omega (arith, z, go i (omega arith)))

-- ---- what the slots with a point's key weigh, how many they are, and a slot's rank

module _ (s : List ℕ) (sh : Shape) (f : ProofFacts s sh) (key : ℕ) (α : Exponents) (carried : Carried sh.n α)
    (e : key ≡ key_of α) where
  pub key_bound : key < 2 ^ 63
  key_bound = omega (arith, e, carried_low sh.n α f.header.room.few carried)

  pub tallied : (i : ℕ) → i ≤ sh.k → (tally_of key (slots_to s sh i)).count ≡ count α (slots_to s sh i)
  tallied i l = rw e (tally_count sh.n α carried (slots_to s sh i) (slots_are s sh f i l).each)

  pub held_at : (i own : ℕ) → i ≤ sh.k → holding_of key (slots_to s sh sh.k) (slots_to s sh i) own
      ≡ record {
        sum = coefficient α (slots_to s sh sh.k);
        count = count α (slots_to s sh sh.k);
        rank = count α (slots_to s sh i) + own;
      }
  unfolding holding_of
  held_at i own l =
      let every = (slots_are s sh f sh.k (omega arith)).each in
      let sum = tally_sum sh.n α carried (slots_to s sh sh.k) every in
      rw (tallied i l, tallied sh.k (omega arith), e, sum)
