-- The steps of the functions that put texts and numbers.
use mathlib.Core.Path.{◌≡◌, refl, sym, ◌∙◌, ap}
use mathlib.Core.List.{List, [], ◌∷◌, ◌++◌, append_assoc}
use Prim.Native.Nat.{ℕ, ◌+◌, ◌-◌, ◌/◌, ◌%◌, ◌<◌, ◌≤◌}
use native.Mathlib.Omega.{arith}
use lib.ListN.{length, take}
use lib.Seq.{sets, sets-eq, length-sets}
use borrow.Rule.Slice.PartMut.{put_mid, Post-is}
use Rattle.text.specs.Text.{natural, counted, Room, Written}
use Rattle.text.proofs.text.Laws.{natural_last, natural_before, room_first, room_then, written_then}

-- put_text: t stands in the part from a place on
pub part_written : (l t part : List ℕ) (at : ℕ) → part ≡ t → Room l at t
    → Written l at t (put_mid at (at + length t - at) l part) (at + length t)
part_written l t part at e r =
    let same : put_mid at (at + length t - at) l part ≡ sets l at t =
    rw (e, Post-is at (at + length t) l (omega arith)) (sym (sets-eq t l at r.room ∙ append_assoc (take at l) t _)) in
    let long : length (put_mid at (at + length t - at) l part) ≡ length l = ap length same ∙ length-sets l at t in
    record { bytes = same; ends = refl; kept = long; inside = omega (arith, r.room) }

-- decimal: what was put is the number's text
pub number_written : (l o b s : List ℕ) (at end : ℕ) → Written l at s o end → s ≡ b → Written l at b o end
number_written l o b s at end w e = rw e at w

-- labelled: what was put after the label is the number's text
pub text_written : (l m o a b s b' : List ℕ) (at mid end : ℕ) → Written l at a m mid → Written m mid b' o end → b' ≡ s
    → s ≡ b → Written l at (a ++ b) o end
text_written l m o a b s b' at mid end w u e f = written_then a b w (rw (e, f) at u)

-- short: a digit, or the tens and then the ones
one_digit : (n : ℕ) → n < 10 → natural n ≡ (48 + n) ∷ []
one_digit n h = let e : n % 10 ≡ n = omega arith in natural_last n h ∙ ap (λ (d : ℕ). (48 + d) ∷ []) e

two_digits : (n : ℕ) → 10 ≤ n → n < 100 → natural n ≡ ((48 + n / 10) ∷ []) ++ ((48 + n % 10) ∷ [])
two_digits n h k =
    natural_before n h ∙ ap (λ (t : List ℕ). t ++ ((48 + n % 10) ∷ [])) (one_digit (n / 10) (omega arith))

module _ {l : List ℕ} {at : ℕ} (n : ℕ) where
  pub one_room : n < 10 → Room l at (natural n) → Room l at ((48 + n) ∷ [])
  one_room h r = rw (one_digit n h) at r

  pub one_written : {o : List ℕ} {end : ℕ} → n < 10 → Written l at ((48 + n) ∷ []) o end
      → Written l at (natural n) o end
  one_written h w = rw (one_digit n h) w

  module _ (h : 10 ≤ n) (k : n < 100) where
    pub tens_room : Room l at (natural n) → Room l at ((48 + n / 10) ∷ [])
    tens_room r = room_first _ ((48 + n % 10) ∷ []) (rw (two_digits n h k) at r)

    module _ {m : List ℕ} {mid : ℕ} (w : Written l at ((48 + n / 10) ∷ []) m mid) where
      pub ones_room : Room l at (natural n) → Room m mid ((48 + n % 10) ∷ [])
      ones_room r = room_then ((48 + n / 10) ∷ []) ((48 + n % 10) ∷ []) (rw (two_digits n h k) at r) w

      pub two_written : {o : List ℕ} {end : ℕ} → Written m mid ((48 + n % 10) ∷ []) o end
          → Written l at (natural n) o end
      two_written u = rw (two_digits n h k) (written_then ((48 + n / 10) ∷ []) ((48 + n % 10) ∷ []) w u)

-- counted: a label and a short count
pub label_room : {l : List ℕ} {at : ℕ} (label : List ℕ) (n : ℕ) → Room l at (counted label n) → Room l at label
unfolding counted
label_room label n r = room_first label (natural n) r

module _ {l m : List ℕ} {at mid : ℕ} (label : List ℕ) (n : ℕ) (w : Written l at label m mid) where
  pub short_room : Room l at (counted label n) → Room m mid (natural n)
  unfolding counted
  short_room r = room_then label (natural n) r w

  pub short_counted : {o : List ℕ} {end : ℕ} → Written m mid (natural n) o end → Written l at (counted label n) o end
  unfolding counted
  short_counted u = written_then label (natural n) w u
