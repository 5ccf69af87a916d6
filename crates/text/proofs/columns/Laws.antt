-- Laws of columns: texts over spaces, with room for one after another, and spaces before a text.
use mathlib.Core.Path.{◌≡◌, refl, sym, ◌∙◌, ap}
use mathlib.Core.List.{List, [], ◌∷◌, ◌++◌}
use Prim.Native.Nat.{ℕ, zero, suc, ◌+◌, ◌<◌, ◌≤◌}
use native.Mathlib.Omega.{arith}
use lib.IntN.{ℤ}
use lib.ListN.{length, get_or, set, length-append, length-replicate}
use lib.Seq.{sets, set-get_or, get_or-set_other}
use Rattle.text.specs.Text.{integer, Written}
use Rattle.text.specs.Columns.{spaces, column, Blank}
use Rattle.text.proofs.text.Laws.{sets_joined}

pub column_length : (width : ℕ) (z : ℤ) → length (integer z) ≤ width → length (column width z) ≡ width
unfolding column
column_length width z h = simp (length-append, length-replicate) (omega arith)

-- ---- a text over spaces leaves spaces behind it

-- what is put changes nothing behind it
sets_other : (t l : List ℕ) (at i : ℕ) → at + length t ≤ i → get_or (sets l at t) i 0 ≡ get_or l i 0
sets_other [] l at i h = refl
sets_other (x ∷ t) l at i h =
    sets_other t (set l at x) (suc at) i (omega arith) ∙ get_or-set_other l at i x 0 (λ e. omega arith)

pub blank_then : {l m : List ℕ} {at mid : ℕ} (a : List ℕ) (n more : ℕ) → Blank l at n → Written l at a m mid
    → length a + more ≤ n → Blank m mid more
blank_then {l} {m} {at} {mid} a n more h w e = record {
  inside = omega (arith, h.inside, w.ends, w.kept);
  blank = λ i after before.
      rw w.bytes (sets_other a l at i (omega (arith, w.ends))
      ∙ h.blank i (omega (arith, w.ends)) (omega (arith, w.kept)));
}

-- ---- spaces put over spaces change nothing

spaces_over : (n : ℕ) (l : List ℕ) (at : ℕ) → ((i : ℕ) → at ≤ i → i < at + n → get_or l i 0 ≡ 32)
    → sets l at (spaces n) ≡ l
spaces_over zero l at h = refl
spaces_over (suc n) l at h =
    let same : set l at 32 ≡ l = ap (set l at) (sym (h at (omega arith) (omega arith))) ∙ set-get_or l at 0 in
    ap (λ (k : List ℕ). sets k (suc at) (spaces n)) same
    ∙ spaces_over n l (suc at) (λ i p q. h i (omega arith) (omega arith))

-- so a text after so many spaces is put with them
pub blank_over : {l m : List ℕ} {at end room : ℕ} (n : ℕ) (t : List ℕ) → Blank l at room → n ≤ room
    → Written l (at + n) t m end → Written l at (spaces n ++ t) m end
blank_over {l} {m} {at} {end} {room} n t h e w =
    let same = spaces_over n l at (λ i p q. h.blank i p (omega (arith, h.inside))) in
    record {
      bytes = w.bytes ∙ sym (sym (sets_joined (spaces n) t l at) ∙ rw (same, length-replicate {A = ℕ} n 32));
      ends = w.ends ∙ omega (arith, length-append (spaces n) t, length-replicate {A = ℕ} n 32);
      kept = w.kept;
      inside = w.inside;
    }
