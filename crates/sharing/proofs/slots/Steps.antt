-- The steps of the functions that go over the rows and count slots.
use mathlib.Core.Path.{◌≡◌, refl, sym, ◌∙◌}
use mathlib.Core.Bool.{Bool, true, false, cond, ◌||◌}
use mathlib.Core.List.{List, [], ◌∷◌, ◌++◌}
use Prim.Native.Nat.{ℕ, suc, ◌+◌, ◌*◌, ◌^◌, ◌<◌, ◌≤◌}
use native.Mathlib.Decide.{ℕ_discrete}
use native.Mathlib.Numerals.{add-one}
use native.Mathlib.Omega.{arith}
use lib.Dec.{eqb, ltb, lit<}
use lib.IntN.{ℤ, pos, nat_abs, ◌+ℤ◌}
use lib.ListN.{length}
use borrow.Author.Tests.{eq-eqb, ne_eqb, lt-ltb}
use mir.Syntax.{w32, w64}
use mir.Val.{SFits, Fits}
use mir.Facts.{to_z-of_z}
use Rattle.integers.specs.Words.{i32_at}
use Rattle.integers.proofs.Integers.{back, abs_add, fits_within}
use Rattle.bounds.specs.Bounds.{greatest_weight, most_variables}
use Rattle.points.specs.Points.{Exponents, same_point, midpoint_of}
use Rattle.points.proofs.points.Laws.{same_eq}
use Rattle.keys.specs.Keys.{key_of}
use Rattle.keys.proofs.keys.Laws.{key_midpoint}
use Rattle.squares.specs.Sums.{Sum}
use Rattle.squares.specs.Rows.{slots_of}
use Rattle.squares.proofs.rows.Laws.{slots_pair, slots_lone}
use Rattle.sheets.specs.Layout.{triple_at}
use Rattle.sheets.specs.declared.layout.Shape.{Shape}
use Rattle.rows.specs.ProofSheet.{v_of, w_of, triple_of, row_of}
use Rattle.rows.proofs.proof_sheet.Laws.{triple_inside, p_there, q_there, r_there, row_lone, row_pair}
use Rattle.checks.specs.ProofChecks.{Within, ProofFacts}
use Rattle.targets.specs.Carried.{Carried, CarriedKey}
use Rattle.targets.proofs.Carried.{carried_same, carried_low}
use Rattle.sharing.specs.Sharing.{count}
use Rattle.sharing.specs.Slots.{CountsKey, Small, HoldsKey, slots_to, holds_point, more, added, step_to, tally_from, tally_of, holding_of}
use Rattle.sharing.specs.declared.slots.Tally.{Tally}
use Rattle.sharing.proofs.Sharing.{count_cons, count_nil}
use Rattle.sharing.proofs.slots.Laws.{key_bound, lone_slots, middle_carried, no_slots, pair_slots, tally_cons, tally_nil, tally_small, tallied, v_carried, w_carried}

-- ---- tallies

-- with one slot of a row at most, as the code tells which: at the first end its weight is x, at the second y true, and
-- at the midpoint y false
abbrev one_more : Bool → Bool → Bool → ℤ → (Bool → ℤ) → Tally → Tally
one_more first second middle x y a = cond first (more x a) (cond (second || middle) (more (y second) a) a)

-- so it is for a lone row's slot, whose key is v, w and half their sum
once_added : (b : Bool) (x : ℤ) (y : Bool → ℤ) (a : Tally) → added b x a ≡ one_more b b b x y a
unfolding added
once_added true x y a = refl
once_added false x y a = refl

-- and for a pair's, since no two of them have one key
one_added : (key v w : ℕ) (x : ℤ) (y : Bool → ℤ) (a : Tally) → (v ≡ w → ⊥)
    → added (eqb (v + w) (key * 2)) (y false) (added (eqb key w) (y true) (added (eqb key v) x a))
    ≡ one_more (eqb key v) (eqb key w) (eqb (v + w) (key * 2)) x y a
unfolding added
one_added key v w x y a d = go (ℕ_discrete key v) (ℕ_discrete key w)
  where
    go : Dec (key ≡ v) → Dec (key ≡ w)
        → added (eqb (v + w) (key * 2)) (y false) (added (eqb key w) (y true) (added (eqb key v) x a))
        ≡ one_more (eqb key v) (eqb key w) (eqb (v + w) (key * 2)) x y a
    go (yes e) q =
        rw (eq-eqb key v e, ne_eqb key w (λ r. d (omega arith)), ne_eqb (v + w) (key * 2) (λ r. d (omega arith)))
    go (no e) (yes q) = rw (ne_eqb key v e, eq-eqb key w q, ne_eqb (v + w) (key * 2) (λ r. d (omega arith)))
    go (no e) (no q) = rw (ne_eqb key v e, ne_eqb key w q)

tally_append : (key : ℕ) (a : Tally) (L M : Sum) → tally_from key a (L ++ M) ≡ tally_from key (tally_from key a L) M
unfolding tally_from
tally_append key a [] M = refl
tally_append key a (t ∷ L) M = tally_append key (added (eqb key (key_of t.0)) t.1 a) L M

-- ---- add: x is the weight that was read

module _ (s : List ℕ) (at : ℕ) (x : ℤ) (a : Tally) (ex : x ≡ i32_at s at) (hx : nat_abs (i32_at s at) ≤ greatest_weight)
    (small : Small a) where
  both_back : back a.sum +ℤ back x ≡ a.sum +ℤ i32_at s at
  both_back =
      let f : SFits w64 a.sum = fits_within a.sum (2 ^ 42) small.sum_small (lit< tt) in
      let g : SFits w64 x = fits_within x greatest_weight (rw ex hx) (lit< tt) in
      rw (to_z-of_z f, to_z-of_z g, ex)

  pub sum_fits : SFits w64 (back a.sum +ℤ back x)
  sum_fits =
      let g = abs_add a.sum (i32_at s at) in
      rw both_back (fits_within (a.sum +ℤ i32_at s at) (2 ^ 43) (omega (arith, g, small.sum_small)) (lit< tt))

  pub slot_more : record { sum = back (back a.sum +ℤ back x); count = a.count + 1 } ≡ more (i32_at s at) a
  unfolding more
  slot_more = rw (to_z-of_z sum_fits, both_back)

-- ---- the keys of a row's ends, v and w

pub key_doubles : (n key : ℕ) → CarriedKey n key → n ≤ most_variables → Fits w64 (key * 2)
key_doubles n key k few = omega (arith, k.keyed, carried_low n k.point few k.carried)

halved : (u key : ℕ) → eqb (u * 2) (key * 2) ≡ eqb key u
halved u key = go (ℕ_discrete u key)
  where
    go : Dec (u ≡ key) → eqb (u * 2) (key * 2) ≡ eqb key u
    go (yes e) = eq-eqb (u * 2) (key * 2) (omega (arith, e)) ∙ sym (eq-eqb key u (sym e))
    go (no e) = ne_eqb (u * 2) (key * 2) (λ q. e (omega arith)) ∙ sym (ne_eqb key u (λ q. e (sym q)))

module _ (s : List ℕ) (sh : Shape) (i : ℕ) (f : ProofFacts s sh) (l : i < sh.k) where
  module _ (v w : ℕ) (ev : v ≡ key_of (v_of s sh i)) (ew : w ≡ key_of (w_of s sh i)) where
    lone : eqb v w ≡ same_point (v_of s sh i) (w_of s sh i)
    lone = rw (ev, ew) (carried_same sh.n (v_of s sh i) (w_of s sh i) (v_carried s sh i f l) (w_carried s sh i f l))

    pub ends_fit : Fits w64 (v + w)
    ends_fit =
        let hv = carried_low sh.n (v_of s sh i) f.header.room.few (v_carried s sh i f l) in
        let hw = carried_low sh.n (w_of s sh i) f.header.room.few (w_carried s sh i f l) in
        omega (arith, ev, ew, hv, hw)

    middle : (key : ℕ) → eqb (v + w) (key * 2) ≡ eqb key (key_of (midpoint_of (v_of s sh i) (w_of s sh i)))
    middle key =
        rw (ev, ew, key_midpoint (v_of s sh i) (w_of s sh i) (f.whole i l))
        (halved (key_of (midpoint_of (v_of s sh i) (w_of s sh i))) key)

  -- a row holds a point exactly where one of its slots has the point's key
  module _ (α : Exponents) (carried : Carried sh.n α) where
    abbrev at : Exponents → Bool
    at β = same_point α β

    some : (m : ℕ) → true ≡ ltb 0 (suc m)
    some m = sym (lt-ltb 0 (suc m) (omega arith))

    any_held : (a b d : Bool)
        → (a || b) || d ≡ ltb 0 (cond a (suc (cond b (suc (cond d 1 0)) (cond d 1 0)))
        (cond b (suc (cond d 1 0)) (cond d 1 0)))
    any_held true b d = some (cond b (suc (cond d 1 0)) (cond d 1 0))
    any_held false true d = some (cond d 1 0)
    any_held false false true = refl
    any_held false false false = refl

    held_by_key : (eqb (key_of α) (key_of (v_of s sh i)) || eqb (key_of α) (key_of (w_of s sh i)))
        || eqb (key_of (v_of s sh i) + key_of (w_of s sh i)) (key_of α * 2)
        ≡ holds_point s sh α i
    unfolding holds_point
    held_by_key = go (same_point (v_of s sh i) (w_of s sh i)) refl
      where
        v_at_lem : eqb (key_of α) (key_of (v_of s sh i)) ≡ at (v_of s sh i)
        v_at_lem = carried_same sh.n α (v_of s sh i) carried (v_carried s sh i f l)

        w_at_lem : eqb (key_of α) (key_of (w_of s sh i)) ≡ at (w_of s sh i)
        w_at_lem = carried_same sh.n α (w_of s sh i) carried (w_carried s sh i f l)

        u_at : eqb (key_of (v_of s sh i) + key_of (w_of s sh i)) (key_of α * 2) ≡ at (midpoint_of (v_of s sh i) (w_of s sh i))
        u_at =
            middle (key_of (v_of s sh i)) (key_of (w_of s sh i)) refl refl (key_of α)
            ∙ carried_same sh.n α (midpoint_of (v_of s sh i) (w_of s sh i)) carried (middle_carried s sh i f l)

        once : (a : Bool) → (a || a) || a ≡ ltb 0 (cond a 1 0)
        once true = refl
        once false = refl

        go : (b : Bool) → same_point (v_of s sh i) (w_of s sh i) ≡ b
            → (eqb (key_of α) (key_of (v_of s sh i)) || eqb (key_of α) (key_of (w_of s sh i)))
            || eqb (key_of (v_of s sh i) + key_of (w_of s sh i)) (key_of α * 2)
            ≡ ltb 0 (count α (slots_of (row_of s sh i)))
        go true e =
            let q = same_eq (v_of s sh i) (w_of s sh i) e in
            let d : key_of (w_of s sh i) + key_of (w_of s sh i) ≡ key_of (w_of s sh i) * 2 = omega arith in
            rw (row_lone s sh i e, slots_lone, count_cons, count_nil, q, d, halved, w_at_lem)
            (once (at (w_of s sh i)))
        go false e =
            rw (
              row_pair s sh i e,
              slots_pair,
              count_cons,
              count_cons,
              count_cons,
              count_nil,
              v_at_lem,
              w_at_lem,
              u_at,
            )
            (any_held (at (v_of s sh i)) (at (w_of s sh i)) (at (midpoint_of (v_of s sh i) (w_of s sh i))))

  pub key_told : (v w key : ℕ) → v ≡ key_of (v_of s sh i) → w ≡ key_of (w_of s sh i)
      → HoldsKey s sh key i ((eqb key v || eqb key w) || eqb (v + w) (key * 2))
  key_told v w key ev ew = record { holds = λ α carried e. rw (e, ev, ew) (held_by_key α carried) }

-- ---- add_row: v and w are the keys of the row's ends

module _ (s : List ℕ) (sh : Shape) (i : ℕ) (f : ProofFacts s sh) (l : i < sh.k) (at : ℕ) (ea : at ≡ triple_at sh i)
  where
    weights : Within greatest_weight (triple_of s sh i)
    weights = f.weights_within i l

    inside : at + 12 ≤ length s
    inside = triple_inside s sh i at f.header.room l ea

    pub p_inside : at + 4 ≤ length s
    p_inside = omega (arith, inside)

    pub later_inside : (b : Bool) (step : ℕ) → step ≡ step_to b → at + step + 4 ≤ length s
    later_inside true step e = omega (arith, inside)
    later_inside false step e = omega (arith, inside)

    pub p_within : nat_abs (i32_at s at) ≤ greatest_weight
    p_within = rw (p_there s sh i at ea) weights.p_within

    pub later_within : (b : Bool) (step : ℕ) → step ≡ step_to b → nat_abs (i32_at s (at + step)) ≤ greatest_weight
    later_within true step e = rw (e, q_there s sh i at ea) weights.q_within
    later_within false step e = rw (e, r_there s sh i at ea) weights.r_within

    module _ (key : ℕ) (a : Tally) (ha : a ≡ tally_of key (slots_to s sh i)) where
      pub tally_room : Small a
      tally_room =
          let b = tally_small s sh f key i (omega arith) in
          rw ha (record { sum_small = omega (arith, b.0); count_small = omega (arith, b.1) })

      -- one slot at most: p where the key is v, else q where it is w, else r where it is the midpoint's
      module _ (v w : ℕ) (ev : v ≡ key_of (v_of s sh i)) (ew : w ≡ key_of (w_of s sh i)) where
        abbrev later : Bool → ℤ
        later second = i32_at s (at + step_to second)

        abbrev with_row : Tally
        with_row = one_more (eqb key v) (eqb key w) (eqb (v + w) (key * 2)) (i32_at s at) later a

        row_added : tally_of key (slots_to s sh (i + 1)) ≡ with_row
        unfolding tally_of
        row_added = go (ℕ_discrete v w)
          where
            go : Dec (v ≡ w) → tally_from key (record { sum = pos 0; count = 0 }) (slots_to s sh (i + 1)) ≡ with_row
            go (yes e) =
                let row = lone_slots s sh i (sym (lone s sh i f l v w ev ew) ∙ eq-eqb v w e) in
                let d : v + v ≡ v * 2 = omega arith in
                let p = p_there s sh i at ea in
                rw (add-one, row, tally_append, tally_cons, tally_nil, ← ha, ← ev, ← p, ← e, d, halved)
                (once_added (eqb key v) (i32_at s at) later a)
            go (no e) =
                let row = pair_slots s sh i (sym (lone s sh i f l v w ev ew) ∙ ne_eqb v w e) in
                rw (
                  add-one,
                  row,
                  tally_append,
                  tally_cons,
                  tally_cons,
                  tally_cons,
                  tally_nil,
                  ← ha,
                  ← ev,
                  ← ew,
                  ← (middle s sh i f l v w ev ew key),
                  ← (p_there s sh i at ea),
                  ← (q_there s sh i at ea),
                  ← (r_there s sh i at ea),
                )
                (one_added key v w (i32_at s at) later a e)

        pub first_added : (r : Tally) → key ≡ v → r ≡ more (i32_at s at) a → r ≡ tally_of key (slots_to s sh (i + 1))
        first_added r e h = h ∙ sym (row_added ∙ rw (eq-eqb key v e))

        module _ (past : key ≡ v → ⊥) where
          pub later_added : (r : Tally) (step : ℕ) → eqb key w || eqb (v + w) (key * 2) ≡ true
              → step ≡ step_to (eqb key w) → r ≡ more (i32_at s (at + step)) a
              → r ≡ tally_of key (slots_to s sh (i + 1))
          later_added r step t e h = h ∙ sym (row_added ∙ rw (ne_eqb key v past, t, e))

          pub none_added : eqb key w || eqb (v + w) (key * 2) ≡ false → a ≡ tally_of key (slots_to s sh (i + 1))
          none_added t = sym (row_added ∙ rw (ne_eqb key v past, t))

-- ---- scan, slots_with and held

pub scan_start : (s : List ℕ) (sh : Shape) (key : ℕ)
    → record { sum = pos 0; count = 0 } ≡ tally_of key (slots_to s sh 0)
unfolding tally_of
scan_start s sh key = rw (no_slots s sh, tally_nil)

pub count_small : (s : List ℕ) (sh : Shape) (key i : ℕ) → ProofFacts s sh → i ≤ sh.k
    → (tally_of key (slots_to s sh i)).count ≤ 768
count_small s sh key i f l = (tally_small s sh f key i l).1

module _ (s : List ℕ) (sh : Shape) (f : ProofFacts s sh) (key : ℕ) where
  pub carried_bound : CarriedKey sh.n key → key < 2 ^ 63
  carried_bound k = key_bound s sh f key k.point k.carried k.keyed

  pub all_counted : (all : Tally) → all ≡ tally_of key (slots_to s sh sh.k) → CountsKey s sh key all.count
  all_counted all e = record { counts = λ α carried ek. rw e (tallied s sh f key α carried ek sh.k (omega arith)) }

  pub all_fits : (all : Tally) → all ≡ tally_of key (slots_to s sh sh.k) → Fits w32 all.count
  all_fits all e = rw e (omega (arith, (tally_small s sh f key sh.k (omega arith)).1))

pub held_is : (s : List ℕ) (sh : Shape) (key i own : ℕ) (before all : Tally) (z : ℤ)
    → before ≡ tally_of key (slots_to s sh i) → all ≡ tally_of key (slots_to s sh sh.k) → z ≡ all.sum
    → record { sum = z; count = all.count; rank = before.count + own }
    ≡ holding_of key (slots_to s sh sh.k) (slots_to s sh i) own
unfolding holding_of
held_is s sh key i own before all z eb ea ez = rw (ez, eb, ea)

-- ---- what add and held rest on

pub ruleset adding = (sum_fits, slot_more)

pub ruleset holding = (scan_start, count_small, held_is)
