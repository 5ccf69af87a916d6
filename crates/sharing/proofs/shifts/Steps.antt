-- The steps of the functions that shift weights: a row holds its own points, once each. A prime marks a number as the
-- machine reads it back.
use mathlib.Core.Path.{◌≡◌, refl, sym, ◌∙◌, ap}
use mathlib.Core.Bool.{Bool, true, false, true≢false}
use mathlib.Core.List.{List, [], ◌∷◌}
use Prim.Native.Nat.{ℕ, ◌+◌, ◌*◌, ◌^◌, ◌<◌, ◌≤◌}
use native.Mathlib.Omega.{arith}
use lib.Dec.{lit<}
use lib.IntN.{ℤ, nat_abs, ◌+ℤ◌, ◌-ℤ◌}
use borrow.Author.Tests.{eq-eqb}
use mir.Syntax.{w64}
use mir.Val.{SFits}
use mir.Facts.{to_z-of_z}
use Rattle.integers.specs.Division.{share}
use Rattle.integers.proofs.Integers.{back, abs_add, abs_sub, fits_within}
use Rattle.integers.proofs.division.Laws.{share_abs}
use Rattle.bounds.specs.Bounds.{greatest_weight}
use Rattle.points.specs.Points.{Exponents, exponents, point_of, same_point, midpoint_of}
use Rattle.points.specs.declared.points.Point.{Point}
use Rattle.points.proofs.points.Laws.{exponents_of, same_eq, same_refl, apart_sym}
use Rattle.keys.specs.Keys.{key_of}
use Rattle.keys.proofs.keys.Laws.{key_midpoint}
use Rattle.squares.specs.Sums.{Sum, coefficient}
use Rattle.squares.specs.Rows.{slots_of, slots}
use Rattle.squares.specs.declared.rows.Weights.{Weights}
use Rattle.squares.specs.declared.rows.Weights.TheVariants.{Pair, Lone}
use Rattle.squares.proofs.rows.Laws.{slots_pair, slots_lone}
use Rattle.sheets.specs.Layout.{variables, row_count, shape_of, ProofRoom}
use Rattle.sheets.specs.declared.layout.Shape.{Shape}
use Rattle.rows.specs.ProofSheet.{v_of, w_of, triple_of, row_of, rows_of, by_value}
use Rattle.rows.specs.declared.proof_sheet.Row.{Row}
use Rattle.rows.proofs.proof_sheet.Laws.{lone_of, pair_of}
use Rattle.checks.specs.ProofChecks.{ProofFacts}
use Rattle.targets.specs.Targets.{target_of}
use Rattle.targets.specs.Carried.{Carried}
use Rattle.targets.specs.declared.targets.Aim.{Aim}
use Rattle.targets.proofs.Carried.{carried_same}
use Rattle.sharing.specs.Sharing.{count, error_at, shifted_weight, rank_of}
use Rattle.sharing.specs.Slots.{slots_to, holding_of}
use Rattle.sharing.specs.Shifts.{CheckedSheets, IsRow, slots_before, shifted_weights, shift_row, shifted_row}
use Rattle.sharing.specs.declared.slots.Holding.{Holding}
use Rattle.sharing.proofs.Sharing.{count_nil, count_cons}
use Rattle.sharing.proofs.slots.Laws.{all_slots, among, v_carried, w_carried, middle_carried, tally_small, key_bound, held_at}
use Rattle.sharing.proofs.shifts.Laws.{proof_checked}

-- ---- moved: z is the target, s the sum, e the error

pub small_back : (s : ℤ) → nat_abs s ≤ 2 ^ 60 → back s ≡ s
small_back s h = to_z-of_z {w = w64} (fits_within s (2 ^ 60) h (lit< tt))

pub error_back : (z s : ℤ) → nat_abs z ≤ 2 ^ 60 → nat_abs s ≤ 2 ^ 60 → back (z -ℤ s) ≡ z -ℤ s
error_back z s hz hs = to_z-of_z {w = w64} (fits_within (z -ℤ s) (2 ^ 61) (omega (arith, abs_sub z s)) (lit< tt))

pub error_small : (z s : ℤ) → nat_abs z ≤ 2 ^ 60 → nat_abs s ≤ 2 ^ 60 → nat_abs (z -ℤ s) ≤ 2 ^ 61
error_small z s hz hs = omega (arith, abs_sub z s)

pub error_fits : (z s : ℤ) → nat_abs z ≤ 2 ^ 60 → nat_abs s ≤ 2 ^ 60 → SFits w64 (z -ℤ s)
error_fits z s hz hs = fits_within (z -ℤ s) (2 ^ 61) (error_small z s hz hs) (lit< tt)

pub moved_fits : (x e : ℤ) (count rank : ℕ) → nat_abs x ≤ greatest_weight → nat_abs e ≤ 2 ^ 61
    → SFits w64 (x +ℤ share e count rank)
moved_fits x e count rank hx he =
    let d : ℤ = share e count rank in
    fits_within (x +ℤ d) (2 ^ 62) (omega (arith, share_abs e count rank, abs_add x d)) (lit< tt)

pub moved_is : (h : Holding) (z z' x x' e y y' : ℤ) → nat_abs z ≤ 2 ^ 51 + 2 ^ 59 → nat_abs h.sum ≤ 2 ^ 42
    → nat_abs x ≤ greatest_weight → e ≡ back (z' -ℤ back h.sum) → y ≡ share e h.count h.rank → z' ≡ z → x' ≡ x → y' ≡ y
    → back (x' +ℤ y') ≡ x +ℤ share (z -ℤ h.sum) h.count h.rank
moved_is h z z' x x' e y y' hz hs hx ee ey bz bx by =
    let error = error_back z h.sum (omega arith) (omega arith) in
    let small = error_small z h.sum (omega arith) (omega arith) in
    rw (bx, by, ey, ee, bz, small_back h.sum (omega arith), error)
    (to_z-of_z {w = w64} (moved_fits x (z -ℤ h.sum) h.count h.rank hx small))

-- ---- shifted: sh is what the proof sheet says

module _ (c s : List ℕ) (a : Aim) (given : CheckedSheets c s a) (sh : Shape) (e : sh ≡ shape_of s) where
  facts : ProofFacts s sh
  facts = proof_checked c s a given sh e

  carried_here : (α : Exponents) → Carried (variables c) α → Carried sh.n α
  carried_here α h = rw (e, given.same) h

  pub row_here : (i : ℕ) → i < row_count s → i < sh.k
  row_here i l = rw e l

  module _ (α : Exponents) (carried : Carried (variables c) α) (key : ℕ) (ek : key ≡ key_of α) where
    pub key_here : key < 2 ^ 63
    key_here = key_bound s sh facts key α (carried_here α carried) ek

    module _ (i own : ℕ) (l : i < row_count s) (ranked : count α (slots_before s i) + own < count α (slots (rows_of s)))
      where
        -- the slots with the key are those at the point
        holding : holding_of key (slots_to s sh sh.k) (slots_to s sh i) own
            ≡ record {
              sum = coefficient α (slots (rows_of s));
              count = count α (slots (rows_of s));
              rank = count α (slots_before s i) + own;
            }
        unfolding slots_before
        holding =
            held_at s sh facts key α (carried_here α carried) ek i own (omega (arith, row_here i l))
            ∙ rw (all_slots s sh e, e)

        pub own_small : own < 65536
        unfolding holding_of
        own_small =
            let all = ap (λ (h : Holding). h.count) holding in
            omega (arith, ranked, all, (tally_small s sh facts key sh.k (omega arith)).1)

        module _ (h : Holding) (eh : h ≡ holding_of key (slots_to s sh sh.k) (slots_to s sh i) own) where
          pub held_small : nat_abs h.sum ≤ 2 ^ 42
          unfolding holding_of
          held_small = rw eh (omega (arith, (tally_small s sh facts key sh.k (omega arith)).0))

          pub held_some : 0 < h.count
          held_some = rw (eh, holding) (omega (arith, ranked))

          pub shifted_is : (x x' z z' r r' : ℤ) → r ≡ x' +ℤ share (z' -ℤ h.sum) h.count h.rank
              → z ≡ target_of c a α → r' ≡ r → z' ≡ z → x' ≡ x
              → r' ≡ shifted_weight (target_of c a) (slots (rows_of s)) (count α (slots_before s i) + own) α x
          unfolding shifted_weight error_at
          shifted_is x x' z z' r r' er ez br bz bx = br ∙ er ∙ rw (bz, ez, bx, eh, holding)

-- ---- no slot of the row's own is before one at another point

rank_none : (α : Exponents) (before : Sum) → rank_of α before [] ≡ count α before + 0
unfolding rank_of
rank_none α before = rw count_nil

rank_past : (α : Exponents) (before : Sum) (β : Exponents) (x : ℤ) (own : Sum) → same_point α β ≡ false
    → rank_of α before ((β, x) ∷ own) ≡ rank_of α before own
unfolding rank_of
rank_past α before β x own h = rw (count_cons, h)

-- ---- a row holds its points once each

module _ (s : List ℕ) (sh : Shape) (i : ℕ) (f : ProofFacts s sh) (l : i < sh.k) where
  -- of a pair, no two points are the same
  module _ (apart : same_point (v_of s sh i) (w_of s sh i) ≡ false) where
    w_off_v : same_point (w_of s sh i) (v_of s sh i) ≡ false
    w_off_v = apart_sym _ _ apart

    keys_apart : (key_of (v_of s sh i) ≡ key_of (w_of s sh i)) → ⊥
    keys_apart e =
        let same = carried_same sh.n (v_of s sh i) (w_of s sh i) (v_carried s sh i f l) (w_carried s sh i f l) in
        true≢false (sym (eq-eqb _ _ e) ∙ same ∙ apart)

    unlike : (α β : Exponents) → ((key_of α ≡ key_of β) → ⊥) → same_point α β ≡ false
    unlike α β d = go (same_point α β) refl
      where
        go : (b : Bool) → same_point α β ≡ b → b ≡ false
        go true e = absurd (d (ap key_of (same_eq α β e)))
        go false e = refl

    middle_key : key_of (v_of s sh i) + key_of (w_of s sh i) ≡ key_of (midpoint_of (v_of s sh i) (w_of s sh i)) * 2
    middle_key = key_midpoint (v_of s sh i) (w_of s sh i) (f.whole i l)

    u_off_v : same_point (midpoint_of (v_of s sh i) (w_of s sh i)) (v_of s sh i) ≡ false
    u_off_v = unlike _ _ (λ e. keys_apart (omega (arith, middle_key)))

    u_off_w : same_point (midpoint_of (v_of s sh i) (w_of s sh i)) (w_of s sh i) ≡ false
    u_off_w = unlike _ _ (λ e. keys_apart (omega (arith, middle_key)))

-- ---- shifted_weights: row i of well-formed sheets

module _ (c s : List ℕ) (t : Aim) (i : ℕ) (given : CheckedSheets c s t) (l : i < row_count s) where
  abbrev sh : Shape
  sh = shape_of s

  abbrev α : Exponents
  α = v_of s sh i

  abbrev β : Exponents
  β = w_of s sh i

  -- the weight x of the row's slot at p, shifted
  abbrev shifted_at : Point → ℤ → ℤ
  shifted_at p x =
      shifted_weight (target_of c t) (slots (rows_of s)) (count (exponents p) (slots_before s i) + 0) (exponents p) x

  -- a point of the row's own slots is held by more than the rows before
  abbrev Held : Exponents → Type 0
  Held γ = count γ (slots_before s i) + 0 < count γ (slots (rows_of s))

  own_held : (γ : Exponents) (L : Sum) → slots_of (row_of s sh i) ≡ L → 0 < count γ L → Held γ
  unfolding slots_before
  own_held γ L e h =
      let own = rw (← e) at h in
      rw (← (all_slots s sh refl)) (omega (arith, among s sh i γ l, own))

  module _ (v w : Point) (a : Weights) (row : IsRow s i v w a) where
    v_is : exponents v ≡ α
    v_is = rw row.v_is (exponents_of α)

    w_is : exponents w ≡ β
    w_is = rw row.w_is (exponents_of β)

    pub at_v_carried : Carried (variables c) (exponents v)
    at_v_carried = rw (v_is, ← given.same) (v_carried s sh i given.proof l)

    pub at_w_carried : Carried (variables c) (exponents w)
    at_w_carried = rw (w_is, ← given.same) (w_carried s sh i given.proof l)

    module _ (u : Point) (eu : u ≡ point_of (midpoint_of (exponents v) (exponents w))) where
      u_is : exponents u ≡ midpoint_of α β
      u_is = rw (eu, exponents_of (midpoint_of (exponents v) (exponents w)), v_is, w_is)

      pub at_u_carried : Carried (variables c) (exponents u)
      at_u_carried = rw (u_is, ← given.same) (middle_carried s sh i given.proof l)

    -- a lone row
    module _ (p : ℤ) (e : a ≡ Lone p) where
      lone_row : (row_of s sh i).weights ≡ Lone p
      lone_row = sym row.weights_are ∙ e

      pub lone_within : (p' : ℤ) → p' ≡ p → nat_abs p' ≤ greatest_weight
      lone_within p' ep = rw (ep, ← (lone_of s sh i p lone_row).1) (given.proof.weights_within i l).p_within

      pub lone_held : Held (exponents v)
      lone_held =
          own_held (exponents v) ((exponents v, p) ∷ []) (rw (lone_row, slots_lone, v_is))
          (rw (count_cons, same_refl) (omega arith))

      pub lone_shifted : (p' x x' : ℤ)
          → x ≡ shifted_at v p'
          → x' ≡ x → p' ≡ p → Lone x' ≡ (shifted_row (target_of c t) s i).weights
      unfolding shifted_row shift_row shifted_weights
      lone_shifted p' x x' ex bx bp = rw (lone_row, rank_none, bx, ex, bp, v_is)

    -- a pair
    module _ (p q r : ℤ) (e : a ≡ Pair p q r) where
      pair_row : (row_of s sh i).weights ≡ Pair p q r
      pair_row = sym row.weights_are ∙ e

      parts : (same_point α β ≡ false) × ((triple_of s sh i).p ≡ p) × ((triple_of s sh i).q ≡ q) × ((triple_of s sh i).r ≡ r)
      parts = pair_of s sh i p q r pair_row

      pub p_within : (p' : ℤ) → p' ≡ p → nat_abs p' ≤ greatest_weight
      p_within p' ep = rw (ep, ← parts.1) (given.proof.weights_within i l).p_within

      pub q_within : (q' : ℤ) → q' ≡ q → nat_abs q' ≤ greatest_weight
      q_within q' eq = rw (eq, ← parts.2) (given.proof.weights_within i l).q_within

      pub r_within : (r' : ℤ) → r' ≡ r → nat_abs r' ≤ greatest_weight
      r_within r' er = rw (er, ← parts.3) (given.proof.weights_within i l).r_within

      β_off_α : same_point β α ≡ false
      β_off_α = w_off_v s sh i given.proof l parts.0

      mid_off_α : same_point (midpoint_of α β) α ≡ false
      mid_off_α = u_off_v s sh i given.proof l parts.0

      mid_off_β : same_point (midpoint_of α β) β ≡ false
      mid_off_β = u_off_w s sh i given.proof l parts.0

      pair_held : (γ : Exponents) → 0 < count γ ((α, p) ∷ (β, q) ∷ (midpoint_of α β, r) ∷ [])
          → Held γ
      pair_held γ h = own_held γ _ (rw (pair_row, slots_pair)) h

      pub p_held : Held (exponents v)
      p_held = pair_held (exponents v) (rw (v_is, count_cons, same_refl) (omega arith))

      pub q_held : Held (exponents w)
      q_held = pair_held (exponents w) (rw (w_is, count_cons, β_off_α, count_cons, same_refl) (omega arith))

      module _ (u : Point) (eu : u ≡ point_of (midpoint_of (exponents v) (exponents w))) where
        pub r_held : Held (exponents u)
        r_held =
            pair_held (exponents u)
            (rw (u_is u eu, count_cons, mid_off_α, count_cons, mid_off_β, count_cons, same_refl) (omega arith))

        pub pair_shifted : (p' q' r' x x' y y' z z' : ℤ)
            → x ≡ shifted_at v p'
            → y ≡ shifted_at w q'
            → z ≡ shifted_at u r'
            → x' ≡ x → y' ≡ y → z' ≡ z → p' ≡ p → q' ≡ q → r' ≡ r
            → Pair x' y' z' ≡ (shifted_row (target_of c t) s i).weights
        unfolding shifted_row shift_row shifted_weights
        pair_shifted p' q' r' x x' y y' z z' ex ey ez bx by bz bp bq br =
            rw (
              pair_row,
              bx,
              ex,
              by,
              ey,
              bz,
              ez,
              bp,
              bq,
              br,
              v_is,
              w_is,
              u_is u eu,
              rank_past β (slots_before s i) α p [] β_off_α,
              rank_past (midpoint_of α β) (slots_before s i) α p ((β, q) ∷ []) mid_off_α,
              rank_past (midpoint_of α β) (slots_before s i) β q [] mid_off_β,
              rank_none,
              rank_none,
              rank_none,
            )

-- ---- shifted_row

module _ (c s : List ℕ) (t : Aim) (i : ℕ) (sh : Shape) (given : CheckedSheets c s t) (e : sh ≡ shape_of s) where
  pub room_here : ProofRoom s sh
  room_here = (proof_checked c s t given sh e).header.room

  module _ (row : Row) (er : row ≡ by_value (row_of s sh i)) where
    pub is_row : IsRow s i row.v row.w row.weights
    is_row = rw (er, e) (record { v_is = refl; w_is = refl; weights_are = refl })

    pub row_shifted : (x : Weights) → x ≡ (shifted_row (target_of c t) s i).weights
        → record { v = row.v; w = row.w; weights = x } ≡ by_value (shifted_row (target_of c t) s i)
    unfolding shifted_row shift_row
    row_shifted x ex = rw (er, ex, e)

-- ---- what each function rests on

pub ruleset moving = (small_back, error_back, error_small, error_fits, moved_fits)

pub ruleset row_shifting = (row_here, room_here, is_row, row_shifted)
