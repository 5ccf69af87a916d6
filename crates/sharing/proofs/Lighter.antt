-- Targets τ' that are those of τ everywhere but at the constant, and no larger there: a row that holds with them is
-- within every limit within which it is with τ. At the constant it has ends alone, whose weights are not negative.
use mathlib.Core.Path.{◌≡◌, refl, sym, ◌∙◌}
use mathlib.Core.Bool.{Bool, true, false, false≢true}
use mathlib.Core.List.{List}
use Prim.Native.Nat.{ℕ, ◌<◌, ◌≤◌}
use native.Mathlib.Omega.{arith}
use lib.IntN.{ℤ, pos, nat_abs}
use lib.ListN.{replicate}
use lib.Signed.{◌≤ℤ◌}
use Rattle.integers.proofs.Integers.{ints, sizes}
use Rattle.points.specs.Points.{Exponents, same_point, midpoint_of}
use Rattle.points.proofs.points.Laws.{same_eq, same_refl, middle_constant}
use Rattle.squares.specs.Sums.{Sum}
use Rattle.squares.specs.Rows.{slots_at, slots_of, slots, Holds}
use Rattle.squares.specs.declared.rows.Weights.{Weights}
use Rattle.squares.specs.declared.rows.Weights.TheVariants.{Pair, Lone}
use Rattle.squares.proofs.rows.Laws.{slots_pair, slots_lone}
use Rattle.sheets.specs.Layout.{row_count, shape_of}
use Rattle.sheets.specs.declared.layout.Shape.{Shape}
use Rattle.rows.specs.ProofSheet.{v_of, w_of, row_of, rows_of, triple_for}
use Rattle.rows.proofs.proof_sheet.Laws.{for_pair, for_lone, pair_of}
use Rattle.checks.specs.ProofChecks.{Within, ProofFacts}
use Rattle.sharing.specs.Sharing.{count, shifted_weight}
use Rattle.sharing.specs.Shifts.{shifted_weights, shift_row, slots_before, shifted_row}
use Rattle.sharing.proofs.Sharing.{later_counted, first_counted, weight_falls, weight_same}
use Rattle.sharing.proofs.slots.Laws.{all_slots, among}

-- ---- slots of a row: its ends are among L, and a pair's midpoint is not the constant

abbrev Among : ℕ → Sum → Exponents → Exponents → Weights → Type 0
Among n L v w (Pair p q r) =
    (0 < count v L) × (0 < count w L) × (same_point (midpoint_of v w) (replicate n 0) ≡ false)
Among n L v w (Lone p) = 0 < count v L

among_all : (n : ℕ) (L : Sum) (v w : Exponents) (a : Weights)
    → ((γ : Exponents) → 0 < count γ (slots_at v w a) → 0 < count γ L)
    → ((p q r : ℤ) → a ≡ Pair p q r → same_point (midpoint_of v w) (replicate n 0) ≡ false) → Among n L v w a
among_all n L v w (Pair p q r) all apart = (
  all v (rw (slots_pair v w p q r) (first_counted v p _)),
  all w (rw (slots_pair v w p q r) (later_counted w _ _ (first_counted w q _))),
  apart p q r refl,
)
among_all n L v w (Lone p) all apart = all v (rw (slots_lone v w p) (first_counted v p _))

-- ---- weights

module _ (limit : ℕ) where
  abbrev Light : Weights → Type 0
  Light a = Within limit (triple_for a)

  pair_light : (p q r p' q' r' : ℤ) → (nat_abs p ≤ limit → nat_abs p' ≤ limit)
      → (nat_abs q ≤ limit → nat_abs q' ≤ limit)
      → (nat_abs r ≤ limit → nat_abs r' ≤ limit) → Light (Pair p q r) → Light (Pair p' q' r')
  pair_light p q r p' q' r' f g h x =
      let y : Within limit (record { p = p; q = q; r = r }) =
      rw (for_pair (Pair p q r) p p q q r r refl refl refl refl) x in
      rw (← for_pair (Pair p' q' r') p' p' q' q' r' r' refl refl refl refl)
      (record { p_within = f y.p_within; q_within = g y.q_within; r_within = h y.r_within })

  lone_light : (p p' : ℤ) → (nat_abs p ≤ limit → nat_abs p' ≤ limit) → Light (Lone p) → Light (Lone p')
  lone_light p p' f x =
      let y : Within limit (record { p = p; q = pos 0; r = pos 0 }) = rw (for_lone (Lone p) p p refl refl) x in
      rw (← for_lone (Lone p') p' p' refl refl)
      (record { p_within = f y.p_within; q_within = omega arith; r_within = omega arith })

module _ (n limit : ℕ) (τ τ' : Exponents → ℤ)
    (same : (α : Exponents) → same_point α (replicate n 0) ≡ false → τ' α ≡ τ α)
    (falls : (α : Exponents) → same_point α (replicate n 0) ≡ true → τ' α ≤ℤ τ α) where
  module _ (L : Sum) where
    -- at an end, whose weight is not negative
    end_light : (rank : ℕ) (α : Exponents) (x : ℤ) → 0 < count α L → pos 0 ≤ℤ shifted_weight τ' L rank α x
        → nat_abs (shifted_weight τ L rank α x) ≤ limit → nat_abs (shifted_weight τ' L rank α x) ≤ limit
    end_light rank α x held nonneg w = go (same_point α (replicate n 0)) refl
      where
        go : (t : Bool) → same_point α (replicate n 0) ≡ t → nat_abs (shifted_weight τ' L rank α x) ≤ limit
        go false e = rw (weight_same τ τ' L rank α x (same α e)) w
        go true e =
            let less = weight_falls τ τ' L rank α x held (falls α e) in
            omega (ints, less, nonneg, w, sizes (shifted_weight τ L rank α x), sizes (shifted_weight τ' L rank α x))

    weights_light : (before : Sum) (v w : Exponents) (a : Weights) → Among n L v w a
        → Light limit (shifted_weights τ L before v w a) → Holds (shifted_weights τ' L before v w a)
        → Light limit (shifted_weights τ' L before v w a)
    unfolding shifted_weights
    weights_light before v w (Pair p q r) m x h =
        pair_light limit _ _ _ _ _ _ (end_light _ v p m.0 h.0) (end_light _ w q m.1 h.1)
        (λ y. rw (weight_same τ τ' L _ (midpoint_of v w) r (same _ m.2)) y) x
    weights_light before v w (Lone p) m x h = lone_light limit _ _ (end_light _ v p m h) x

  -- ---- rows

  module _ (s : List ℕ) (f : ProofFacts s (shape_of s)) (i : ℕ) (m : i < row_count s) where
    abbrev sh : Shape
    sh = shape_of s

    own_counted : (γ : Exponents) → 0 < count γ (slots_of (row_of s sh i)) → 0 < count γ (slots (rows_of s))
    own_counted γ h = rw (← (all_slots s sh refl)) (omega (arith, among s sh i γ m, h))

    middle_apart : (p q r : ℤ) → (row_of s sh i).weights ≡ Pair p q r
        → same_point (midpoint_of (v_of s sh i) (w_of s sh i)) (replicate n 0) ≡ false
    middle_apart p q r e = go (same_point (midpoint_of (v_of s sh i) (w_of s sh i)) (replicate n 0)) refl
      where
        go : (t : Bool) → same_point (midpoint_of (v_of s sh i) (w_of s sh i)) (replicate n 0) ≡ t → t ≡ false
        go false k = refl
        go true k =
            let one = middle_constant n _ _ (f.whole i m) (same_eq _ _ k) in
            let lone : same_point (v_of s sh i) (w_of s sh i) ≡ true = rw one (same_refl _) in
            absurd (false≢true (sym (pair_of s sh i p q r e).0 ∙ lone))

    pub row_light : Light limit (shifted_row τ s i).weights → Holds (shifted_row τ' s i).weights
        → Light limit (shifted_row τ' s i).weights
    unfolding shifted_row shift_row
    row_light =
        weights_light (slots (rows_of s)) (slots_before s i) _ _ _
        (among_all n (slots (rows_of s)) _ _ (row_of s sh i).weights own_counted
        middle_apart)
