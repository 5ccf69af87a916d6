-- Laws of shifted rows: their weights add up to the target at every held point and to 0 at any other; rows keep their
-- points; and a proof whose weights add up stays as it is.
use mathlib.Core.Path.{◌≡◌, refl, sym, ◌∙◌, ap₂}
use mathlib.Core.List.{List, ◌++◌, append-nil, append_assoc}
use mathlib.Core.Bool.{Bool, true, false}
use Prim.Native.Nat.{ℕ, ◌<◌, ◌≤◌}
use native.Mathlib.Omega.{arith}
use lib.IntN.{ℤ, pos}
use lib.ListN.{length}
use Rattle.bounds.specs.declared.profiles.Profile.{Profile}
use Rattle.points.specs.Points.{Exponents, same_point, midpoint_of}
use Rattle.points.specs.Lists.{table, All}
use Rattle.points.proofs.Lists.{all_table, table_all, table_same}
use Rattle.points.proofs.points.Laws.{midpoint_sized}
use Rattle.keys.specs.Keys.{key_of}
use Rattle.squares.specs.Sums.{Sum, coefficient}
use Rattle.squares.specs.Rows.{Row, slots_at, slots_of, slots}
use Rattle.squares.specs.Decomposition.{Placed, Whole, AddsUp}
use Rattle.squares.specs.declared.rows.Weights.{Weights}
use Rattle.squares.specs.declared.rows.Weights.TheVariants.{Pair, Lone}
use Rattle.squares.proofs.rows.Laws.{slots_pair, slots_lone}
use Rattle.sheets.specs.Layout.{variables, row_count, shape_of}
use Rattle.sheets.specs.declared.layout.Shape.{Shape}
use Rattle.rows.specs.ProofSheet.{v_of, w_of, row_of, rows_of, Suits}
use Rattle.rows.proofs.proof_sheet.Laws.{row_placed, row_lone, row_pair, v_length, w_length, rows_table}
use Rattle.checks.specs.ProofChecks.{ProofFacts}
use Rattle.checks.specs.Input.{WellFormed}
use Rattle.checks.proofs.input.Laws.{claim_formed, same_formed, proof_formed, limits_formed}
use Rattle.targets.specs.Targets.{aim_of, Targeted}
use Rattle.targets.specs.Carried.{Carried}
use Rattle.targets.specs.declared.targets.Aim.{Aim}
use Rattle.targets.proofs.targets.Laws.{aim_within}
use Rattle.sharing.specs.Shifts.{CheckedSheets, shifted_weights, shift_row, slots_before, shifted_row, shifted_rows}
use Rattle.sharing.specs.Sharing.{count, shifted_weight, shifted_from, shifted_slots, rank_of}
use Rattle.sharing.specs.Slots.{slots_to}
use Rattle.sharing.proofs.Sharing.{count_append, from_nil, from_cons, shifted_adds, shifted_unheld, weight_stays, gathered_shifted}
use Rattle.sharing.proofs.slots.Laws.{all_slots}

-- ---- well-formed sheets, with their own floor, scale and limits

pub sheets_checked : (c s l : List ℕ) (π : Profile) → WellFormed c s l π → CheckedSheets c s (aim_of c s l)
sheets_checked c s l π f =
    let claim = claim_formed c s l π f in
    let proof = proof_formed c s l π f in
    record {
      claim = claim;
      proof = proof;
      same = same_formed c s l π f;
      aim = aim_within c s l claim.floor_within proof.header.scale_within (limits_formed c s l π f);
    }

-- ---- what they give the functions: sh is the shape that was read

module _ (c s : List ℕ) (a : Aim) (given : CheckedSheets c s a) where
  pub claim_eight : 8 ≤ length c
  claim_eight = omega (arith, given.claim.sized)

  pub proof_eight : 8 ≤ length s
  proof_eight = omega (arith, given.proof.header.sized)

module _ (c s : List ℕ) (a : Aim) (given : CheckedSheets c s a) (sh : Shape) (e : sh ≡ shape_of s) where
  pub proof_checked : ProofFacts s sh
  proof_checked = rw e given.proof

  module _ (α : Exponents) (carried : Carried (variables c) α) (key : ℕ) (ek : key ≡ key_of α) where
    pub targeted : Targeted c a α key
    targeted = record { claim = given.claim; aim = given.aim; point = carried; keyed = ek }

-- ---- shifted rows

-- ---- slots

-- those before a slot's row and those of its own row before it are all that come before it
ranks : (α : Exponents) (before own : Sum) → rank_of α before own ≡ count α (before ++ own)
unfolding rank_of
ranks α before own = sym (count_append α before own)

-- of one row
row_slots : (τ : Exponents → ℤ) (L before : Sum) (v w : Exponents) (a : Weights)
    → slots_at v w (shifted_weights τ L before v w a) ≡ shifted_from τ L before (slots_at v w a)
unfolding shifted_weights
row_slots τ L before v w (Pair p q r) =
    rw (slots_pair v w p q r, from_cons, from_cons, from_cons, from_nil)
    (rw (slots_pair v w _ _ _, ranks, ranks, ranks, append-nil, append_assoc))
row_slots τ L before v w (Lone p) =
    rw (slots_lone v w p, from_cons, from_nil) (rw (slots_lone v w _, ranks, append-nil))

module _ (τ : Exponents → ℤ) (s : List ℕ) where
  abbrev L : Sum
  L = slots (rows_of s)

  each_shifted : (i : ℕ)
      → slots_of (shifted_row τ s i) ≡ shifted_from τ L (slots_before s i) (slots_of (row_of s (shape_of s) i))
  unfolding shifted_row shift_row
  each_shifted i = let a = row_of s (shape_of s) i in row_slots τ L (slots_before s i) a.v a.w a.weights

  shifted_slots_lem : slots (shifted_rows τ s) ≡ shifted_slots τ L
  unfolding shifted_rows slots_before slots_to
  shifted_slots_lem =
      gathered_shifted slots_of (row_of s (shape_of s)) τ (shifted_row τ s) L (row_count s) (all_slots s (shape_of s) refl)
      each_shifted

  -- at a held point the weights add up to the target, and at any other to 0
  pub held_adds : (α : Exponents) → 0 < count α (slots (rows_of s)) → coefficient α (slots (shifted_rows τ s)) ≡ τ α
  held_adds α h = rw shifted_slots_lem (shifted_adds τ (slots (rows_of s)) α h)

  pub unheld_adds : (α : Exponents) → count α (slots (rows_of s)) ≡ 0 → coefficient α (slots (shifted_rows τ s)) ≡ pos 0
  unheld_adds α h = rw shifted_slots_lem (shifted_unheld τ (slots (rows_of s)) α h)

-- ---- rows

whole_stays : (τ : Exponents → ℤ) (L before : Sum) (v w : Exponents) (a : Weights) → Whole v w a
    → Whole v w (shifted_weights τ L before v w a)
unfolding shifted_weights
whole_stays τ L before v w (Pair p q r) h = h
whole_stays τ L before v w (Lone p) h = tt

-- a row keeps its points, and a lone row stays lone
module _ (τ : Exponents → ℤ) (s : List ℕ) (i : ℕ) where
  keeps_v : (shifted_row τ s i).v ≡ v_of s (shape_of s) i
  unfolding shifted_row shift_row
  keeps_v = refl

  keeps_w : (shifted_row τ s i).w ≡ w_of s (shape_of s) i
  unfolding shifted_row shift_row
  keeps_w = refl

  pub keeps_kind : Suits (same_point (v_of s (shape_of s) i) (w_of s (shape_of s) i)) (shifted_row τ s i).weights
  unfolding shifted_row shift_row shifted_weights
  keeps_kind = go (same_point (v_of s (shape_of s) i) (w_of s (shape_of s) i)) refl
    where
      go : (b : Bool) → same_point (v_of s (shape_of s) i) (w_of s (shape_of s) i) ≡ b
          → Suits b (shifted_row τ s i).weights
      go true e = rw (row_lone s (shape_of s) i e) tt
      go false e = rw (row_pair s (shape_of s) i e) tt

  keeps_place : (n : ℕ) → Placed n (row_of s (shape_of s) i) → Placed n (shifted_row τ s i)
  unfolding shifted_row shift_row
  keeps_place n h =
      let a : Row = row_of s (shape_of s) i in
      record {
        v_length = h.v_length;
        w_length = h.w_length;
        whole = whole_stays τ (slots (rows_of s)) (slots_before s i) a.v a.w a.weights h.whole;
      }

  with_points : shifted_row τ s i
      ≡ record { v = v_of s (shape_of s) i; w = w_of s (shape_of s) i; weights = (shifted_row τ s i).weights }
  with_points =
      ap₂ (λ (v w : Exponents). record { v = v; w = w; weights = (shifted_row τ s i).weights }) keeps_v keeps_w

-- every row, with its points as the sheet has them
pub rows_are : (τ : Exponents → ℤ) (s : List ℕ) → shifted_rows τ s
    ≡ table (λ i. record { v = v_of s (shape_of s) i; w = w_of s (shape_of s) i; weights = (shifted_row τ s i).weights })
    (row_count s)
unfolding shifted_rows
rows_are τ s = table_same (shifted_row τ s) _ (row_count s) (λ i l. with_points τ s i)

-- what holds of each row
module _ (τ : Exponents → ℤ) (s : List ℕ) (P : Row → Type 0) where
  pub rows_all : ((i : ℕ) → i < row_count s → P (shifted_row τ s i)) → All P (shifted_rows τ s)
  unfolding shifted_rows
  rows_all h = all_table (shifted_row τ s) P (row_count s) h

  pub rows_each : All P (shifted_rows τ s) → (i : ℕ) → i < row_count s → P (shifted_row τ s i)
  unfolding shifted_rows
  rows_each h = table_all (shifted_row τ s) P (row_count s) h

pub rows_stay_placed : (τ : Exponents → ℤ) (s : List ℕ) → ProofFacts s (shape_of s)
    → All (Placed (variables s)) (shifted_rows τ s)
rows_stay_placed τ s f =
    rows_all τ s (Placed (variables s))
    (λ i l. keeps_place τ s i (variables s) (row_placed s (shape_of s) i (f.whole i l)))

-- where the proposed weights add up at every point of n exponents, the shifted row is the proposed one
module _ (τ : Exponents → ℤ) (s : List ℕ) (exact : AddsUp (variables s) τ (slots (rows_of s))) where
  stays : (rank : ℕ) (α : Exponents) (x : ℤ) → length α ≡ variables s
      → shifted_weight τ (slots (rows_of s)) rank α x ≡ x
  stays rank α x l = weight_stays τ (slots (rows_of s)) rank α x (exact α l)

  weights_stay : (before : Sum) (v w : Exponents) (a : Weights) → length v ≡ variables s → length w ≡ variables s
      → shifted_weights τ (slots (rows_of s)) before v w a ≡ a
  unfolding shifted_weights
  weights_stay before v w (Pair p q r) lv lw =
      rw (stays _ v p lv, stays _ w q lw, stays _ (midpoint_of v w) r (midpoint_sized v w (variables s) lv lw))
  weights_stay before v w (Lone p) lv lw = rw (stays _ v p lv)

  pub row_stays : (i : ℕ) → shifted_row τ s i ≡ row_of s (shape_of s) i
  unfolding shifted_row shift_row
  row_stays i =
      let a : Row = row_of s (shape_of s) i in
      rw (weights_stay (slots_before s i) a.v a.w a.weights (v_length s (shape_of s) i) (w_length s (shape_of s) i))

  pub rows_stay : shifted_rows τ s ≡ rows_of s
  unfolding shifted_rows
  rows_stay =
      table_same (shifted_row τ s) (row_of s (shape_of s)) (row_count s) (λ i l. row_stays i)
      ∙ rows_table s (shape_of s) refl
