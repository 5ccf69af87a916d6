-- Laws of sharing, on a list of slots alone: at a point with slots the shifted weights add up to its target, at any
-- other to 0, no weight rises where its target falls, and weights that add up stay; and of slots gathered from rows,
-- whatever a row is.
use mathlib.Core.Path.{◌≡◌, refl, ◌∙◌}
use mathlib.Core.Bool.{Bool, true, false, cond}
use mathlib.Core.List.{[], ◌∷◌, ◌++◌, append-nil, append_assoc}
use Prim.Native.Nat.{ℕ, zero, suc, ◌+◌, ◌<◌, ◌≤◌}
use native.Mathlib.Decide.{le_ind}
use native.Mathlib.Omega.{arith}
use lib.IntN.{ℤ, pos, ◌+ℤ◌, ◌-ℤ◌, +ℤ_idr, +ℤ_invr}
use lib.Signed.{◌≤ℤ◌}
use Rattle.integers.specs.Division.{share, shares}
use Rattle.integers.proofs.Integers.{ring, ints, by_eq, by_le}
use Rattle.integers.proofs.division.Laws.{shares_none, shares_more, shares_sum, share_none, share_rises}
use Rattle.points.specs.Points.{Exponents, same_point}
use Rattle.points.specs.Lists.{table}
use Rattle.points.proofs.points.Laws.{same_eq, same_refl}
use Rattle.squares.specs.Sums.{Sum, gathered, coefficient}
use Rattle.squares.proofs.Sums.{coefficient_nil, coefficient_cons, gathered_none, gathered_more}
use Rattle.sharing.specs.Sharing.{count, error_at, shifted_weight, shifted_from, shifted_slots}

-- ---- how many slots are at a point

pub count_append : (α : Exponents) (L M : Sum) → count α (L ++ M) ≡ count α L + count α M
unfolding count
count_append α [] M = omega arith
count_append α (t ∷ L) M = go (same_point α t.0) (count_append α L M)
  where
    go : (b : Bool) → count α (L ++ M) ≡ count α L + count α M
        → cond b (suc (count α (L ++ M))) (count α (L ++ M)) ≡ cond b (suc (count α L)) (count α L) + count α M
    go true e = omega arith
    go false e = e

pub count_cons : (α : Exponents) (t : Exponents × ℤ) (L : Sum)
    → count α (t ∷ L) ≡ cond (same_point α t.0) (suc (count α L)) (count α L)
unfolding count
count_cons α t L = refl

pub count_nil : (α : Exponents) → count α [] ≡ 0
unfolding count
count_nil α = refl

-- a slot is counted at its point, whatever stands before it
pub later_counted : (γ : Exponents) (t : Exponents × ℤ) (M : Sum) → 0 < count γ M → 0 < count γ (t ∷ M)
unfolding count
later_counted γ t M h = go (same_point γ t.0)
  where
    go : (b : Bool) → 0 < cond b (suc (count γ M)) (count γ M)
    go true = omega arith
    go false = h

pub first_counted : (γ : Exponents) (x : ℤ) (M : Sum) → 0 < count γ ((γ, x) ∷ M)
unfolding count
first_counted γ x M = rw (same_refl γ) (omega arith)

-- a slot elsewhere does not count
count_past : (α : Exponents) (L : Sum) (t : Exponents × ℤ) → same_point α t.0 ≡ false
    → count α (L ++ (t ∷ [])) ≡ count α L
count_past α L t h = rw (count_append α L (t ∷ []), count_cons, count_nil, h) (omega arith)

count_here : (α : Exponents) (L : Sum) (t : Exponents × ℤ) → same_point α t.0 ≡ true
    → count α (L ++ (t ∷ [])) ≡ suc (count α L)
count_here α L t h = rw (count_append α L (t ∷ []), count_cons, count_nil, h) (omega arith)

coefficient_unheld : (α : Exponents) (L : Sum) → count α L ≡ 0 → coefficient α L ≡ pos 0
unfolding count
coefficient_unheld α [] h = coefficient_nil α
coefficient_unheld α (t ∷ L) h = rw (coefficient_cons α t L) (go (same_point α t.0) h (coefficient_unheld α L))
  where
    go : (b : Bool) → cond b (suc (count α L)) (count α L) ≡ 0 → (count α L ≡ 0 → coefficient α L ≡ pos 0)
        → cond b (t.1 +ℤ coefficient α L) (coefficient α L) ≡ pos 0
    go true h f = absurd (omega arith)
    go false h f = f h

-- ---- the shifted weights at a point: the proposed ones, and the shares of as many slots

pub from_nil : (τ : Exponents → ℤ) (L before : Sum) → shifted_from τ L before [] ≡ []
unfolding shifted_from
from_nil τ L before = refl

pub from_cons : (τ : Exponents → ℤ) (L before : Sum) (t : Exponents × ℤ) (rest : Sum)
    → shifted_from τ L before (t ∷ rest)
    ≡ (t.0, shifted_weight τ L (count t.0 before) t.0 t.1) ∷ shifted_from τ L (before ++ (t ∷ [])) rest
unfolding shifted_from
from_cons τ L before t rest = refl

from_append : (τ : Exponents → ℤ) (L before M N : Sum)
    → shifted_from τ L before (M ++ N) ≡ shifted_from τ L before M ++ shifted_from τ L (before ++ M) N
from_append τ L before [] N = rw (from_nil, append-nil)
from_append τ L before (t ∷ M) N =
    rw (from_cons, from_cons, from_append τ L (before ++ (t ∷ [])) M N, append_assoc before (t ∷ []) M)

-- a slot of weight x, those after it adding up to y, its share z and theirs w
regroup : (x z y w : ℤ) → (x +ℤ z) +ℤ (y +ℤ w) ≡ (x +ℤ y) +ℤ (z +ℤ w)
regroup x z y w = by_eq (simp ring (omega ints))

module _ (τ : Exponents → ℤ) (L : Sum) (α : Exponents) where
  -- what m slots from the k-th on get at α
  got : ℕ → ℕ → ℤ
  got k m = shares (error_at τ L α) (count α L) k m

  abbrev after : Sum → Exponents × ℤ → Sum → Sum
  after before t rest = shifted_from τ L (before ++ (t ∷ [])) rest

  from_adds : (before rest : Sum)
      → coefficient α (shifted_from τ L before rest) ≡ coefficient α rest +ℤ got (count α before) (count α rest)
  unfolding got count shifted_weight
  from_adds before [] = rw (from_nil, coefficient_nil, shares_none)
  from_adds before (t ∷ rest) =
      rw (from_cons, coefficient_cons, coefficient_cons)
      (go (same_point α t.0) refl (coefficient α (after before t rest)) (from_adds (before ++ (t ∷ [])) rest))
    where
      go : (b : Bool) → same_point α t.0 ≡ b → (z : ℤ)
          → z ≡ coefficient α rest +ℤ got (count α (before ++ (t ∷ []))) (count α rest)
          → cond b (shifted_weight τ L (count t.0 before) t.0 t.1 +ℤ z) z
          ≡ cond b (t.1 +ℤ coefficient α rest) (coefficient α rest)
          +ℤ got (count α before) (cond b (suc (count α rest)) (count α rest))
      go true h z ih =
          rw (ih, count_here α before t h, ← (same_eq α t.0 h), shares_more)
          (regroup t.1 (share (error_at τ L α) (count α L) (count α before)) (coefficient α rest) _)
      go false h z ih = rw (count_past α before t h) at ih

  pub shifted_adds : 0 < count α L → coefficient α (shifted_slots τ L) ≡ τ α
  unfolding shifted_slots got count error_at
  shifted_adds h =
      from_adds [] L ∙ rw (shares_sum (error_at τ L α) (count α L) h) (by_eq (simp ring (omega ints)))

  pub shifted_unheld : count α L ≡ 0 → coefficient α (shifted_slots τ L) ≡ pos 0
  unfolding shifted_slots got
  shifted_unheld h = from_adds [] L ∙ rw (h, shares_none, coefficient_unheld α L h)

-- ---- with a target no larger, a weight is no larger

module _ (τ τ' : Exponents → ℤ) (L : Sum) (rank : ℕ) (α : Exponents) (x : ℤ) where
  pub weight_falls : 0 < count α L → τ' α ≤ℤ τ α → shifted_weight τ' L rank α x ≤ℤ shifted_weight τ L rank α x
  unfolding shifted_weight error_at
  weight_falls held l =
      let less : (τ' α -ℤ coefficient α L) ≤ℤ (τ α -ℤ coefficient α L) = by_le (simp ring (omega (ints, l))) in
      by_le (simp ring (omega (ints, share_rises _ _ (count α L) held less rank)))

  pub weight_same : τ' α ≡ τ α → shifted_weight τ' L rank α x ≡ shifted_weight τ L rank α x
  unfolding shifted_weight error_at
  weight_same e = rw e

-- ---- weights that add up stay

pub weight_stays : (τ : Exponents → ℤ) (L : Sum) (rank : ℕ) (α : Exponents) (x : ℤ) → coefficient α L ≡ τ α
    → shifted_weight τ L rank α x ≡ x
unfolding shifted_weight error_at
weight_stays τ L rank α x e = rw (e, +ℤ_invr, share_none, +ℤ_idr)

-- ---- slots gathered from rows, whatever a row is

module _ {A : Type 0} (own : A → Sum) (row : ℕ → A) where
  abbrev to : ℕ → Sum
  to i = gathered own (table row i)

  -- those of the rows before a row and its own are among all
  pub row_counted : (α : Exponents) (i k : ℕ) → i < k → count α (to i) + count α (own (row i)) ≤ count α (to k)
  row_counted α i =
      le_ind (λ m. count α (to i) + count α (own (row i)) ≤ count α (to m))
      (rw (gathered_more own row i, count_append) (omega arith))
      (λ m _ h. rw (gathered_more own row m, count_append) (omega arith))

  -- where each row of `shifted` has the slots of that of `row`, shifted, all its rows have all slots, shifted
  module _ (τ : Exponents → ℤ) (shifted : ℕ → A) (L : Sum) (k : ℕ) (all : to k ≡ L)
      (each : (i : ℕ) → own (shifted i) ≡ shifted_from τ L (to i) (own (row i))) where
    first_shifted : (i : ℕ) → gathered own (table shifted i) ≡ shifted_from τ L [] (to i)
    first_shifted zero = rw (gathered_none own shifted, gathered_none own row, from_nil)
    first_shifted (suc i) =
        rw (gathered_more own shifted i, gathered_more own row i, from_append, first_shifted i, each i)

    pub gathered_shifted : gathered own (table shifted k) ≡ shifted_slots τ L
    unfolding shifted_slots
    gathered_shifted = first_shifted k ∙ rw all
