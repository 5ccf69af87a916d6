-- Laws of check 16: it is passed exactly where every target that is not zero has a slot.
use Rattle.std.proofs.Common.{None}
use mathlib.Core.Path.{◌≡◌, refl, sym, ◌∙◌, ap, fun_ext}
use mathlib.Core.Bool.{Bool, true, false, not, cond, ◌&&◌, true≢false}
use mathlib.Core.List.{List}
use Prim.Native.Nat.{ℕ, suc, ◌+◌, ◌-◌, ◌<◌}
use native.Mathlib.Decide.{dec_lt}
use native.Mathlib.Omega.{arith}
use lib.Dec.{eqb, ltb}
use lib.IntN.{ℤ, pos, nat_abs}
use lib.ListN.{length, replicate, length-replicate}
use borrow.Author.Tests.{eq-eqb, ne_eqb, lt-ltb, le-ltb, ltb-true, eqb-true}
use Rattle.integers.proofs.Integers.{abs_zero}
use Rattle.integers.specs.Words.{Bytes}
use Rattle.answers.specs.Answers.{accepted, Passes, Short}
use Rattle.answers.proofs.answers.Laws.{passes_at, passed_at, accepted_passes, short_accepted, short_at}
use Rattle.answers.proofs.searches.Laws.{none_wrong, all_right}
use Rattle.points.specs.Lists.{All}
use Rattle.points.specs.Points.{Exponents, same_point, pure_at}
use Rattle.points.proofs.points.Laws.{same_eq, pure_length}
use Rattle.points.proofs.Lists.{all_table}
use Rattle.squares.specs.Sums.{coefficient}
use Rattle.squares.specs.Rows.{slots}
use Rattle.squares.proofs.Sums.{coefficient_none}
use Rattle.squares.proofs.limits.Laws.{limit_apart, limits_nothing}
use Rattle.squares.proofs.Targets.{target_zero, lowered_other}
use Rattle.sheets.specs.Layout.{variables, term_count}
use Rattle.sheets.specs.ClaimSheet.{with_floor, term_point, term_of, terms_of}
use Rattle.sheets.proofs.claim_sheet.Laws.{terms_table, term_point_lem, point_length, floored_before, floored_point}
use Rattle.rows.specs.ProofSheet.{rows_of}
use Rattle.limits.specs.LimitsSheet.{limit_in}
use Rattle.limits.specs.declared.limits_sheet.Limits.{Limits}
use Rattle.targets.specs.Targets.{target_of}
use Rattle.targets.specs.declared.targets.Aim.{Aim}
use Rattle.targets.proofs.targets.Laws.{target_of_lem, targets_floored}
use Rattle.sharing.specs.Sharing.{count}
use Rattle.sharing.specs.Shifts.{shifted_rows}
use Rattle.sharing.proofs.shifts.Laws.{held_adds, unheld_adds}
use Rattle.weighing.specs.Unheld.{point_count, point_for, unheld_at, unheld, unheld_answer}

-- ---- point_for

module _ (c : List ℕ) (limits : Limits) (n t i : ℕ) where
  pub point_term : i < t → point_for c limits n t i ≡ term_point c n i
  unfolding point_for
  point_term l = rw (lt-ltb i t l)

  pub point_constant : i ≡ t → point_for c limits n t i ≡ replicate n 0
  unfolding point_for
  point_constant e = rw (le-ltb i t (omega arith), le-ltb t i (omega arith))

  pub point_pure : (j : ℕ) → i ≡ suc t + j → point_for c limits n t i ≡ pure_at n j (limit_in limits j).power
  unfolding point_for
  point_pure j e =
      let k : i - suc t ≡ j = omega arith in
      rw (le-ltb i t (omega arith), lt-ltb t i (omega arith), k)

  -- what holds of the terms, the constant and pure powers holds of every point
  pub point_each : (P : Exponents → Type 0) → (i < t → P (term_point c n i)) → P (replicate n 0)
      → ((j : ℕ) → P (pure_at n j (limit_in limits j).power)) → P (point_for c limits n t i)
  unfolding point_for
  point_each P term constant pure = go (ltb i t) (ltb t i) refl
    where
      go : (b d : Bool) → ltb i t ≡ b → P (cond b (term_point c n i)
          (cond d (pure_at n (i - suc t) (limit_in limits (i - suc t)).power) (replicate n 0)))
      go true d e = term (ltb-true i t e)
      go false true e = pure (i - suc t)
      go false false e = constant

  pub point_sized : length (point_for c limits n t i) ≡ n
  point_sized =
      point_each (λ α. length α ≡ n) (λ l. point_length c n i) (length-replicate {A = ℕ} n 0)
      (λ j. pure_length n j (limit_in limits j).power)

-- ---- a point with no target, one that is held, and one that is neither

module _ (τ : Exponents → ℤ) (s : List ℕ) (α : Exponents) where
  zero_met : eqb (nat_abs (τ α)) 0 ≡ true → unheld_at τ s α ≡ false
  unfolding unheld_at
  zero_met h = rw h

  held_met : 0 < count α (slots (rows_of s)) → unheld_at τ s α ≡ false
  unfolding unheld_at
  held_met h = rw (ne_eqb (count α (slots (rows_of s))) 0 (λ q. omega arith)) (go (eqb (nat_abs (τ α)) 0))
    where
      go : (b : Bool) → not b && false ≡ false
      go true = refl
      go false = refl

-- ---- 16 is passed exactly where every point of n exponents has no target, or is held

met_zero : (τ : Exponents → ℤ) (s : List ℕ) (α : Exponents) → τ α ≡ pos 0 → unheld_at τ s α ≡ false
met_zero τ s α e = zero_met τ s α (eq-eqb _ 0 (ap nat_abs e))

module _ (c s : List ℕ) (a : Aim) where
  abbrev τ : Exponents → ℤ
  τ = target_of c a

  abbrev n : ℕ
  n = variables c

  abbrev t : ℕ
  t = term_count c

  -- at the points that are looked at
  pub none_passes : ((i : ℕ) → i < point_count n t → unheld c s a i ≡ false) → Passes (unheld_answer c s a)
  unfolding unheld_answer
  none_passes h =
      let none = all_right (unheld c s a) (point_count n t) h in
      accepted_passes _ 0 (sym (passed_at (accepted 0) None _ 16 _ none refl refl))

  pub passes_none : Passes (unheld_answer c s a) → (i : ℕ) → i < point_count n t → unheld c s a i ≡ false
  unfolding unheld_answer
  passes_none h = none_wrong _ (point_count n t) (passes_at _ 16 _ refl h).0

  pub unheld_passes : ((α : Exponents) → length α ≡ n → unheld_at τ s α ≡ false) → Passes (unheld_answer c s a)
  unfolding unheld
  unheld_passes h = none_passes (λ i l. h _ (point_sized c a.limits n t i))

  -- and at every other
  module _ (h : Passes (unheld_answer c s a)) where
    listed : (i : ℕ) → i < point_count n t → unheld_at τ s (point_for c a.limits n t i) ≡ false
    unfolding unheld
    listed i l = passes_none h i l

    listed_constant : unheld_at τ s (replicate n 0) ≡ false
    listed_constant = rw (point_constant c a.limits n t t refl) at (listed t (omega arith))

    listed_terms : All (λ x. unheld_at τ s x.0 ≡ false) (terms_of c)
    listed_terms =
        rw (← (terms_table c n t refl refl))
        (all_table (term_of c n t) (λ x. unheld_at τ s x.0 ≡ false) t
        (λ i l. rw (term_point_lem c n t i) (rw (point_term c a.limits n t i l) at (listed i (omega arith)))))

    listed_pure : (j : ℕ) → j < n → unheld_at τ s (pure_at n j (limit_in a.limits j).power) ≡ false
    listed_pure j l = rw (point_pure c a.limits n t (suc t + j) j refl) at (listed (suc t + j) (omega arith))

    -- a point outside the polynomial, its constant and the pure powers has no target
    elsewhere : (α : Exponents) → same_point α (replicate n 0) ≡ false → unheld_at τ s α ≡ true → ⊥
    elsewhere α apart wrong =
        let met : unheld_at τ s α ≡ false → ⊥ = λ q. true≢false (sym wrong ∙ q) in
        let none = coefficient_none (λ β. unheld_at τ s β ≡ false) α (terms_of c) listed_terms met in
        let free = limits_nothing n α (limit_in a.limits) n
        (λ j l. limit_apart n α j (limit_in a.limits j) apart (other j l met)) in
        met (met_zero τ s α (target_of_lem c a α
        ∙ target_zero _ a.scale _ α (lowered_other n a.floor (terms_of c) α apart ∙ none) free))
      where
        other : (j : ℕ) → j < n → (unheld_at τ s α ≡ false → ⊥)
            → same_point α (pure_at n j (limit_in a.limits j).power) ≡ false
        other j l met = go (same_point α (pure_at n j (limit_in a.limits j).power)) refl
          where
            go : (b : Bool) → same_point α (pure_at n j (limit_in a.limits j).power) ≡ b → b ≡ false
            go true e = absurd (met (rw (same_eq _ _ e) (listed_pure j l)))
            go false e = refl

    pub unheld_passed : (α : Exponents) → unheld_at τ s α ≡ false
    unheld_passed α = go (unheld_at τ s α) (same_point α (replicate n 0)) refl refl
      where
        go : (b e : Bool) → unheld_at τ s α ≡ b → same_point α (replicate n 0) ≡ e → b ≡ false
        go false e ea ee = refl
        go true true ea ee = absurd (true≢false (sym ea ∙ rw (same_eq _ _ ee) listed_constant))
        go true false ea ee = absurd (elsewhere α ee ea)

-- ---- and there the shifted weights add up to the targets

module _ (τ : Exponents → ℤ) (s : List ℕ) (α : Exponents) where
  pub met_adds : unheld_at τ s α ≡ false → coefficient α (slots (shifted_rows τ s)) ≡ τ α
  unfolding unheld_at
  met_adds h = go (dec_lt 0 (count α (slots (rows_of s)))) (eqb (nat_abs (τ α)) 0) refl
    where
      go : Dec (0 < count α (slots (rows_of s))) → (b : Bool) → eqb (nat_abs (τ α)) 0 ≡ b
          → coefficient α (slots (shifted_rows τ s)) ≡ τ α
      go (yes l) b e = held_adds τ s α l
      go (no l) true e = unheld_adds τ s α (omega arith) ∙ sym (abs_zero (τ α) (eqb-true _ 0 e))
      go (no l) false e = absurd (true≢false (rw (e, eq-eqb (count α (slots (rows_of s))) 0 (omega arith)) at h))

  pub adds_met : coefficient α (slots (shifted_rows τ s)) ≡ τ α → unheld_at τ s α ≡ false
  adds_met h = go (dec_lt 0 (count α (slots (rows_of s))))
    where
      go : Dec (0 < count α (slots (rows_of s))) → unheld_at τ s α ≡ false
      go (yes l) = held_met τ s α l
      go (no l) = met_zero τ s α (sym h ∙ unheld_adds τ s α (omega arith))

-- the claim's own floor is not read, since it is in the aim
module _ (c s : List ℕ) (a : Aim) (b : ℤ) where
  each_floored : unheld (with_floor c b) s a ≡ unheld c s a
  unfolding unheld point_for
  each_floored = fun_ext (λ i.
      rw (
        targets_floored c a b,
        floored_before c b 0 (omega arith),
        floored_before c b 1 (omega arith),
        floored_point c b (variables c) i,
      ))

  pub unheld_floored : unheld_answer (with_floor c b) s a ≡ unheld_answer c s a
  unfolding unheld_answer
  unheld_floored = rw (each_floored, floored_before c b 0 (omega arith), floored_before c b 1 (omega arith))

pub unheld_short : {limit : ℕ} (c s : List ℕ) (a : Aim) → 16 < limit → Bytes c → Short limit (unheld_answer c s a)
unfolding unheld_answer
unheld_short c s a h b =
    short_at 16 _ (omega arith) (short_accepted 0 (omega arith) (omega arith)) _ _ (omega (arith, b 0, b 1))
