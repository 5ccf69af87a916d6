-- Laws of the checks 24 and 25: how large a power is, the test of a limit and its words, what it says of a sheet that
-- it passes them, and how short their answers are.
use mathlib.Core.Path.{◌≡◌, refl, sym, ◌∙◌}
use mathlib.Core.Bool.{Bool, true, false, not, and-eq-true_iff}
use mathlib.Core.List.{List}
use mathlib.Core.Logic.{◌⊎◌, inl, inr, ◌↔◌}
use Prim.Native.Nat.{ℕ, ◌<◌, ◌≤◌}
use native.Mathlib.Decide.{ℕ_discrete, dec_lt}
use native.Mathlib.Omega.{arith}
use lib.ListN.{length}
use borrow.Author.Tests.{eq-eqb, ne_eqb, eqb-true, le-leb, leb-true, not-false}
use Rattle.bounds.specs.Bounds.{most_variables}
use Rattle.answers.specs.Answers.{accepted, refuse_at, Passes, Short}
use Rattle.answers.specs.Searches.{first}
use Rattle.answers.proofs.answers.Laws.{number_accepted, number_if, number_at, passes_if, passes_at, if_on, at_on, accepted_passes, short_accepted, short_if, short_at}
use Rattle.answers.proofs.searches.Laws.{none_wrong, all_right}
use Rattle.squares.specs.declared.limits.Limit.{Limit}
use Rattle.sheets.specs.Layout.{limits_length, LimitsRoom}
use Rattle.limits.specs.LimitsSheet.{limit_of, limits_of, limit_in, no_limits}
use Rattle.limits.specs.LimitChecks.{limits_shaped, IsLimited, RightLimit, power_right, limit_right, limit_breaks, limits_answer, RightLimits, LimitsNone}
use Rattle.limits.proofs.limits_sheet.Laws.{limit_read, limit_past, none_length, none_variables, none_limit, none_unlimited}

-- ---- powers

pub power_some : (l : Limit) → IsLimited l → (0 < l.power) × (l.power ≤ 4)
power_some l h = go h.right_power
  where
    go : (l.power ≡ 2) ⊎ (l.power ≡ 4) → (0 < l.power) × (l.power ≤ 4)
    go (inl e) = (omega arith, omega arith)
    go (inr e) = (omega arith, omega arith)

pub power_low : (l : Limit) → RightLimit l → l.power ≤ 4
power_low l (inl u) = omega (arith, u.power_none)
power_low l (inr h) = (power_some l h).1

-- ---- the test and its words

power_means : (p : ℕ) → (power_right p ≡ true) ↔ ((p ≡ 2) ⊎ (p ≡ 4))
unfolding power_right
power_means p = (go (ℕ_discrete p 2), from)
  where
    go : Dec (p ≡ 2) → power_right p ≡ true → (p ≡ 2) ⊎ (p ≡ 4)
    go (yes e) t = inl e
    go (no d) t = inr (eqb-true p 4 (rw (ne_eqb p 2 d) at t))

    from : (p ≡ 2) ⊎ (p ≡ 4) → power_right p ≡ true
    from (inl e) = rw (eq-eqb p 2 e)
    from (inr e) = rw e

module _ (l : Limit) where
  unlimited_means : l.power ≡ 0 → (limit_right l ≡ true) ↔ RightLimit l
  unfolding limit_right
  unlimited_means z = (to, from)
    where
      to : limit_right l ≡ true → RightLimit l
      to t =
          let q = (and-eq-true_iff _ _).0 (rw (eq-eqb l.power 0 z) at t) in
          inl (record { power_none = z; bound_none = eqb-true _ _ q.0; multiplier_none = eqb-true _ _ q.1 })

      from : RightLimit l → limit_right l ≡ true
      from (inl u) = rw (eq-eqb l.power 0 z, eq-eqb _ 0 u.bound_none, eq-eqb _ 0 u.multiplier_none)
      from (inr h) = absurd (omega (arith, (power_some l h).0))

  limited_means : (l.power ≡ 0 → ⊥) → (limit_right l ≡ true) ↔ RightLimit l
  unfolding limit_right
  limited_means d = (to, from)
    where
      to : limit_right l ≡ true → RightLimit l
      to t =
          let a = (and-eq-true_iff _ _).0 (rw (ne_eqb l.power 0 d) at t) in
          let b = (and-eq-true_iff _ _).0 a.0 in
          let c = (and-eq-true_iff _ _).0 b.0 in
          inr (record {
            right_power = (power_means l.power).0 c.0;
            bound_some = leb-true _ _ c.1;
            bound_within = leb-true _ _ b.1;
            multiplier_within = leb-true _ _ a.1;
          })

      from : RightLimit l → limit_right l ≡ true
      from (inl u) = absurd (d u.power_none)
      from (inr h) =
          rw (
            ne_eqb l.power 0 d,
            (power_means l.power).1 h.right_power,
            le-leb _ _ h.bound_some,
            le-leb _ _ h.bound_within,
            le-leb _ _ h.multiplier_within,
          )

  pub limit_means : (limit_right l ≡ true) ↔ RightLimit l
  limit_means = go (ℕ_discrete l.power 0)
    where
      go : Dec (l.power ≡ 0) → (limit_right l ≡ true) ↔ RightLimit l
      go (yes z) = unlimited_means z
      go (no d) = limited_means d

  -- r is the test that finds a fault
  pub limit_says : (r : Bool) → r ≡ not (limit_right l) → (r ≡ false) ↔ RightLimit l
  limit_says r e = (λ h. limit_means.0 (not-false _ (sym e ∙ h)), λ h. e ∙ rw (limit_means.1 h))

-- ---- a sheet that passes 24 and 25

pub shaped_room : (n : ℕ) (l : List ℕ) → limits_shaped n l ≡ true → n ≤ most_variables → LimitsRoom l n
unfolding limits_shaped
shaped_room n l t few =
    let sized : length l ≡ limits_length n = eqb-true _ _ ((and-eq-true_iff _ _).0 t).0 in
    record { few = few; long = omega arith }

pub limits_room : (n : ℕ) (l : List ℕ) → n ≤ most_variables → Passes (limits_answer n l) → LimitsRoom l n
unfolding limits_answer
limits_room n l few h = shaped_room n l (not-false _ (passes_if _ 24 _ refl h).0) few

pub limits_sized : (n : ℕ) (l : List ℕ) → Passes (limits_answer n l) → length l ≡ limits_length n
unfolding limits_answer limits_shaped
limits_sized n l h = eqb-true _ _ ((and-eq-true_iff _ _).0 (not-false _ (passes_if _ 24 _ refl h).0)).0

pub limits_right : (n : ℕ) (l : List ℕ) → Passes (limits_answer n l) → RightLimits (limits_of l n)
unfolding limits_answer limit_breaks
limits_right n l h = record { right = λ i. go i (dec_lt i n) }
  where
    passed : (i : ℕ) → i < n → limit_breaks l n i ≡ false
    passed =
        let later = refuse_at (first (limit_breaks l n) n) 25 (accepted 0) in
        none_wrong _ n (passes_at _ 25 _ refl (passes_if (not (limits_shaped n l)) 24 later refl h).1).0

    go : (i : ℕ) → Dec (i < n) → RightLimit (limit_in (limits_of l n) i)
    go i (yes k) = rw (limit_read l n i k) ((limit_means (limit_of l n i)).0 (not-false _ (passed i k)))
    go i (no k) = inl (limit_past l n i (omega arith))

-- every number is document 02's, and an index is below the number of variables
pub limits_short : {limit : ℕ} (n : ℕ) (l : List ℕ) → 25 < limit → n ≤ 65536 → Short limit (limits_answer n l)
unfolding limits_answer
limits_short n l h k =
    short_if 24 _ (omega arith)
    (short_at 25 _ (omega arith) (short_accepted 0 (omega arith) (omega arith)) _ _ (omega arith)) _

-- a search says 23 of its own
pub limits_other : (n : ℕ) (l : List ℕ) → (limits_answer n l).number ≡ 23 → ⊥
unfolding limits_answer
limits_other n l =
    let Other : ℕ → Type 0 = λ m. m ≡ 23 → ⊥ in
    number_if Other _ 24 _ (λ e. omega arith)
    (number_at Other _ 25 _ (λ e. omega arith) (number_accepted Other 0 (λ e. omega arith)))

-- ---- the sheet that limits no variable

none_passes : (n : ℕ) → Passes (limits_answer n (no_limits n))
unfolding limits_answer limit_breaks limits_shaped
none_passes n =
    accepted_passes _ 0
    (if_on _ 24 _ (rw (eq-eqb _ _ (none_length n), eq-eqb _ _ (none_variables n)))
    ∙ at_on _ 25 _ (sym (all_right _ n
    (λ i k. rw ((limit_means (limit_of (no_limits n) n i)).1 (inl (none_limit n n i)))))))

pub none_limited : (n : ℕ) → LimitsNone n (no_limits n)
none_limited n = record { passes = none_passes n; unlimited = none_unlimited n }
