-- The steps of the functions that find a target: the term with a key is the one at the point. A prime marks a number as
-- the machine reads it back.
use Rattle.std.proofs.Common.{Option, Some, None}
use mathlib.Core.Path.{◌≡◌, refl, sym, ◌∙◌, ap, ap₂}
use mathlib.Core.Bool.{Bool, true, false, cond}
use mathlib.Core.List.{List}
use Prim.Native.Nat.{ℕ, zero, suc, ◌+◌, ◌^◌, ◌<◌, ◌≤◌}
use native.Mathlib.Nat.{le_refl}
use native.Mathlib.Numerals.{add-one}
use native.Mathlib.Omega.{arith}
use lib.Dec.{eqb, lit<}
use lib.IntN.{ℤ, pos, nat_abs, ◌+ℤ◌, ◌-ℤ◌, ◌*ℤ◌, +ℤ_idr, +ℤ_idl}
use lib.ListN.{replicate}
use mir.Syntax.{w64}
use mir.Val.{SFits}
use mir.Facts.{to_z-of_z}
use Rattle.integers.proofs.Integers.{back, abs_add, fits_within}
use Rattle.bounds.specs.Bounds.{most_variables}
use Rattle.answers.specs.Searches.{first}
use Rattle.answers.proofs.searches.Laws.{first_start, first_here, first_stays, first_next, first_inside, first_stop, all_right}
use Rattle.points.specs.Lists.{table}
use Rattle.points.specs.Points.{Exponents, exponents, same_point, keeps_sign}
use Rattle.points.specs.declared.points.Point.{Point}
use Rattle.points.proofs.Lists.{table_none, table_more}
use Rattle.points.proofs.points.Laws.{same_eq, same_refl, apart_sym}
use Rattle.keys.specs.Keys.{key_of}
use Rattle.squares.specs.Sums.{Sum, coefficient}
use Rattle.squares.specs.Targets.{lowered, worst}
use Rattle.squares.proofs.Targets.{target_is, lowered_constant, lowered_other}
use Rattle.squares.proofs.Sums.{coefficient_nil, coefficient_cons, coefficient_append}
use Rattle.sheets.specs.Layout.{variables, term_count, mask_of}
use Rattle.sheets.specs.ClaimSheet.{term_point, coefficient_of, term_of, terms_of}
use Rattle.sheets.proofs.claim_sheet.Laws.{terms_table, term_point_lem, term_coefficient}
use Rattle.limits.specs.LimitChecks.{RightLimits}
use Rattle.limits.specs.Additions.{limits_add}
use Rattle.limits.proofs.additions.Laws.{limits_small, constant_tested, additions_are}
use Rattle.claims.specs.ClaimChecks.{ClaimFacts}
use Rattle.claims.proofs.claim_checks.Laws.{points_differ}
use Rattle.targets.specs.Targets.{AimWithin, Targeted, target_of, has_key, lowered_by, coefficient_found, coefficient_with, target_with}
use Rattle.targets.specs.Carried.{Carried}
use Rattle.targets.specs.declared.targets.Aim.{Aim}
use Rattle.targets.proofs.Carried.{term_carried, carried_below, carried_same}

-- ---- the term found by its key is the one at the point

module _ (c : List ℕ) (n t : ℕ) (facts : ClaimFacts c n t) (α : Exponents) (carried : Carried n α) where
  key_there : (i : ℕ) → i < t → has_key c n (key_of α) i ≡ same_point α (term_point c n i)
  unfolding has_key
  key_there i l = carried_same n α (term_point c n i) carried (term_carried c n t i facts l)

  abbrev terms : ℕ → Sum
  terms m = table (term_of c n t) m

  here : ℕ → Bool
  here = has_key c n (key_of α)

  -- one term more
  term_more : (m : ℕ) → m < t
      → coefficient α (terms (suc m)) ≡ coefficient α (terms m) +ℤ cond (here m) (coefficient_of c n t m) (pos 0)
  unfolding here
  term_more m l =
      rw (table_more (term_of c n t) m, coefficient_append, coefficient_cons, coefficient_nil)
      (rw (term_point_lem, term_coefficient, key_there m l, +ℤ_idr))

  -- a later term is at another point
  later : (i m : ℕ) → m < t → first here m ≡ Some i → here m ≡ false
  unfolding here
  later i m l e =
      let f = first_inside here m i e in
      let q : α ≡ term_point c n i = same_eq α (term_point c n i) (sym (key_there i (omega arith)) ∙ f.1) in
      key_there m l ∙ rw q (points_differ c n t facts i m f.0 l)

  found_coefficient : (m : ℕ) → m ≤ t → coefficient_found c n t (first here m) ≡ coefficient α (terms m)
  unfolding coefficient_found
  found_coefficient zero l = rw (first_start here, table_none, coefficient_nil)
  found_coefficient (suc m) l =
      go (first here m) refl (here m) refl (found_coefficient m (omega arith)) ∙ sym (term_more m l)
    where
      go : (f : Option ℕ) → first here m ≡ f → (b : Bool) → here m ≡ b
          → coefficient_found c n t (first here m) ≡ coefficient α (terms m)
          → coefficient_found c n t (first here (suc m))
          ≡ coefficient α (terms m) +ℤ cond (here m) (coefficient_of c n t m) (pos 0)
      go (Some i) e b h ih =
          rw (first_stays here m i e, later i m l e, +ℤ_idr) (rw e at ih)
      go None e true h ih =
          rw (first_here here m e h, h, ← ih, e) (sym (+ℤ_idl (coefficient_of c n t m)))
      go None e false h ih =
          let s : first here (suc m) ≡ None = rw add-one at (first_next here m false e (sym h) refl) in
          rw (s, h, ← ih, e)

  -- the coefficient at a key is that of the polynomial at the point, and that of a term the one at its point
  coefficient_found_lem : coefficient_with c n t (key_of α) ≡ coefficient α (terms t)
  unfolding coefficient_with here
  coefficient_found_lem = found_coefficient t (omega arith)

  term_there : (i : ℕ) → i < t → α ≡ term_point c n i → coefficient_of c n t i ≡ coefficient α (terms t)
  unfolding coefficient_found here
  term_there i l e = ap (coefficient_found c n t) found ∙ found_coefficient t (omega arith)
    where
      earlier : (j : ℕ) → j < i → here j ≡ false
      earlier j m = key_there j (omega arith) ∙ rw e (apart_sym _ _ (points_differ c n t facts j i m l))

      found : Some i ≡ first here t
      found =
          first_stop here t i true l (sym (all_right here i earlier))
          (sym (key_there i l ∙ rw e (same_refl (term_point c n i)))) refl

  -- the target, from the coefficient of the polynomial
  target_here : (a : Aim) (x : ℤ) → n ≡ variables c → t ≡ term_count c → x ≡ coefficient α (terms t)
      → RightLimits a.limits → target_with n (mask_of c) a α (key_of α) x ≡ target_of c a α
  unfolding target_with target_of lowered_by
  target_here a x en et ex right =
      rw (ex, terms_table c n t en et, target_is, ← en)
      (ap₂ ◌+ℤ◌
      (ap (λ (y : ℤ). pos a.scale *ℤ worst (keeps_sign (mask_of c) α) y) (go (same_point α (replicate n 0)) refl))
      (additions_are n α carried.sized (carried_below n α carried) a.limits right n (le_refl n)))
    where
      f : Sum
      f = terms_of c

      there : eqb (key_of α) 0 ≡ same_point α (replicate n 0)
      there = constant_tested n α carried.sized (carried_below n α carried)

      go : (k : Bool) → same_point α (replicate n 0) ≡ k
          → cond (eqb (key_of α) 0) (coefficient α f -ℤ a.floor) (coefficient α f)
          ≡ coefficient α (lowered n a.floor f)
      go true e = rw (there, e) (sym (lowered_constant n a.floor f α e))
      go false e = rw (there, e) (sym (lowered_other n a.floor f α e))

-- ---- target_with: x is the coefficient, y the same with the floor taken from it, z with the worst sign, r that times
-- the scale, s what the limits add

module _ (n key : ℕ) (a : Aim) (r r' s s' : ℤ) (es : s ≡ limits_add a.limits key n) (br : r' ≡ r) (bs : s' ≡ s)
    (small : nat_abs r ≤ 2 ^ 51) (few : n ≤ most_variables) (within : AimWithin a) where
  sum_small : nat_abs (r' +ℤ s') ≤ 2 ^ 51 + 2 ^ 59
  sum_small =
      rw (br, bs, es) (omega (
        arith,
        abs_add r (limits_add a.limits key n),
        limits_small a.limits key within.limits_right n,
      ))

  pub sum_fits : SFits w64 (r' +ℤ s')
  sum_fits = fits_within (r' +ℤ s') (2 ^ 51 + 2 ^ 59) sum_small (lit< tt)

  pub with_small : nat_abs (back (r' +ℤ s')) ≤ 2 ^ 51 + 2 ^ 59
  with_small = rw (to_z-of_z sum_fits) sum_small

  pub with_made : (mask : ℕ) (p : Point) (k : Bool) (x x' y y' z z' : ℤ)
      → r ≡ pos a.scale *ℤ z' → z ≡ worst k y' → y ≡ lowered_by a key x' → k ≡ keeps_sign mask (exponents p)
      → z' ≡ z → y' ≡ y → x' ≡ x → back (r' +ℤ s') ≡ target_with n mask a (exponents p) key x
  unfolding target_with
  with_made mask p k x x' y y' z z' er ez ey ek bz by bx =
      to_z-of_z sum_fits ∙ rw (br, bs, es, er, bz, ez, ek, by, ey, bx)

-- ---- target_at and term_target: m is the mask, x the coefficient, r the target

module _ (c : List ℕ) (n t : ℕ) (en : n ≡ variables c) (et : t ≡ term_count c) (a : Aim) (α : Exponents) (key : ℕ)
    (given : Targeted c a α key) where
  pub facts_here : ClaimFacts c n t
  facts_here = rw (en, et) given.claim

  carried : Carried n α
  carried = rw en given.point

  module _ (m : ℕ) (em : m ≡ mask_of c) (x x' r r' : ℤ) (er : r ≡ target_with n m a α key x') (br : r' ≡ r)
      (bx : x' ≡ x) where
    made : x ≡ coefficient α (table (term_of c n t) t) → r' ≡ target_of c a α
    made ex =
        br ∙ er ∙ rw (em, bx, given.keyed)
        (target_here c n t facts_here α carried a x en et ex given.aim.limits_right)

    pub target_made : x ≡ coefficient_with c n t key → r' ≡ target_of c a α
    target_made ex = made (ex ∙ rw given.keyed (coefficient_found_lem c n t facts_here α carried))

    pub term_made : (i : ℕ) → x ≡ coefficient_of c n t i → i < term_count c → α ≡ term_point c (variables c) i
        → r' ≡ target_of c a α
    term_made i ex l e =
        let l' : i < t = rw et l in
        made (ex ∙ term_there c n t facts_here α carried i l' (rw en e))
