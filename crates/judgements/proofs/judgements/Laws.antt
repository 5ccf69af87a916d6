-- Laws of judgements: rows pass 17 to 19 exactly where they are within the limit and hold.
use Rattle.std.proofs.Common.{None}
use mathlib.Core.Path.{◌≡◌, refl, sym}
use mathlib.Core.Bool.{Bool, true, false, cond, ◌||◌, false≢true}
use Prim.Native.Nat.{ℕ, ◌≤◌, ◌<◌}
use native.Mathlib.Omega.{arith}
use lib.Dec.{eqb}
use lib.IntN.{ℤ, pos, ◌*ℤ◌}
use lib.Signed.{lt_z, ◌≤ℤ◌}
use borrow.Author.Tests.{eqb-true, eqb-false, ne_eqb}
use Rattle.integers.proofs.Integers.{lt_z_false, le_lt_z}
use Rattle.integers.proofs.Tests.{never}
use Rattle.bounds.specs.Bounds.{beyond}
use Rattle.bounds.proofs.bounds.Laws.{within_bound, bound_within}
use Rattle.answers.specs.Answers.{accepted, Passes, Short}
use Rattle.answers.specs.Searches.{first}
use Rattle.answers.proofs.answers.Laws.{passes_at, passed_at, short_accepted, short_at}
use Rattle.answers.proofs.searches.Laws.{none_wrong, all_right}
use Rattle.squares.specs.Rows.{Row}
use Rattle.squares.specs.Rows as Formal
use Rattle.squares.specs.declared.rows.Weights.{Weights}
use Rattle.squares.specs.declared.rows.Weights.TheVariants.{Pair, Lone}
use Rattle.rows.specs.ProofSheet.{triple_for}
use Rattle.rows.specs.declared.proof_sheet.Triple.{Triple}
use Rattle.rows.proofs.proof_sheet.Laws.{for_lone, for_pair}
use Rattle.checks.specs.ProofChecks.{any_beyond, Within}
use Rattle.checks.proofs.proof_checks.Laws.{none_beyond, within_none}
use Rattle.judgements.specs.Judgements.{negative, indefinite, judge_pair, judge_lone, judgement_of, number_of, judged_as, firsts_to, judged_answer}
use Rattle.judgements.specs.declared.judgements.Judgement.{Judgement}
use Rattle.judgements.specs.declared.judgements.Judgement.TheVariants.{Holds, Beyond, Negative, Indefinite}

-- whether it holds, by its judgement
pub holds_judged_as : (limit : ℕ) (row : ℕ → Row) (i : ℕ) (j : Judgement) → j ≡ judgement_of limit (row i).weights
    → eqb (number_of j) 0 ≡ judged_as 0 limit row i
unfolding judged_as
holds_judged_as limit row i j e = rw e

-- ---- a row is judged to hold exactly where its weights are within the limit and it holds

not_negative : (x : ℤ) → pos 0 ≤ℤ x → negative x ≡ false
unfolding negative
not_negative x h = le_lt_z h

pair_judged : (limit : ℕ) (x : Triple) → judge_pair limit x ≡ Holds
    → Within limit x × Formal.Holds (Pair x.p x.q x.r)
unfolding judge_pair negative indefinite
pair_judged limit x h =
    go (any_beyond limit x) (lt_z x.p (pos 0)) (lt_z x.q (pos 0)) (lt_z (x.p *ℤ x.q *ℤ pos 4) (x.r *ℤ x.r))
    refl refl refl refl h
  where
    go : (a b d e : Bool) → any_beyond limit x ≡ a → lt_z x.p (pos 0) ≡ b → lt_z x.q (pos 0) ≡ d
        → lt_z (x.p *ℤ x.q *ℤ pos 4) (x.r *ℤ x.r) ≡ e
        → ◌≡◌ {A = Judgement} (cond a Beyond (cond (b || d) Negative (cond e Indefinite Holds))) Holds
        → Within limit x × Formal.Holds (Pair x.p x.q x.r)
    go true b d e ea eb ed ee k = never (cc)
    go false true d e ea eb ed ee k = never (cc)
    go false false true e ea eb ed ee k = never (cc)
    go false false false true ea eb ed ee k = never (cc)
    go false false false false ea eb ed ee k =
        (none_beyond limit x ea, (lt_z_false _ _ eb, lt_z_false _ _ ed, lt_z_false _ _ ee))

lone_judged : (limit : ℕ) (p : ℤ) → judge_lone limit p ≡ Holds
    → Within limit (record { p = p; q = pos 0; r = pos 0 }) × (pos 0 ≤ℤ p)
unfolding judge_lone negative
lone_judged limit p h = go (beyond limit p) (lt_z p (pos 0)) refl refl h
  where
    go : (a b : Bool) → beyond limit p ≡ a → lt_z p (pos 0) ≡ b
        → ◌≡◌ {A = Judgement} (cond a Beyond (cond b Negative Holds)) Holds
        → Within limit (record { p = p; q = pos 0; r = pos 0 }) × (pos 0 ≤ℤ p)
    go true b ea eb k = never (cc)
    go false true ea eb k = never (cc)
    go false false ea eb k = (
      record { p_within = within_bound limit p ea; q_within = omega arith; r_within = omega arith },
      lt_z_false _ _ eb,
    )

judged_holds : (limit : ℕ) (a : Weights) → judgement_of limit a ≡ Holds → Within limit (triple_for a) × Formal.Holds a
unfolding judgement_of
judged_holds limit (Pair p q r) h = rw (← for_pair (Pair p q r) p p q q r r refl refl refl refl) (pair_judged limit _ h)
judged_holds limit (Lone p) h = rw (← for_lone (Lone p) p p refl refl) (lone_judged limit p h)

holds_judged : (limit : ℕ) (a : Weights) → Within limit (triple_for a) → Formal.Holds a → judgement_of limit a ≡ Holds
unfolding judgement_of judge_pair judge_lone indefinite
holds_judged limit (Pair p q r) w h =
    let v : Within limit (record { p = p; q = q; r = r }) =
    rw (for_pair (Pair p q r) p p q q r r refl refl refl refl) w in
    rw (within_none limit _ v, not_negative p h.0, not_negative q h.1, le_lt_z h.2)
holds_judged limit (Lone p) w h =
    let v : Within limit (record { p = p; q = pos 0; r = pos 0 }) = rw (for_lone (Lone p) p p refl refl) w in
    rw (bound_within limit p v.p_within, not_negative p h)

-- ---- and all are exactly where 17 to 19 are passed

numbered : (j : Judgement) → eqb (number_of j) 17 ≡ false → eqb (number_of j) 18 ≡ false → eqb (number_of j) 19 ≡ false
    → j ≡ Holds
unfolding number_of
numbered Holds a b d = refl
numbered Beyond a b d = absurd (eqb-false 17 17 a refl)
numbered Negative a b d = absurd (eqb-false 18 18 b refl)
numbered Indefinite a b d = absurd (eqb-false 19 19 d refl)

zero_holds : (j : Judgement) → eqb (number_of j) 0 ≡ true → j ≡ Holds
unfolding number_of
zero_holds Holds h = refl
zero_holds Beyond h = absurd (false≢true h)
zero_holds Negative h = absurd (false≢true h)
zero_holds Indefinite h = absurd (false≢true h)

module _ (limit : ℕ) (row : ℕ → Row) (k : ℕ) where
  pub each_holds : Passes (judged_answer (firsts_to limit row k) k) → (i : ℕ) → i < k
      → judged_as 0 limit row i ≡ true
  unfolding judged_answer firsts_to judged_as number_of
  each_holds h i l =
      let a = passes_at _ 17 _ refl h in
      let b = passes_at _ 18 _ refl a.1 in
      let d = passes_at _ 19 _ refl b.1 in
      rw (numbered (judgement_of limit (row i).weights) (none_wrong _ k a.0 i l) (none_wrong _ k b.0 i l)
      (none_wrong _ k d.0 i l))

  pub judged_passed : Passes (judged_answer (firsts_to limit row k) k) → (i : ℕ) → i < k
      → Within limit (triple_for (row i).weights) × Formal.Holds (row i).weights
  unfolding judged_as
  judged_passed h i l = judged_holds limit (row i).weights (zero_holds _ (each_holds h i l))

  not_judged : (number i : ℕ) → eqb 0 number ≡ false → judged_as 0 limit row i ≡ true
      → judged_as number limit row i ≡ false
  unfolding judged_as
  not_judged number i z h = rw (eqb-true (number_of (judgement_of limit (row i).weights)) 0 h) z

  pub holds_accepted : ((i : ℕ) → i < k → judged_as 0 limit row i ≡ true)
      → judged_answer (firsts_to limit row k) k ≡ accepted k
  unfolding judged_answer firsts_to
  holds_accepted h =
      sym
      (passed_at _ None _ 17 _ (none 17 (ne_eqb 0 17 (λ q. omega arith))) refl
      (passed_at _ None _ 18 _ (none 18 (ne_eqb 0 18 (λ q. omega arith))) refl
      (passed_at _ None _ 19 _ (none 19 (ne_eqb 0 19 (λ q. omega arith))) refl refl)))
    where
      none : (number : ℕ) → eqb 0 number ≡ false → None ≡ first (judged_as number limit row) k
      none number z = all_right _ k (λ i l. not_judged number i z (h i l))

  pub judged_accepted : ((i : ℕ) → i < k → Within limit (triple_for (row i).weights) × Formal.Holds (row i).weights)
      → judged_answer (firsts_to limit row k) k ≡ accepted k
  unfolding judged_as number_of
  judged_accepted h =
      holds_accepted (λ i l. let w = h i l in rw (holds_judged limit (row i).weights w.0 w.1))

pub judged_short : {m : ℕ} (limit : ℕ) (row : ℕ → Row) (k : ℕ) → 19 < m → k < 65536
    → Short m (judged_answer (firsts_to limit row k) k)
unfolding judged_answer firsts_to
judged_short limit row k h l =
    let few : k ≤ 65536 = omega arith in
    short_at 17 _ (omega arith)
    (short_at 18 _ (omega arith)
    (short_at 19 _ h (short_accepted k (omega arith) l) _ _ few) _ _ few) _ _ few
