-- Laws of the checks 8 to 10 and 12 to 15: what it says of a proof that it passes them, that it passes them under
-- another profile, and how short its answers are.
use Rattle.std.proofs.Common.{None}
use mathlib.Core.Path.{◌≡◌, refl, sym}
use mathlib.Core.Bool.{Bool, true, false, not, ◌&&◌, false≢true, and-eq-true_iff}
use mathlib.Core.List.{List}
use Prim.Native.Nat.{ℕ, ◌<◌, ◌≤◌}
use native.Mathlib.Omega.{arith}
use lib.Dec.{eqb, ltb, leb}
use lib.IntN.{pos}
use lib.ListN.{length, get_or}
use borrow.Author.Tests.{leb-true, le-leb, eqb-true, not-false}
use Rattle.integers.proofs.Integers.{abs_zero}
use Rattle.integers.specs.Words.{Bytes}
use Rattle.integers.proofs.Tests.{nor, nand}
use Rattle.bounds.specs.Bounds.{most_variables, most_rows, greatest_exponent}
use Rattle.bounds.specs.Profiles.{InRange}
use Rattle.bounds.specs.declared.profiles.Profile.{Profile}
use Rattle.bounds.proofs.bounds.Laws.{within_bound, bound_within}
use Rattle.answers.specs.Answers.{Passes, Short}
use Rattle.answers.specs.Searches.{first}
use Rattle.answers.proofs.answers.Laws.{passes_if, passes_at, at_on, accepted_passes, short_accepted, short_if, short_at}
use Rattle.answers.proofs.searches.Laws.{none_wrong, all_right}
use Rattle.points.specs.Points.{same_point, has_midpoint, exponents_within}
use Rattle.points.proofs.points.Laws.{within_larger}
use Rattle.sheets.specs.Layout.{variables, row_count, shape_of, proof_length}
use Rattle.sheets.specs.declared.layout.Shape.{Shape}
use Rattle.rows.specs.ProofSheet.{v_of, w_of, triple_of}
use Rattle.rows.specs.declared.proof_sheet.Triple.{Triple}
use Rattle.checks.specs.ProofChecks.{proof_header_right, header_answer, q_or_r, any_beyond, exponent_breaks, midpoint_breaks, unused_breaks, weight_breaks, rows_answer, Within, HeaderFacts, ProofFacts}

-- ---- what each check says that is passed

-- three weights, none of which is beyond a limit
module _ (limit : ℕ) (x : Triple) where
  pub none_beyond : any_beyond limit x ≡ false → Within limit x
  unfolding any_beyond
  none_beyond h =
      let y = nor _ _ h in
      let z = nor _ _ y.0 in
      record {
        p_within = within_bound _ _ z.0;
        q_within = within_bound _ _ z.1;
        r_within = within_bound _ _ y.1;
      }

  pub within_none : Within limit x → any_beyond limit x ≡ false
  unfolding any_beyond
  within_none w =
      rw (
        bound_within limit x.p w.p_within,
        bound_within limit x.q w.q_within,
        bound_within limit x.r w.r_within,
      )

-- within a limit, and so within a larger one
pub triple_larger : (limit larger : ℕ) → limit ≤ larger → (x : Triple) → Within limit x → Within larger x
triple_larger limit larger l x w = record {
  p_within = omega (arith, w.p_within, l);
  q_within = omega (arith, w.q_within, l);
  r_within = omega (arith, w.r_within, l);
}

module _ (s : List ℕ) (sh : Shape) (i : ℕ) where
  abbrev pub Ends : ℕ → Type 0
  Ends limit = (exponents_within limit (v_of s sh i) ≡ true) × (exponents_within limit (w_of s sh i) ≡ true)

  ends_facts : (limit : ℕ) → exponent_breaks limit s sh i ≡ false → Ends limit
  unfolding exponent_breaks
  ends_facts limit h = let z = nor _ _ h in (not-false _ z.0, not-false _ z.1)

  ends_larger : (limit larger : ℕ) → limit ≤ larger → Ends limit → Ends larger
  ends_larger limit larger l h = (within_larger limit larger l _ h.0, within_larger limit larger l _ h.1)

  ends_break : (limit : ℕ) → Ends limit → exponent_breaks limit s sh i ≡ false
  unfolding exponent_breaks
  ends_break limit h = rw (h.0, h.1)

  whole_fact : midpoint_breaks s sh i ≡ false → has_midpoint (v_of s sh i) (w_of s sh i) ≡ true
  unfolding midpoint_breaks
  whole_fact h = not-false _ h

  unused_facts : unused_breaks s sh i ≡ false → same_point (v_of s sh i) (w_of s sh i) ≡ true
      → ((triple_of s sh i).q ≡ pos 0) × ((triple_of s sh i).r ≡ pos 0)
  unfolding unused_breaks q_or_r
  unused_facts h e =
      let z = nor _ _ (nand (same_point (v_of s sh i) (w_of s sh i)) _ h e) in
      (abs_zero _ (eqb-true _ _ (not-false _ z.0)), abs_zero _ (eqb-true _ _ (not-false _ z.1)))

  weights_fact : (limit : ℕ) → weight_breaks limit s sh i ≡ false → Within limit (triple_of s sh i)
  unfolding weight_breaks
  weights_fact limit h = none_beyond limit _ h

  weights_break : (limit : ℕ) → Within limit (triple_of s sh i) → weight_breaks limit s sh i ≡ false
  unfolding weight_breaks
  weights_break limit w = within_none limit _ w

-- byte 1
pub unused_zero : (limit n : ℕ) (s : List ℕ) → Passes (header_answer limit n s) → get_or s 1 0 ≡ 0
unfolding header_answer proof_header_right
unused_zero limit n s h =
    let p = passes_if _ 9 _ refl (passes_if _ 8 _ refl h).1 in
    let d = (and-eq-true_iff _ _).0 (not-false _ p.0) in
    let f = (and-eq-true_iff _ _).0 ((and-eq-true_iff _ _).0 d.0).0 in
    eqb-true (get_or s 1 0) 0 ((and-eq-true_iff (eqb (variables s) n) _).0 f.0).1

-- 8 to 10, beside a claim of n variables
pub header_facts : (limit n : ℕ) (s : List ℕ) → limit ≤ most_rows → 1 ≤ n → n ≤ most_variables
    → Passes (header_answer limit n s) → (variables s ≡ n) × HeaderFacts s (shape_of s)
unfolding header_answer proof_header_right
header_facts limit n s most some few h =
    let p₈ = passes_if _ 8 _ refl h in
    let p₉ = passes_if _ 9 _ refl p₈.1 in
    let p₁₀ = passes_if _ 10 _ refl p₉.1 in
    let d = (and-eq-true_iff _ _).0 (not-false _ p₉.0) in
    let e = (and-eq-true_iff _ _).0 d.0 in
    let f = (and-eq-true_iff _ _).0 e.0 in
    let same = eqb-true (variables s) n ((and-eq-true_iff _ _).0 f.0).0 in
    let sized = eqb-true (length s) (proof_length (shape_of s)) (not-false _ p₁₀.0) in (
      same,
      record {
        some = rw same some;
        room = record {
          few = rw same few;
          rows = omega (arith, leb-true (row_count s) limit f.1);
          long = omega arith;
        };
        sized = sized;
        scale_positive = leb-true _ _ e.1;
        scale_within = leb-true _ _ d.1;
      },
    )

-- under another limit that the rows keep

one_true : (a b d e : Bool) → a && b && d && e ≡ true → b ≡ true
one_true true true d e h = refl
one_true true false d e h = absurd (false≢true h)
one_true false b d e h = absurd (false≢true h)

one_other : (a b b' d e : Bool) → b' ≡ true → a && b && d && e ≡ true → a && b' && d && e ≡ true
one_other true true b' d e f h = rw f h
one_other true false b' d e f h = absurd (false≢true h)
one_other false b b' d e f h = absurd (false≢true h)

header_other_limit : (limit other n : ℕ) (s : List ℕ) → row_count s ≤ other → proof_header_right limit n s ≡ true
    → proof_header_right other n s ≡ true
unfolding proof_header_right
header_other_limit limit other n s l =
    one_other (eqb (variables s) n && eqb (get_or s 1 0) 0) (leb (row_count s) limit) _ _ _ (le-leb (row_count s) other l)

module _ (limit n : ℕ) (s : List ℕ) (h : Passes (header_answer limit n s)) where
  header_right : proof_header_right limit n s ≡ true
  unfolding header_answer
  header_right = not-false _ (passes_if _ 9 _ refl (passes_if _ 8 _ refl h).1).0

  pub rows_few : row_count s ≤ limit
  unfolding proof_header_right
  rows_few =
      leb-true (row_count s) limit
      (one_true (eqb (variables s) n && eqb (get_or s 1 0) 0) (leb (row_count s) limit) _ _ header_right)

  pub header_under : (other : ℕ) → row_count s ≤ other → Passes (header_answer other n s)
  unfolding header_answer
  header_under other l =
      let p₈ = passes_if (ltb (length s) 8) 8 _ refl h in
      let p₉ = passes_if (not (proof_header_right limit n s)) 9 _ refl p₈.1 in
      rw (p₈.0, header_other_limit limit other n s l header_right) p₉.1

-- ---- 12 to 15 are passed exactly where each is

module _ (s : List ℕ) (π : Profile) (sh : Shape) where
  abbrev Unbroken : (List ℕ → Shape → ℕ → Bool) → Type 0
  Unbroken breaks = first (breaks s sh) sh.k ≡ None

  record Rows : Type 0 where
    ends : Unbroken (exponent_breaks π.exponent)
    whole : Unbroken midpoint_breaks
    unused : Unbroken unused_breaks
    weights : Unbroken (weight_breaks π.weight)

  rows_parts : Passes (rows_answer s π sh) → Rows
  unfolding rows_answer
  rows_parts h =
      let p₁₂ = passes_at _ 12 _ refl h in
      let p₁₃ = passes_at _ 13 _ refl p₁₂.1 in
      let p₁₄ = passes_at _ 14 _ refl p₁₃.1 in
      let p₁₅ = passes_at _ 15 _ refl p₁₄.1 in
      record { ends = p₁₂.0; whole = p₁₃.0; unused = p₁₄.0; weights = p₁₅.0 }

  parts_rows : Rows → Passes (rows_answer s π sh)
  unfolding rows_answer
  parts_rows p =
      rw (
        at_on _ 12 _ p.ends,
        at_on _ 13 _ p.whole,
        at_on _ 14 _ p.unused,
        at_on _ 15 _ p.weights,
      )
      (accepted_passes _ 0 refl)

module _ (s : List ℕ) (π : Profile) (h : Passes (rows_answer s π (shape_of s))) where
  abbrev sh : Shape
  sh = shape_of s

  abbrev p : Rows s π sh
  p = rows_parts s π sh h

  pub ends_within : (i : ℕ) → i < row_count s → Ends s sh i π.exponent
  ends_within i l = ends_facts s sh i _ (none_wrong _ _ p.ends i l)

  pub proposed_within : (i : ℕ) → i < row_count s → Within π.weight (triple_of s sh i)
  proposed_within i l = weights_fact s sh i _ (none_wrong _ _ p.weights i l)

  pub proof_facts : InRange π → HeaderFacts s sh → ProofFacts s sh
  proof_facts r header =
      let ends : (i : ℕ) → i < row_count s → Ends s sh i greatest_exponent =
      λ i l. ends_larger s sh i _ _ r.exponent_within (ends_within i l) in
      record {
        header = header;
        v_within = λ i l. (ends i l).0;
        w_within = λ i l. (ends i l).1;
        whole = λ i l. whole_fact s sh i (none_wrong _ _ p.whole i l);
        unused = λ i l. unused_facts s sh i (none_wrong _ _ p.unused i l);
        weights_within = λ i l. triple_larger _ _ r.weight_within _ (proposed_within i l);
      }

  -- under every other profile that the rows keep
  pub rows_under : (ρ : Profile) → ((i : ℕ) → i < row_count s → Ends s sh i ρ.exponent)
      → ((i : ℕ) → i < row_count s → Within ρ.weight (triple_of s sh i)) → Passes (rows_answer s ρ sh)
  rows_under ρ ends weights =
      parts_rows s ρ sh
      (record {
        ends = sym (all_right (exponent_breaks _ s sh) _ (λ i m. ends_break s sh i _ (ends i m)));
        whole = p.whole;
        unused = p.unused;
        weights = sym (all_right (weight_breaks _ s sh) _ (λ i m. weights_break s sh i _ (weights i m)));
      })

-- ---- every number is document 01's, and an index is below a count that two bytes give

pub header_short : {limit : ℕ} (most n : ℕ) (s : List ℕ) → 10 < limit → Short limit (header_answer most n s)
unfolding header_answer
header_short most n s h =
    short_if 8 _ (omega arith)
    (short_if 9 _ (omega arith) (short_if 10 _ (omega arith) (short_accepted 0 (omega arith) (omega arith)) _) _) _

pub rows_counted : (s : List ℕ) → Bytes s → row_count s < 65536
rows_counted s b = omega (arith, b 2, b 3)

pub rows_short : {limit : ℕ} (s : List ℕ) (π : Profile) → 15 < limit → Bytes s
    → Short limit (rows_answer s π (shape_of s))
unfolding rows_answer
rows_short s π h b =
    let k : row_count s ≤ 65536 = omega (arith, rows_counted s b) in
    short_at 12 _ (omega arith)
    (short_at 13 _ (omega arith)
    (short_at 14 _ (omega arith)
    (short_at 15 _ (omega arith) (short_accepted 0 (omega arith) (omega arith)) _ _ k) _ _ k) _ _ k) _ _ k
