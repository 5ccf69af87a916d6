-- Laws of the search: what is told, the floors of a right range, and that 16 to 19 decide on each of them.
use Rattle.std.proofs.Common.{Result, Ok, Err}
use mathlib.Core.Path.{◌≡◌, refl, sym, ◌∙◌, ap}
use mathlib.Core.Bool.{false}
use mathlib.Core.List.{List}
use Prim.Native.Nat.{ℕ, ◌<◌, ◌≤◌}
use native.Mathlib.Omega.{arith}
use lib.IntN.{ℤ, pos, nat_abs, ◌-ℤ◌}
use lib.ListN.{length}
use lib.Dec.{ltb}
use lib.Signed.{lt_z, ◌≤ℤ◌}
use Rattle.integers.proofs.Integers.{ring, ints, by_le, read_eq, lt_z_false, le_lt_z, abs_difference, difference_nonneg, abs_between}
use Rattle.integers.proofs.Tests.{nor}
use Rattle.integers.specs.Words.{Bytes}
use Rattle.bounds.specs.Bounds.{greatest_weight, greatest_span, beyond}
use Rattle.bounds.specs.declared.profiles.Profile.{Profile}
use Rattle.bounds.proofs.bounds.Laws.{within_bound, bound_within, over_nonneg}
use Rattle.answers.specs.Answers as Answers
use Rattle.answers.specs.Answers.{Answer, accepted, blameless, Passes, Short}
use Rattle.answers.specs.Searches.{first}
use Rattle.answers.specs.declared.answers.Sheet.{Sheet}
use Rattle.answers.proofs.answers.Laws.{number_accepted, number_if, number_then, passes_then, passes_if, then_passes, told_passed, passed_if, short_accepted, short_if, short_then}
use Rattle.answers.proofs.searches.Laws.{first_same}
use Rattle.checks.specs.Input.{input_answer, WellFormed}
use Rattle.checks.proofs.input.Laws.{range_formed, input_formed, input_passes, input_short, input_other}
use Rattle.targets.specs.Targets.{aim_of}
use Rattle.targets.specs.declared.targets.Aim.{Aim}
use Rattle.sharing.proofs.shifts.Laws.{sheets_checked}
use Rattle.judging.proofs.check.Laws.{floored_answer}
use Rattle.floors.specs.Search.{Told, found, refusal, tells, answer_of, range_wrong, range_answer, floor_count, floor_after, accepts, refused_before, aim_after, passes_after, Searchable}
use Rattle.floors.specs.Promises.{RightRange}
use Rattle.floors.specs.declared.search.Highest.{Highest}

-- ---- what is told

module _ (r : Result Highest Sheet) (t : Told) (e : tells r ≡ t) where
  pub tells_found : (h : Highest) → r ≡ Ok h → t ≡ found h.floor h.tried h.rows
  unfolding tells
  tells_found h q = sym e ∙ rw q

  pub tells_refusal : (x : Sheet) → r ≡ Err x → t ≡ refusal (Answers.refusal x)
  unfolding tells
  tells_refusal x q = sym e ∙ rw q

module _ (t : Told) where
  pub answer_found : (floor : ℤ) (tried k : ℕ) → t ≡ found floor tried k → answer_of t ≡ accepted k
  unfolding answer_of
  answer_found floor tried k e = rw e

  pub answer_refusal : (a : Answer) → t ≡ refusal a → answer_of t ≡ a
  unfolding answer_of
  answer_refusal a e = rw e

-- ---- a right range

module _ (lo hi : ℤ) where
  pub right_range : range_wrong lo hi ≡ false → RightRange lo hi
  unfolding range_wrong
  right_range h =
      let d = nor _ _ h in
      let b = nor _ _ d.0 in
      let a = nor _ _ b.0 in
      record {
        ordered = lt_z_false hi lo a.0;
        low = within_bound greatest_weight lo a.1;
        high = within_bound greatest_weight hi b.1;
        span = lt_z_false (pos greatest_span) (hi -ℤ lo) d.1;
      }

  -- the last test of 22 by the size of the difference
  pub span_tested : lt_z hi lo ≡ false
      → lt_z (pos greatest_span) (hi -ℤ lo) ≡ ltb greatest_span (nat_abs (hi -ℤ lo))
  unfolding beyond
  span_tested h = sym (over_nonneg greatest_span (hi -ℤ lo) (difference_nonneg (lt_z_false hi lo h)))

  pub range_right : RightRange lo hi → range_wrong lo hi ≡ false
  unfolding range_wrong
  range_right r = rw (
    le_lt_z r.ordered,
    bound_within greatest_weight lo r.low,
    bound_within greatest_weight hi r.high,
    le_lt_z r.span,
  )

module _ (lo hi : ℤ) (r : RightRange lo hi) where
  pub span_few : nat_abs (hi -ℤ lo) ≤ greatest_span
  span_few =
      let e = abs_difference r.ordered in
      let s : pos (nat_abs (hi -ℤ lo)) ≤ℤ pos greatest_span = rw e r.span in
      omega (ints, s)

  -- the floor after i others
  module _ (i : ℕ) (l : i < floor_count lo hi) where
    pub after_few : i ≤ greatest_span
    unfolding floor_count
    after_few = omega (arith, l, span_few)

    pub after_low : lo ≤ℤ floor_after hi i
    unfolding floor_after floor_count
    after_low =
        let e = simp ring at (read_eq (abs_difference r.ordered)) in by_le (simp ring (omega (ints, e, l)))

    pub after_high : floor_after hi i ≤ℤ hi
    unfolding floor_after
    after_high = by_le (simp ring (omega ints))

    pub after_within : nat_abs (floor_after hi i) ≤ greatest_weight
    after_within = abs_between greatest_weight after_low after_high r.low r.high

pub range_few : (lo hi : ℤ) → range_wrong lo hi ≡ false → nat_abs (hi -ℤ lo) ≤ greatest_span
range_few lo hi h = span_few lo hi (right_range lo hi h)

-- ---- sheets and a range that pass all checks before 16

module _ (c s ls : List ℕ) (π : Profile) (lo hi : ℤ) (room : ℕ) (h : Passes (range_answer c s ls π lo hi room)) where
  pub input_passed : Passes (input_answer c s ls π room)
  unfolding range_answer
  input_passed = (passes_then _ _ h).0

  pub range_passed : range_wrong lo hi ≡ false
  unfolding range_answer
  range_passed = (passes_if _ 22 _ refl (passes_then _ _ h).1).0

  -- with the claim's own floor
  abbrev own : Aim
  own = aim_of c s ls

  pub searchable : Searchable π.weight c s own lo hi
  searchable = record {
    light = (range_formed c s ls π (input_formed c s ls π room input_passed)).weight_within;
    sheets = sheets_checked c s ls π (input_formed c s ls π room input_passed);
    ranged = range_passed;
  }

  -- the check of each floor
  accepts_after : (i : ℕ) → i < floor_count lo hi
      → accepts c s ls π room (floor_after hi i) ≡ passes_after π.weight c s own hi i
  unfolding accepts passes_after aim_after
  accepts_after i l =
      ap blameless
      (floored_answer c s ls π room input_passed (floor_after hi i)
      (after_within lo hi (right_range lo hi range_passed) i l))

  pub refused_before_lem : refused_before c s ls π lo hi room ≡ first (passes_after π.weight c s own hi) (floor_count lo hi)
  unfolding refused_before
  refused_before_lem = first_same _ _ (floor_count lo hi) accepts_after

-- they pass where the sheets are well-formed, the output is long enough and the range is right; no answer is 23
module _ (c s ls : List ℕ) (π : Profile) (lo hi : ℤ) (room : ℕ) where
  pub range_passes : WellFormed c s ls π → length s ≤ room → range_wrong lo hi ≡ false
      → Passes (range_answer c s ls π lo hi room)
  unfolding range_answer
  range_passes f l r =
      then_passes _ _ (input_passes c s ls π room f l)
      (told_passed _ (passed_if (Answers.accepted 0) _ 22 _ r refl))

  pub range_short : {limit : ℕ} → 27 < limit → Bytes c → Bytes s → Short limit (range_answer c s ls π lo hi room)
  unfolding range_answer
  range_short h bc bs =
      short_then _ _ (input_short c s ls π room h bc bs)
      (short_if 22 _ (omega arith) (short_accepted 0 (omega arith) (omega arith)) _)

  pub range_other : Bytes s → (range_answer c s ls π lo hi room).number ≡ 23 → ⊥
  unfolding range_answer
  range_other bs =
      let Other : ℕ → Type 0 = λ m. m ≡ 23 → ⊥ in
      number_then Other _ _ (input_other c s ls π room bs)
      (number_if Other _ 22 _ (λ e. omega arith) (number_accepted Other 0 (λ e. omega arith)))
