-- The steps of the search.
use Rattle.std.proofs.Common.{Option, Some, None, Result}
use mathlib.Core.Path.{◌≡◌, refl, sym, ◌∙◌}
use mathlib.Core.Bool.{true, false}
use mathlib.Core.List.{List}
use Prim.Native.Nat.{ℕ, suc, ◌+◌, ◌<◌, ◌≤◌}
use native.Mathlib.Omega.{arith}
use lib.IntN.{ℤ, nat_abs}
use lib.ListN.{length}
use Rattle.integers.specs.Words.{Bytes}
use Rattle.bounds.specs.Bounds.{greatest_weight, greatest_span}
use Rattle.bounds.specs.declared.profiles.Profile.{Profile}
use Rattle.answers.specs.Answers as Answers
use Rattle.answers.specs.Answers.{refused, Passes}
use Rattle.answers.specs.Searches.{first}
use Rattle.answers.specs.declared.answers.Sheet.{Sheet}
use Rattle.answers.specs.declared.answers.Sheet.TheVariants.{Range}
use Rattle.answers.proofs.answers.Laws.{refusal_fails, then_refused, then_passed, then_passes, told_passed, refused_if, passed_if}
use Rattle.answers.proofs.searches.Laws.{first_found, first_next, first_inside}
use Rattle.sheets.specs.Layout.{variables, LimitsRoom}
use Rattle.checks.specs.Input.{input_answer, WellFormed}
use Rattle.checks.proofs.input.Laws.{range_formed, input_formed, input_enough, room_formed}
use Rattle.targets.specs.Targets.{aim_of}
use Rattle.targets.specs.declared.targets.Aim.{Aim}
use Rattle.targets.proofs.targets.Laws.{floor_within_at}
use Rattle.sharing.specs.Shifts.{CheckedSheets}
use Rattle.sharing.proofs.shifts.Laws.{sheets_checked, claim_eight, proof_eight}
use Rattle.weighing.specs.Exact.{Writable}
use Rattle.weighing.proofs.weighed.Laws.{weighed_within}
use Rattle.weighing.proofs.exact.Laws.{all_larger}
use Rattle.judging.proofs.check.Laws.{floored_output}
use Rattle.floors.specs.Search.{found, refusal, tells, range_wrong, range_answer, floor_count, floor_after, refused_before, told_after, search_of, output_by, search_output, aim_after, passes_after, output_after, Searchable}
use Rattle.floors.specs.Promises.{RightRange, SearchPromises}
use Rattle.floors.specs.declared.search.Highest.{Highest}
use Rattle.floors.specs.Trials.{test_count, fails_from}
use Rattle.floors.proofs.Promises.{search_promises}
use Rattle.floors.proofs.search.Laws.{right_range, span_few, after_within, input_passed, searchable, refused_before_lem}
use Rattle.floors.proofs.trials.Laws.{tests_few, cycle_passed, cycle_failed}

-- ---- walk: a is the aim of a floor, f what its trial found

pub tests_some : (c s : List ℕ) → 0 < test_count c s
unfolding test_count
tests_some c s = omega arith

module _ {limit : ℕ} {c s : List ℕ} {own : Aim} {lo hi : ℤ} (given : Searchable limit c s own lo hi) where
  right : RightRange lo hi
  right = right_range lo hi given.ranged

  pub walk_high : nat_abs hi ≤ greatest_weight
  walk_high = right.high

  pub walk_tests : test_count c s ≤ 65536
  walk_tests = tests_few c s _ refl _ given.sheets

  pub walk_few : floor_count lo hi ≤ suc greatest_span
  unfolding floor_count
  walk_few = omega (arith, span_few lo hi right)

  pub walk_checked : (i : ℕ) → i < floor_count lo hi → (a : Aim) → a ≡ aim_after own hi i → CheckedSheets c s a
  unfolding aim_after
  walk_checked i l a ea =
      let g = given.sheets in
      rw ea
      (record {
        claim = g.claim;
        proof = g.proof;
        same = g.same;
        aim = floor_within_at own _ g.aim (after_within lo hi right i l);
      })

-- the floor after i others, its trial begun at the test that refused the last
module _ (limit : ℕ) (c s : List ℕ) (own : Aim) (hi : ℤ) (i : ℕ)
    (before : first (passes_after limit c s own hi) i ≡ None) (a : Aim) (ea : a ≡ aim_after own hi i) (n last : ℕ)
    (en : n ≡ test_count c s) (l : last < n) (f : Option ℕ) (ef : f ≡ first (fails_from limit c s a last) n) where
  inside : last < test_count c s
  inside = rw en at l

  pub walk_stop : (m : ℕ) → i < m → f ≡ None → Some i ≡ first (passes_after limit c s own hi) m
  unfolding passes_after
  walk_stop m k h =
      sym (first_found _ m i k before (rw (← ea) (cycle_passed limit c s a last inside (rw en at (sym ef ∙ h)))))

  pub walk_next : (j : ℕ) → f ≡ Some j → first (passes_after limit c s own hi) (i + 1) ≡ None
  unfolding passes_after
  walk_next j h =
      first_next _ i false before
      (sym (rw (← ea) (cycle_failed limit c s a last inside j (rw en at (sym ef ∙ h))))) refl

-- ---- search_checked: a is the aim of the floor that was found

pub found_writable : (limit : ℕ) (c s : List ℕ) (own : Aim) (lo hi lo' hi' : ℤ) → Searchable limit c s own lo hi
    → lo' ≡ lo → hi' ≡ hi → (f : Option ℕ) → f ≡ first (passes_after limit c s own hi') (floor_count lo' hi') → (i : ℕ)
    → f ≡ Some i → (a : Aim) → a ≡ aim_after own hi' i → (out : List ℕ) → length s ≤ length out → Writable c s a out
unfolding passes_after
found_writable limit c s own lo hi lo' hi' given el eh f ef i h a ea out room =
    let e = rw eh at ea in
    let found = first_inside _ _ i (rw (el, eh) at (sym ef ∙ h)) in
    record {
      sheets = walk_checked given i found.0 a e;
      light = all_larger _ _ given.light _ s (weighed_within limit c s a (rw e found.1));
      room = room;
    }

-- ---- search

module _ (c s ls : List ℕ) (π : Profile) (lo hi : ℤ) (out : List ℕ) where
  -- r is what the search answers, o the output afterwards
  abbrev Promised : Result Highest Sheet → List ℕ → Type 0
  Promised r o = (tells r ≡ search_of c s ls π lo hi (length out)) × (o ≡ search_output c s ls π lo hi out)
      × SearchPromises c s ls π lo hi out (λ b tried k. tells r ≡ found b tried k) (tells r ≡ refusal (refused 23 0)) o

  pub promised : Bytes s → (r : Result Highest Sheet) (o : List ℕ) → tells r ≡ search_of c s ls π lo hi (length out)
      → o ≡ search_output c s ls π lo hi out → Promised r o
  promised bs r o e eo =
      let promises =
      search_promises c s ls π lo hi out _ _ (λ b tried k. (λ q. sym e ∙ q, λ q. e ∙ q)) (λ q. sym e ∙ q, λ q. e ∙ q)
      bs o eo in
      (e, eo, promises)

  -- a refusal before 16 leaves the output
  pub unwritten : Bytes s → (r : Result Highest Sheet) (x : Sheet) → tells r ≡ refusal (Answers.refusal x)
      → Answers.refusal x ≡ range_answer c s ls π lo hi (length out) → Promised r out
  unfolding search_of search_output output_by
  unwritten bs r x er e = promised bs r out (er ∙ rw (← e, refusal_fails x)) (rw (← e, refusal_fails x))

pub input_refused : (c s ls : List ℕ) (π : Profile) (lo hi : ℤ) (room : ℕ) (x : Sheet)
    → Answers.refusal x ≡ input_answer c s ls π room → Answers.refusal x ≡ range_answer c s ls π lo hi room
unfolding range_answer
input_refused c s ls π lo hi room x e = then_refused _ x e _

-- e is that the input is right
module _ (c s ls : List ℕ) (π : Profile) (room : ℕ) (e : Answers.accepted 0 ≡ input_answer c s ls π room) where
  formed : WellFormed c s ls π
  formed = input_formed c s ls π room (told_passed _ e)

  pub search_reads : (8 ≤ length c) × (8 ≤ length s) × LimitsRoom ls (variables c)
  search_reads =
      let sheets = sheets_checked c s ls π formed in
      (claim_eight c s _ sheets, proof_eight c s _ sheets, room_formed c s ls π formed)

  pub search_light : π.weight ≤ greatest_weight
  search_light = (range_formed c s ls π formed).weight_within

  pub search_room : length s ≤ room
  search_room = input_enough c s ls π room (told_passed _ e)

  module _ (lo hi : ℤ) where
    pub range_refused : range_wrong lo hi ≡ true → Answers.refusal (Range 22 0) ≡ range_answer c s ls π lo hi room
    unfolding range_answer
    range_refused w = then_passed _ e _ _ (refused_if _ _ 22 _ w refl)

    module _ (w : range_wrong lo hi ≡ false) where
      ready : Passes (range_answer c s ls π lo hi room)
      unfolding range_answer
      ready = then_passes _ _ (told_passed _ e) (told_passed _ (passed_if (Answers.accepted 0) _ 22 _ w refl))

      pub search_ready : (limit : ℕ) → limit ≤ greatest_weight → Searchable limit c s (aim_of c s ls) lo hi
      search_ready limit l = record { light = l; sheets = (searchable c s ls π lo hi room ready).sheets; ranged = w }

      pub search_told : (r : Result Highest Sheet)
          → tells r ≡ told_after s hi (first (passes_after π.weight c s (aim_of c s ls) hi) (floor_count lo hi))
          → tells r ≡ search_of c s ls π lo hi room
      unfolding search_of
      search_told r er = er ∙ rw (← refused_before_lem c s ls π lo hi room ready, ready)

      pub search_written : (out : List ℕ) → length out ≡ room → (o : List ℕ)
          → o ≡ output_after c s (aim_of c s ls) hi out
          (first (passes_after π.weight c s (aim_of c s ls) hi) (floor_count lo hi))
          → o ≡ search_output c s ls π lo hi out
      unfolding search_output search_of output_after output_by told_after aim_after passes_after
      search_written out room_is o eo =
          eo
          ∙ rw (room_is, ← refused_before_lem c s ls π lo hi room ready, ready)
          (go (refused_before c s ls π lo hi room) refl)
        where
          go : (f : Option ℕ) → refused_before c s ls π lo hi room ≡ f
              → output_after c s (aim_of c s ls) hi out f ≡ output_by c s ls π out (told_after s hi f)
          go (Some i) q =
              let f = first_inside _ _ i (sym (refused_before_lem c s ls π lo hi room ready) ∙ q) in
              let within = after_within lo hi (right_range lo hi w) i f.0 in
              let input = input_passed c s ls π lo hi room ready in
              rw (floored_output c s ls π room input (floor_after hi i) within out room_is f.1)
          go None q = refl
