-- The promises of the search, from what it tells.
use Rattle.std.proofs.Common.{Option, Some, None}
use mathlib.Core.Path.{◌≡◌, refl, sym, ◌∙◌, ap}
use mathlib.Core.Bool.{Bool, true, false, true≢false}
use mathlib.Core.List.{List}
use mathlib.Core.Logic.{◌↔◌}
use Prim.Native.Nat.{ℕ, suc, ◌<◌, ◌≤◌}
use native.Mathlib.Omega.{arith}
use lib.Dec.{lit<}
use lib.IntN.{ℤ, pos, nat_abs, ◌+ℤ◌, ◌-ℤ◌}
use lib.ListN.{length}
use lib.Signed.{lt_z, ◌≤ℤ◌, ◌<ℤ◌}
use Rattle.integers.proofs.Integers.{ring, ints, by_eq, read_eq, abs_difference, fits_within, lt_z_false, lt_z_true}
use Rattle.integers.proofs.Tests.{never}
use Rattle.integers.specs.Words.{Bytes}
use Rattle.bounds.specs.Bounds.{greatest_weight}
use Rattle.bounds.specs.Profiles.{Larger}
use Rattle.bounds.specs.declared.profiles.Profile.{Profile}
use Rattle.answers.specs.Answers.{Answer, accepted, refused, blameless, Passes, Short}
use Rattle.answers.proofs.answers.Laws.{passes_or_fails, passes_then, then_passes, accepted_passes, refused_blames, refused_number, short_accepted, short_refused}
use Rattle.answers.proofs.searches.Laws.{first_inside, first_before, none_wrong}
use Rattle.squares.specs.Floor.{Floors}
use Rattle.sheets.specs.Layout.{row_count}
use Rattle.sheets.specs.ClaimSheet.{with_floor, terms_of}
use Rattle.sheets.proofs.claim_sheet.Laws.{floored_floor, floored_before, floored_terms}
use Rattle.limits.specs.LimitsSheet.{domain_of}
use Rattle.checks.specs.Input.{WellFormed}
use Rattle.checks.proofs.proof_checks.Laws.{rows_counted}
use Rattle.checks.proofs.input.Laws.{formed_larger, input_passes, input_formed, input_enough}
use Rattle.targets.specs.Targets.{aim_of}
use Rattle.sharing.proofs.shifts.Laws.{sheets_checked, claim_eight}
use Rattle.weighing.proofs.weighed.Laws.{weighed_higher}
use Rattle.judging.specs.Check.{check_answer, output_of}
use Rattle.judging.proofs.check.Laws.{floored_answer}
use Rattle.judging.proofs.Promises.{accepted_rows, accepted_larger, floor_kept, check_promises}
use Rattle.floors.specs.Search.{Told, found, refusal, answer_of, range_answer, floor_count, floor_after, accepts, refused_before, told_after, search_of, output_by, search_output}
use Rattle.floors.specs.Promises.{RightRange, FloorPromises, Some as SomeFloor, SearchPromises}
use Rattle.floors.proofs.Full.{search_full}
use Rattle.floors.proofs.search.Laws.{answer_found, answer_refusal, right_range, range_right, searchable, input_passed, range_passed, range_passes, range_short, range_other, after_low, after_high, after_within}

-- ---- a floor of the range, by the number of floors above it

module _ (hi b : ℤ) (high : b ≤ℤ hi) where
  above_after : floor_after hi (nat_abs (hi -ℤ b)) ≡ b
  unfolding floor_after
  above_after = rw (abs_difference high) (by_eq (simp ring (omega ints)))

  above_inside : (lo : ℤ) → RightRange lo hi → lo ≤ℤ b → nat_abs (hi -ℤ b) < floor_count lo hi
  unfolding floor_count
  above_inside lo r low =
      let e = simp ring at (read_eq (abs_difference r.ordered)) in
      let d = simp ring at (read_eq (abs_difference high)) in
      omega (ints, e, d, low, high)

-- ---- what is told, by what the checks and the walk found

module _ (c s ls : List ℕ) (π : Profile) (lo hi : ℤ) (room : ℕ) where
  abbrev told : Told
  told = search_of c s ls π lo hi room

  -- the walk found the floor b after i others
  record Walked (b : ℤ) (tried k : ℕ) : Type 0 where
    ready : Passes (range_answer c s ls π lo hi room)
    after : ℕ
    before : refused_before c s ls π lo hi room ≡ Some after
    floor_is : b ≡ floor_after hi after
    tried_is : tried ≡ suc after
    rows_are : k ≡ row_count s

  -- a refusal before 16, a floor after i others, or 23
  told_cases : {A : Type 0}
      → (blameless (range_answer c s ls π lo hi room) ≡ false → told ≡ refusal (range_answer c s ls π lo hi room) → A)
      → (Passes (range_answer c s ls π lo hi room) → (i : ℕ) → refused_before c s ls π lo hi room ≡ Some i
      → told ≡ found (floor_after hi i) (suc i) (row_count s) → A)
      → (Passes (range_answer c s ls π lo hi room) → refused_before c s ls π lo hi room ≡ None
      → told ≡ refusal (refused 23 0) → A)
      → A
  unfolding search_of told_after
  told_cases {A} early some none =
      passes_or_fails (range_answer c s ls π lo hi room) (λ h. go h (refused_before c s ls π lo hi room) refl)
      (λ h. early h (rw h))
    where
      go : Passes (range_answer c s ls π lo hi room) → (f : Option ℕ) → refused_before c s ls π lo hi room ≡ f → A
      go h (Some i) e = some h i e (rw (h, e))
      go h None e = none h e (rw (h, e))

  walked : (b : ℤ) (tried k : ℕ) → told ≡ found b tried k → Walked b tried k
  walked b tried k e =
      told_cases (λ h q. never (cc))
      (λ h i f q. record { ready = h; after = i; before = f; floor_is = cc; tried_is = cc; rows_are = cc })
      (λ h f q. never (cc))

  -- ---- a floor that is told

  module _ (b : ℤ) (tried k : ℕ) (e : told ≡ found b tried k) where
    w : Walked b tried k
    w = walked b tried k e

    right : RightRange lo hi
    right = right_range lo hi (range_passed c s ls π lo hi room w.ready)

    found_formed : WellFormed c s ls π
    found_formed = input_formed c s ls π room (input_passed c s ls π lo hi room w.ready)

    inside : (w.after < floor_count lo hi) × (accepts c s ls π room (floor_after hi w.after) ≡ true)
    unfolding refused_before
    inside = first_inside _ _ _ w.before

    found_within : (lo ≤ℤ b) × (b ≤ℤ hi)
    found_within =
        rw w.floor_is (after_low lo hi right w.after inside.0, after_high lo hi right w.after inside.0)

    found_small : nat_abs b ≤ greatest_weight
    found_small = rw w.floor_is (after_within lo hi right w.after inside.0)

    found_passes : Passes (check_answer (with_floor c b) s ls π room)
    unfolding accepts
    found_passes = rw w.floor_is inside.1

    found_accepted : check_answer (with_floor c b) s ls π room ≡ accepted k
    found_accepted = rw w.rows_are (accepted_rows (with_floor c b) s ls π room found_passes)

    found_higher : (a : ℤ) → b <ℤ a → a ≤ℤ hi → accepts c s ls π room a ≡ false
    unfolding refused_before floor_after
    found_higher a over high =
        let d = simp ring at (read_eq (abs_difference high)) in
        let f = simp ring at (read_eq w.floor_is) in
        let l : nat_abs (hi -ℤ a) < w.after = omega (ints, d, f, over) in
        rw (above_after hi a high) at (none_wrong _ _ (first_before _ _ _ w.before) (nat_abs (hi -ℤ a)) l)

    found_counts : pos tried ≡ hi -ℤ b +ℤ pos 1
    unfolding floor_after
    found_counts =
        let f = simp ring at (read_eq w.floor_is) in by_eq (simp ring (omega (ints, f, w.tried_is)))

    found_floors : Floors (domain_of c ls) b (terms_of c)
    found_floors =
        let long = claim_eight c s _ (searchable c s ls π lo hi room w.ready).sheets in
        let fits = fits_within b greatest_weight found_small (lit< tt) in
        rw (
          floored_floor c b long fits,
          floored_terms c b,
          floored_before c b 0 (omega arith),
          floored_before c b 2 (omega arith),
        )
        at (floor_kept (with_floor c b) s ls π room found_passes)

  -- ---- 23, and that a floor is found where there is one

  none_accepted : refused_before c s ls π lo hi room ≡ None → RightRange lo hi → (b : ℤ) → lo ≤ℤ b → b ≤ℤ hi
      → accepts c s ls π room b ≡ false
  unfolding refused_before
  none_accepted e right b low high =
      rw (above_after hi b high)
      at (none_wrong _ _ e (nat_abs (hi -ℤ b)) (above_inside hi b high lo right low))

  -- a refusal is one before 16, or 23
  told_refused : {A : Type 0} (a : Answer) → told ≡ refusal a
      → (blameless (range_answer c s ls π lo hi room) ≡ false → a ≡ range_answer c s ls π lo hi room → A)
      → (Passes (range_answer c s ls π lo hi room) → refused_before c s ls π lo hi room ≡ None → a ≡ refused 23 0 → A)
      → A
  told_refused a e one other =
      told_cases (λ h q. one h (cc)) (λ h i f q. never (cc)) (λ h f q. other h f (cc))

  pub told_fails : (a : Answer) → told ≡ refusal a → blameless a ≡ false
  told_fails a e = told_refused a e (λ h q. rw q h) (λ h f q. rw q (refused_blames 23 0 refl))

  module _ (bs : Bytes s) (a : Answer) (e : told ≡ refusal a) (n : a.number ≡ 23) where
    not_before : {A : Type 0} → a ≡ range_answer c s ls π lo hi room → A
    not_before q =
        absurd (range_other c s ls π lo hi room bs (sym (ap (λ (a : Answer). a.number) q) ∙ n))

    pub told_none : a ≡ refused 23 0
    told_none = told_refused a e (λ h q. not_before q) (λ h f q. q)

    none_ready : Passes (range_answer c s ls π lo hi room) × (refused_before c s ls π lo hi room ≡ None)
    none_ready = told_refused a e (λ h q. not_before q) (λ h f q. (h, f))

  module _ (h : Passes (range_answer c s ls π lo hi room)) where
    ready_cases : {A : Type 0}
        → ((i : ℕ) → refused_before c s ls π lo hi room ≡ Some i → told ≡ found (floor_after hi i) (suc i) (row_count s) → A)
        → (refused_before c s ls π lo hi room ≡ None → told ≡ refusal (refused 23 0) → A) → A
    ready_cases some none = told_cases (λ n q. absurd (true≢false (sym h ∙ n))) (λ _. some) (λ _. none)

    told_some : (b : ℤ) → lo ≤ℤ b → b ≤ℤ hi → accepts c s ls π room b ≡ true
        → SomeFloor (λ b tried k. told ≡ found b tried k)
    told_some b low high a =
        ready_cases (λ i f q. record { floor = _; tried = _; rows = _; finds = q })
        (λ f q.
        let right = right_range lo hi (range_passed c s ls π lo hi room h) in
        absurd (true≢false (sym a ∙ none_accepted f right b low high)))

    told_unfound : ((b : ℤ) → lo ≤ℤ b → b ≤ℤ hi → accepts c s ls π room b ≡ false) → told ≡ refusal (refused 23 0)
    unfolding accepts
    told_unfound none =
        ready_cases
        (λ i f q.
        let l = found_within _ _ _ q in absurd (true≢false (sym (found_passes _ _ _ q) ∙ none _ l.0 l.1)))
        (λ f q. q)

  -- ---- for the crates above: the answer is short, and an acceptance carries k

  pub told_short : {limit : ℕ} → 27 < limit → Bytes c → Bytes s → Short limit (answer_of told)
  told_short {limit} h bc bs =
      told_cases (λ _ q. rw (answer_refusal _ _ q) (range_short c s ls π lo hi room h bc bs))
      (λ _ i f q. rw (answer_found _ _ _ _ q) (short_accepted _ (omega arith) (rows_counted s bs)))
      (λ _ f q. rw (answer_refusal _ _ q) (short_refused 23 0 (omega arith) (omega arith)))

  pub told_accepted : Passes (answer_of told) → answer_of told ≡ accepted (row_count s)
  told_accepted h =
      told_cases (λ n q. absurd (true≢false (sym h ∙ rw (answer_refusal _ _ q) n))) (λ _ i f q. answer_found _ _ _ _ q)
      (λ _ f q. absurd (true≢false (sym h ∙ rw (answer_refusal _ _ q) (refused_blames 23 0 refl))))

-- ---- the promises of a floor that is told

found_writes : (c s ls : List ℕ) (π : Profile) (lo hi : ℤ) (out : List ℕ) (b : ℤ) (tried k : ℕ)
    → search_of c s ls π lo hi (length out) ≡ found b tried k
    → search_output c s ls π lo hi out ≡ output_of (with_floor c b) s ls π out
unfolding search_output output_by
found_writes c s ls π lo hi out b tried k e = rw e

found_promises : (c s ls : List ℕ) (π : Profile) (lo hi : ℤ) (out : List ℕ) → Bytes s → (b : ℤ) (tried k : ℕ)
    → search_of c s ls π lo hi (length out) ≡ found b tried k → (o : List ℕ) → o ≡ output_of (with_floor c b) s ls π out
    → FloorPromises c s ls π lo hi out b tried k o
unfolding accepts
found_promises c s ls π lo hi out bs b tried k e o eo = record {
  formed = found_formed c s ls π lo hi (length out) b tried k e;
  right = right c s ls π lo hi (length out) b tried k e;
  within = found_within c s ls π lo hi (length out) b tried k e;
  accepted = found_accepted c s ls π lo hi (length out) b tried k e;
  higher = found_higher c s ls π lo hi (length out) b tried k e;
  written = eo;
  counts = found_counts c s ls π lo hi (length out) b tried k e;
  floors = found_floors c s ls π lo hi (length out) b tried k e;
  checked =
      check_promises (with_floor c b) s ls π out _ _ k (λ r. r) (λ h. h, λ h. h)
      (λ _. (walked c s ls π lo hi (length out) b tried k e).rows_are) bs o eo;
}

-- ---- note 7: a larger profile finds the same floor

module _ (c s ls : List ℕ) (π ρ : Profile) (l : Larger π ρ) (lo hi : ℤ) (room : ℕ) (b : ℤ) (tried k : ℕ)
    (e : search_of c s ls π lo hi room ≡ found b tried k) where
  ready : Passes (range_answer c s ls π lo hi room)
  ready = (walked c s ls π lo hi room b tried k e).ready

  larger_ready : Passes (range_answer c s ls ρ lo hi room)
  unfolding range_answer
  larger_ready =
      let input = input_passed c s ls π lo hi room ready in
      then_passes _ _
      (input_passes c s ls ρ room (formed_larger c s ls π ρ l (input_formed c s ls π room input))
      (input_enough c s ls π room input))
      (passes_then _ _ ready).1

  abbrev Accepts : Profile → ℤ → Type 0
  Accepts σ x = accepts c s ls σ room x ≡ true

  larger_accepts : Accepts ρ b
  unfolding accepts
  larger_accepts =
      accepted_passes _ _
      (accepted_larger (with_floor c b) s ls π ρ l room (found_passes c s ls π lo hi room b tried k e))

  larger_some : SomeFloor (λ b tried k. search_of c s ls ρ lo hi room ≡ found b tried k)
  larger_some =
      let m = found_within c s ls π lo hi room b tried k e in
      told_some c s ls ρ lo hi room larger_ready b m.0 m.1 larger_accepts

  abbrev b' : ℤ
  b' = larger_some.floor

  -- what is accepted is not above what is found
  none_above : (σ : Profile) (x : ℤ) (t m : ℕ) → search_of c s ls σ lo hi room ≡ found x t m → (y : ℤ) → y ≤ℤ hi
      → Accepts σ y → y ≤ℤ x
  none_above σ x t m q y high a = go (lt_z x y) refl
    where
      go : (d : Bool) → lt_z x y ≡ d → y ≤ℤ x
      go false h = lt_z_false x y h
      go true h =
          absurd (true≢false (sym a ∙ found_higher c s ls σ lo hi room x t m q y (lt_z_true x y h) high))

  -- so what the larger profile finds is no lower, and the smaller one accepts it too
  no_lower : b ≤ℤ b'
  no_lower =
      none_above ρ b' _ _ larger_some.finds b (found_within c s ls π lo hi room b tried k e).1 larger_accepts

  smaller_accepts : Accepts π b'
  unfolding accepts
  smaller_accepts =
      let input = input_passed c s ls π lo hi room ready in
      let input' = input_passed c s ls ρ lo hi room larger_ready in
      let small = found_small c s ls π lo hi room b tried k e in
      let small' = found_small c s ls ρ lo hi room _ _ _ larger_some.finds in
      rw (floored_answer c s ls π room input b' small')
      (weighed_higher π.weight ρ.weight c s (aim_of c s ls)
      (sheets_checked c s ls π (input_formed c s ls π room input)) b b' no_lower
      (rw (floored_answer c s ls π room input b small) at (found_passes c s ls π lo hi room b tried k e))
      (rw (floored_answer c s ls ρ room input' b' small')
      at (found_passes c s ls ρ lo hi room _ _ _ larger_some.finds)))

  larger_told : search_of c s ls ρ lo hi room ≡ found b tried k
  larger_told =
      let high = (found_within c s ls ρ lo hi room _ _ _ larger_some.finds).1 in
      let no-higher = none_above π b tried k e b' high smaller_accepts in
      let same : b' ≡ b = by_eq (simp ring (omega (ints, no_lower, no-higher))) in
      let counts = simp ring at (read_eq (found_counts c s ls π lo hi room b tried k e)) in
      let counts' = simp ring at (read_eq (found_counts c s ls ρ lo hi room _ _ _ larger_some.finds)) in
      let tried_same : larger_some.tried ≡ tried = omega (ints, counts, counts', same) in
      let rows = (walked c s ls π lo hi room b tried k e).rows_are in
      let rows' = (walked c s ls ρ lo hi room _ _ _ larger_some.finds).rows_are in
      let rows_same : larger_some.rows ≡ k = rows' ∙ sym rows in
      larger_some.finds ∙ (cc)

-- ---- the promises, for whatever is to say that a floor is found, or none

module _ (c s ls : List ℕ) (π : Profile) (lo hi : ℤ) (out : List ℕ) (Finds : ℤ → ℕ → ℕ → Type 0) (FindsNone : Type 0)
    (meant : (b : ℤ) (tried k : ℕ) → Finds b tried k ↔ (search_of c s ls π lo hi (length out) ≡ found b tried k))
    (none-meant : FindsNone ↔ (search_of c s ls π lo hi (length out) ≡ refusal (refused 23 0))) (bs : Bytes s)
    (o : List ℕ) (eo : o ≡ search_output c s ls π lo hi out) where
  found_output : (b : ℤ) (tried k : ℕ) → Finds b tried k → o ≡ output_of (with_floor c b) s ls π out
  found_output b tried k f = eo ∙ found_writes c s ls π lo hi out b tried k ((meant b tried k).0 f)

  unfound_output : (SomeFloor Finds → ⊥) → o ≡ out
  unfolding search_output output_by
  unfound_output n = go (search_of c s ls π lo hi (length out)) refl
    where
      go : (t : Told) → search_of c s ls π lo hi (length out) ≡ t → o ≡ out
      go (found b tried k) e =
          absurd (n (record { floor = b; tried = tried; rows = k; finds = (meant b tried k).1 e }))
      go (refusal answer) e = eo ∙ rw e

  pub search_promises : SearchPromises c s ls π lo hi out Finds FindsNone o
  unfolding accepts
  search_promises = record {
    found = λ b tried k f.
        found_promises c s ls π lo hi out bs b tried k ((meant b tried k).0 f) o (found_output b tried k f);
    finds = λ formed enough right b low high a.
        let ready = range_passes c s ls π lo hi (length out) formed enough (range_right lo hi right) in
        let t = told_some c s ls π lo hi (length out) ready b low high a in
        record { floor = t.floor; tried = t.tried; rows = t.rows; finds = (meant _ _ _).1 t.finds };
    none = (
      λ f.
          let r = none_ready c s ls π lo hi (length out) bs _ (none-meant.0 f) (refused_number 23 0) in
          let input = input_passed c s ls π lo hi (length out) r.0 in
          let right = right_range lo hi (range_passed c s ls π lo hi (length out) r.0) in (
            input_formed c s ls π (length out) input,
            input_enough c s ls π (length out) input,
            right,
            none_accepted c s ls π lo hi (length out) r.1 right,
          ),
      λ p.
          none-meant.1
          (told_unfound c s ls π lo hi (length out)
          (range_passes c s ls π lo hi (length out) p.0 p.1 (range_right lo hi p.2)) p.3),
    );
    leaves = unfound_output;
    larger = λ b tried k f ρ l.
        let e = (meant b tried k).0 f in
        let checked = (found_promises c s ls π lo hi out bs b tried k e o (found_output b tried k f)).checked in
        let told = larger_told c s ls π ρ l lo hi (length out) b tried k e in
        let same = (checked.larger (found_passes c s ls π lo hi (length out) b tried k e) ρ l).1 in
        (told, found_writes c s ls ρ lo hi out b tried k told ∙ same);
    full = search_full c s ls;
  }
