-- The promises of the check, from what its answer is.
use mathlib.Core.Path.{◌≡◌, sym, ◌∙◌, ap}
use mathlib.Core.Bool.{false}
use mathlib.Core.List.{List, [], ◌++◌, append-nil}
use mathlib.Core.Logic.{◌↔◌}
use Prim.Native.Nat.{ℕ, ◌<◌, ◌≤◌}
use native.Mathlib.Omega.{arith}
use lib.IntN.{ℤ}
use lib.ListN.{length, take, drop, length-append}
use lib.Seq.{take_at, drop_at}
use Rattle.integers.specs.Words.{Bytes}
use Rattle.bounds.specs.Bounds.{greatest_weight}
use Rattle.bounds.specs.Profiles.{Larger}
use Rattle.bounds.specs.declared.profiles.Profile.{Profile}
use Rattle.answers.specs.Answers.{accepted, blameless, Passes, Short}
use Rattle.answers.proofs.answers.Laws.{passes_or_fails, passes_then, then_on, accepted_passes, short_then}
use Rattle.points.specs.Points.{Exponents}
use Rattle.squares.specs.Rows.{slots}
use Rattle.squares.specs.Decomposition.{AddsUp}
use Rattle.squares.specs.Targets.{lowered, target}
use Rattle.squares.specs.Floor.{Floors}
use Rattle.squares.proofs.Floor.{floor}
use Rattle.sheets.specs.Layout.{variables, row_count, shape_of, ProofRoom}
use Rattle.sheets.specs.ClaimSheet.{floor_of, terms_of}
use Rattle.sheets.proofs.claim_sheet.Laws.{terms_sized}
use Rattle.rows.specs.ProofSheet.{scale_of, triple_of, rows_of, triple_for}
use Rattle.limits.specs.LimitsSheet.{domain_of}
use Rattle.checks.specs.Input.{WellFormed}
use Rattle.checks.proofs.input.Laws.{range_formed, fits_formed, formed_larger, input_passes, input_formed, input_enough, input_short}
use Rattle.checks.proofs.Profiled.{formed_profiled}
use Rattle.targets.specs.Targets.{aim_of}
use Rattle.targets.proofs.targets.Laws.{targets_are}
use Rattle.sharing.specs.Shifts.{shifted_rows, CheckedSheets}
use Rattle.sharing.proofs.shifts.Laws.{sheets_checked, claim_eight, rows_stay_placed, rows_stay}
use Rattle.weighing.specs.Exact.{weights_for, exact_proof, AllWithin}
use Rattle.weighing.specs.Weighed.{weighed_answer}
use Rattle.weighing.proofs.weighed.Laws.{weighed_within, weighed_hold, weighed_adds, weighed_accepted, weighed_short}
use Rattle.weighing.proofs.exact.Laws.{all_larger, exact_length, exact_variables, exact_scale, exact_weights, exact_rows, same_within, same_proof}
use Rattle.judging.specs.Check.{targets_of, check_answer, output_of}
use Rattle.judging.specs.Promises.{LongEnough, Decomposes, CheckPromises}
use Rattle.judging.proofs.Full.{check_full}

module _ (c s l : List ℕ) (π : Profile) where
  abbrev τ : Exponents → ℤ
  τ = targets_of c s l

  targets_meant : (α : Exponents)
      → τ α ≡ target (domain_of c l) (scale_of s) (lowered (variables c) (floor_of c) (terms_of c)) α
  unfolding targets_of
  targets_meant α = targets_are c s l α

  -- ---- what an acceptance says

  module _ (room : ℕ) (h : Passes (check_answer c s l π room)) where
    pub accepted_formed : WellFormed c s l π
    unfolding check_answer
    accepted_formed = input_formed c s l π room (passes_then _ _ h).0

    pub accepted_enough : length s ≤ room
    unfolding check_answer
    accepted_enough = input_enough c s l π room (passes_then _ _ h).0

    weighed : Passes (weighed_answer π.weight c s (aim_of c s l))
    unfolding check_answer
    weighed = (passes_then _ _ h).1

    pub accepted_within : AllWithin π.weight τ s
    unfolding targets_of
    accepted_within = weighed_within π.weight c s (aim_of c s l) weighed

    pub accepted_light : AllWithin greatest_weight τ s
    accepted_light =
        all_larger _ greatest_weight (range_formed c s l π accepted_formed).weight_within τ s accepted_within

    accepted_decomposes : Decomposes c s l (shifted_rows τ s)
    unfolding targets_of
    accepted_decomposes = record {
      hold = weighed_hold π.weight c s (aim_of c s l) weighed;
      adds_up = weighed_adds π.weight c s (aim_of c s l) weighed;
    }

    -- demand 3, the floor
    pub floor_kept : Floors (domain_of c l) (floor_of c) (terms_of c)
    floor_kept =
        let own = sheets_checked c s l π accepted_formed in
        let d = accepted_decomposes in
        floor (domain_of c l) (scale_of s) (floor_of c) (terms_of c) (shifted_rows τ s)
        (record {
          scale = own.proof.header.scale_positive;
          sized = terms_sized c;
          placed = rw own.same at (rows_stay_placed τ s own.proof);
          hold = d.hold;
          adds_up = λ α l. d.adds_up α l ∙ targets_meant α;
        })

  -- ---- and what is accepted

  accepts : (room : ℕ) → WellFormed c s l π → length s ≤ room → AllWithin π.weight τ s
      → Decomposes c s l (shifted_rows τ s) → check_answer c s l π room ≡ accepted (row_count s)
  unfolding check_answer targets_of
  accepts room f e w d =
      then_on _ _ (input_passes c s l π room f e)
      ∙ weighed_accepted π.weight c s (aim_of c s l) w d.hold d.adds_up

  -- an acceptance carries k
  pub accepted_rows : (room : ℕ) → Passes (check_answer c s l π room)
      → check_answer c s l π room ≡ accepted (row_count s)
  accepted_rows room h =
      accepts room (accepted_formed room h) (accepted_enough room h) (accepted_within room h)
      (accepted_decomposes room h)

  -- demand 2, the decision
  pub decision : (room : ℕ) → WellFormed c s l π → length s ≤ room
      → (check_answer c s l π room ≡ accepted (row_count s))
      ↔ (AllWithin π.weight τ s × Decomposes c s l (shifted_rows τ s))
  decision room f e = (
    λ q. let h = accepted_passes _ _ q in (accepted_within room h, accepted_decomposes room h),
    λ p. accepts room f e p.0 p.1,
  )

  -- demand 3, exact proofs
  module _ (f : WellFormed c s l π) (d : Decomposes c s l (rows_of s)) where
    own : CheckedSheets c s (aim_of c s l)
    own = sheets_checked c s l π f

    exact : AddsUp (variables s) τ (slots (rows_of s))
    exact α e = d.adds_up α (e ∙ own.same)

    pub exact_accepted : (room : ℕ) → length s ≤ room → check_answer c s l π room ≡ accepted (row_count s)
    exact_accepted room e =
        accepts room f e (same_within τ s own.proof exact π.weight (fits_formed c s l π f).weights)
        (rw (rows_stay τ s exact) d)

    pub exact_bytes : Bytes s → exact_proof τ s ≡ s
    exact_bytes b = same_proof τ s own.proof exact b

  -- the answer is short
  pub check_short : {limit : ℕ} (room : ℕ) → 27 < limit → Bytes c → Bytes s → Short limit (check_answer c s l π room)
  unfolding check_answer targets_of
  check_short room h bc bs =
      short_then _ _ (input_short c s l π room h bc bs)
      (weighed_short π.weight c s (aim_of c s l) (omega arith) bc bs)

-- note 7: a larger profile accepts as well
pub accepted_larger : (c s l : List ℕ) (π ρ : Profile) → Larger π ρ → (room : ℕ) → Passes (check_answer c s l π room)
    → check_answer c s l ρ room ≡ accepted (row_count s)
accepted_larger c s l π ρ larger room h =
    accepts c s l ρ room (formed_larger c s l π ρ larger (accepted_formed c s l π room h))
    (accepted_enough c s l π room h)
    (all_larger _ _ larger.weight_larger _ s (accepted_within c s l π room h))
    (accepted_decomposes c s l π room h)

-- what an acceptance writes, under any profile
pub written : (c s l : List ℕ) (π : Profile) (out : List ℕ) → Passes (check_answer c s l π (length out))
    → output_of c s l π out ≡ exact_proof (targets_of c s l) s ++ drop (length s) out
unfolding output_of
written c s l π out h = rw h

-- ---- the promises, for whatever is to say that the check accepts, and with how many rows

module _ (c s l : List ℕ) (π : Profile) (out : List ℕ) where
  abbrev Passed : Type 0
  Passed = Passes (check_answer c s l π (length out))

  kept : blameless (check_answer c s l π (length out)) ≡ false → output_of c s l π out ≡ out
  unfolding output_of
  kept h = rw h

  -- the first bytes, and the later ones
  written_first : Passed → take (length s) (output_of c s l π out) ≡ exact_proof (targets_of c s l) s
  written_first h = rw (written c s l π out h) (take_at _ (drop (length s) out) _ (exact_length (targets_of c s l) s))

  written_rest : drop (length s) (output_of c s l π out) ≡ drop (length s) out
  written_rest =
      passes_or_fails (check_answer c s l π (length out))
      (λ h.
      rw (written c s l π out h)
      (drop_at (exact_proof (targets_of c s l) s) (drop (length s) out) (length s) (exact_length (targets_of c s l) s)))
      (λ h. rw (kept h))

  written_reads : Passed
      → (scale_of (take (length s) (output_of c s l π out)) ≡ scale_of s)
      × (rows_of (take (length s) (output_of c s l π out)) ≡ shifted_rows (targets_of c s l) s)
  unfolding targets_of
  written_reads h =
      let own = sheets_checked c s l π (accepted_formed c s l π (length out) h) in
      let exact = exact_proof (targets_of c s l) s in
      rw (written_first h) (
        ap scale_of (sym (append-nil exact)) ∙ exact_scale (targets_of c s l) s [] own.proof.header.room,
        exact_rows c s (aim_of c s l) own (accepted_light c s l π (length out) h),
      )

  refused_kept : (Passed → ⊥) → output_of c s l π out ≡ out
  refused_kept n = passes_or_fails (check_answer c s l π (length out)) (λ h. absurd (n h)) kept

  pub check_promises : (Enough Accepted : Type 0) (k : ℕ) → (Enough → LongEnough s out) → Accepted ↔ Passed
      → (Passed → k ≡ row_count s) → Bytes s → (o : List ℕ) → o ≡ output_of c s l π out
      → CheckPromises c s l π out Enough Accepted k o
  check_promises Enough Accepted k enough meant counted b o e = record {
    decides = λ f r.
        let d = decision c s l π (length out) f (enough r) in (
          λ a. d.0 (accepted_rows c s l π (length out) (meant.0 a)),
          λ p. meant.1 (accepted_passes _ _ (d.1 p)),
        );
    counts = λ a. counted (meant.0 a);
    reads = λ a. rw e (written_reads (meant.0 a));
    rest = rw e written_rest;
    leaves = λ n. e ∙ refused_kept (λ h. n (meant.1 h));
    floors = λ a. floor_kept c s l π (length out) (meant.0 a);
    keeps = λ f r d.
        let h = accepted_passes _ _ (exact_accepted c s l π f d (length out) (enough r)) in
        (meant.1 h, e ∙ written c s l π out h ∙ rw (exact_bytes c s l π f d b));
    larger = λ a ρ l'.
        let h = meant.0 a in
        let q = accepted_larger c s l π ρ l' (length out) h in
        (q ∙ rw (counted h), written c s l ρ out (accepted_passes _ _ q) ∙ sym (e ∙ written c s l π out h));
    formed = formed_profiled c s l π;
    full = check_full c s l;
  }

  -- of an entry point that refuses before it checks
  pub never_promises : (Enough Accepted : Type 0) (k : ℕ) → (Enough → ⊥) → (Accepted → ⊥) → (o : List ℕ) → o ≡ out
      → CheckPromises c s l π out Enough Accepted k o
  never_promises Enough Accepted k short refused o e = record {
    decides = λ f r. absurd (short r);
    counts = λ a. absurd (refused a);
    reads = λ a. absurd (refused a);
    rest = rw e;
    leaves = λ n. e;
    floors = λ a. absurd (refused a);
    keeps = λ f r d. absurd (short r);
    larger = λ a. absurd (refused a);
    formed = formed_profiled c s l π;
    full = check_full c s l;
  }

-- ---- what an acceptance leaves in the output, read as a proof of k rows

module _ (c s l : List ℕ) (π : Profile) (out : List ℕ) (h : Passes (check_answer c s l π (length out))) where
  own_sheets : CheckedSheets c s (aim_of c s l)
  own_sheets = sheets_checked c s l π (accepted_formed c s l π (length out) h)

  proof_room : ProofRoom s (shape_of s)
  proof_room = own_sheets.proof.header.room

  abbrev left : List ℕ
  left = output_of c s l π out

  left_variables : variables left ≡ variables s
  left_variables =
      rw (written c s l π out h) (exact_variables (targets_of c s l) s (drop (length s) out) proof_room)

  pub claim_left : 8 ≤ length c
  claim_left = claim_eight c s _ own_sheets

  pub room_left : ProofRoom left (record { n = variables left; k = row_count s })
  room_left = rw left_variables (record {
    few = proof_room.few;
    rows = proof_room.rows;
    long = rw (written c s l π out h) (omega (
      arith,
      length-append (exact_proof (targets_of c s l) s) (drop (length s) out),
      exact_length (targets_of c s l) s,
      proof_room.long,
    ));
  })

  pub scale_left : scale_of left ≡ scale_of s
  scale_left = rw (written c s l π out h) (exact_scale (targets_of c s l) s (drop (length s) out) proof_room)

  pub weights_left : (i : ℕ) → i < row_count s
      → triple_of left (record { n = variables left; k = row_count s }) i ≡ triple_for (weights_for (targets_of c s l) s i)
  weights_left i m =
      rw left_variables (rw (written c s l π out h)
      (exact_weights (targets_of c s l) s (drop (length s) out) proof_room (accepted_light c s l π (length out) h) i m))
