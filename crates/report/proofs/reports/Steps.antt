-- The steps of the functions that put a report.
use mathlib.Core.Path.{◌≡◌, refl, sym, ◌∙◌}
use mathlib.Core.Bool.{Bool, true, false, and-eq-true_iff}
use mathlib.Core.List.{List, [], ◌∷◌}
use Prim.Native.Nat.{ℕ, zero, suc, ◌+◌, ◌*◌, ◌^◌, ◌<◌, ◌≤◌}
use native.Mathlib.Omega.{arith}
use lib.Dec.{leb}
use lib.IntN.{ℤ}
use lib.ListN.{length, length-append}
use borrow.Author.Tests.{le-leb, lt-leb, leb-true}
use mir.Syntax.{w32, w64}
use mir.Val.{Fits}
use Rattle.integers.specs.Words.{Bytes}
use Rattle.bounds.specs.Bounds.{most_rows}
use Rattle.answers.specs.Answers.{Answer, says, Passes}
use Rattle.answers.specs.declared.answers.Sheet.{Sheet}
use Rattle.answers.specs.declared.answers.Verdict.{Verdict}
use Rattle.answers.specs.declared.answers.Verdict.TheVariants.{Accepted, Refused}
use Rattle.answers.proofs.answers.Laws.{failed, passed, accepted_says, accepted_value}
use Rattle.sheets.specs.Layout.{variables, ProofRoom}
use Rattle.sheets.specs.ClaimSheet.{floor_of}
use Rattle.sheets.specs.declared.layout.Shape.{Shape}
use Rattle.sheets.proofs.claim_sheet.Laws.{floor_fits}
use Rattle.rows.specs.ProofSheet.{scale_of, triple_of}
use Rattle.rows.specs.declared.proof_sheet.Triple.{Triple}
use Rattle.rows.proofs.proof_sheet.Laws.{scale_bound, triple_narrow}
use Rattle.text.specs.Text.{texts_to, Room, Written}
use Rattle.text.specs.Lines.{accepted_line, row_line, refused_line}
use Rattle.text.proofs.text.Laws.{room_first, room_then, written_then, texts_start, texts_room, texts_short}
use Rattle.text.proofs.lines.Laws.{accepted_short, line_short, refusal_short}
use Rattle.report.specs.Reports.{ended, shape_with, shown_of, CarriesRows, Carries, Shows, verdict_line, row_text, rows_text, report_lines, has_rows, reportable, report_text}
use Rattle.report.proofs.reports.Laws.{refused_line_lem, accepted_line_lem, none_shown, all_shown}

-- ---- the first line, of v

module _ (c s l : List ℕ) (at : ℕ) (v : Verdict) where
  -- a refusal: its numbers as they were read
  module _ (x : Sheet) (h : v ≡ Refused x) (number index : ℕ) (en : number ≡ (says v).number)
      (ei : index ≡ (says v).value) (f : Fits w32 number) (g : Fits w64 index) where
    refused_here : verdict_line c s (says v) ≡ refused_line number index
    refused_here = refused_line_lem c s (says v) (failed v _ refl x h) ∙ rw (en, ei)

    refused_short : length (refused_line number index) ≤ 42
    refused_short = refusal_short number index (omega (arith, f.fits)) (omega (arith, g.fits))

    pub refused_room : at + 52 ≤ length l → Room l at (refused_line number index)
    refused_room r = record { room = omega (arith, refused_short) }

    module _ (o : List ℕ) (end : ℕ) (w : Written l at (refused_line number index) o end) where
      pub refused_written : Written l at (verdict_line c s (says v)) o end
      refused_written = rw refused_here w

      pub refused_ends : end ≤ at + 52
      refused_ends = omega (arith, w.ends, refused_short)

  -- an acceptance: a prime marks a number as the machine reads it back
  pub claim_carried : (k : ℕ) → v ≡ Accepted k → Carries c s (says v) → 8 ≤ length c
  claim_carried k h carries = carries.claim (passed v _ refl k h)

  module _ (k : ℕ) (h : v ≡ Accepted k) (carries : CarriesRows s (says v)) where
    is_accepted : says v ≡ says (Accepted k)
    is_accepted = rw h

    room_carried : ProofRoom s (shape_with s k)
    room_carried = rw (is_accepted, accepted_value k) at (carries.rows (passed v _ refl k h))

    pub proof_carried : 8 ≤ length s
    proof_carried = omega (arith, room_carried.long)

    module _ (scale : ℕ) (floor floor' : ℤ) (es : scale ≡ scale_of s) (ef : floor ≡ floor_of c) (back : floor' ≡ floor)
        (bc : Bytes c) (bs : Bytes s) where
      accepted_here : verdict_line c s (says v) ≡ accepted_line k scale floor'
      accepted_here = accepted_line_lem c s (says v) k (is_accepted ∙ accepted_says k) ∙ rw (back, ef, es)

      short : length (accepted_line k scale floor') ≤ 52
      short =
          let S : scale < 10 ^ 10 = omega (arith, es, scale_bound s bs) in
          accepted_short k scale floor' (omega (arith, room_carried.rows)) S (rw (back, ef) (floor_fits c bc))

      pub accepted_room : at + 52 ≤ length l → Room l at (accepted_line k scale floor')
      accepted_room r = record { room = omega (arith, short) }

      module _ (o : List ℕ) (end : ℕ) (w : Written l at (accepted_line k scale floor') o end) where
        pub accepted_written : Written l at (verdict_line c s (says v)) o end
        accepted_written = rw accepted_here w

        pub accepted_ends : end ≤ at + 52
        accepted_ends = omega (arith, w.ends, short)

    -- the rows that it shows: n is the number of variables that was read
    module _ (n : ℕ) (en : n ≡ variables s) where
      pub rows_shown : record { n = n; k = k } ≡ shown_of s (says v)
      rows_shown = rw en (sym (all_shown s (says v) k (is_accepted ∙ accepted_says k)))

      pub shows_rows : Shows s (record { n = n; k = k })
      shows_rows = record { rows = λ _. rw en room_carried }

  module _ (x : Sheet) (h : v ≡ Refused x) where
    pub nothing_shown : record { n = 0; k = 0 } ≡ shown_of s (says v)
    nothing_shown = sym (none_shown s (says v) (failed v _ refl x h))

pub shows_nothing : (s : List ℕ) → Shows s (record { n = 0; k = 0 })
shows_nothing s = record { rows = λ l. absurd (omega arith) }

-- ---- a row's line: x is the triple that was read

module _ (s l : List ℕ) (sh : Shape) (i at : ℕ) (x : Triple) (e : x ≡ triple_of s sh i) where
  pub row_room : Room l at (row_text s sh i) → Room l at (row_line i x)
  unfolding row_text ended
  row_room r = rw e (room_first _ _ r)

  module _ (m : List ℕ) (mid : ℕ) (w : Written l at (row_line i x) m mid) where
    pub row_feed : Room l at (row_text s sh i) → Room m mid (10 ∷ [])
    unfolding row_text ended
    row_feed r = room_then _ _ r (rw e at w)

    pub row_written : (o : List ℕ) (end : ℕ) → Written m mid (10 ∷ []) o end → Written l at (row_text s sh i) o end
    unfolding row_text ended
    row_written o end u = written_then _ _ (rw e at w) u

-- ---- the lines of all rows

module _ (s l : List ℕ) (sh : Shape) (at : ℕ) where
  pub rows_start : Room l at (rows_text s sh) → Written l at (texts_to (row_text s sh) 0) l at
  rows_start r = texts_start (row_text s sh) l at (omega (arith, r.room))

  module _ (i mid : ℕ) (m : List ℕ) (w : Written l at (texts_to (row_text s sh) i) m mid) where
    pub row_shown_lem : Shows s sh → i < sh.k → ProofRoom s sh
    row_shown_lem h l = h.rows (omega arith)

    pub next_room : Room l at (rows_text s sh) → i < sh.k → Room m mid (row_text s sh i)
    next_room r h = texts_room (row_text s sh) i w sh.k r h

    pub rows_end : sh.k ≤ i → i ≤ sh.k → Written l at (rows_text s sh) m mid
    rows_end h g = let e : i ≡ sh.k = omega arith in rw e at w

-- no more rows are shown than a proof can have
shown_few : (s : List ℕ) (sh : Shape) → Shows s sh → sh.k ≤ most_rows
shown_few s sh h = go sh.k refl
  where
    go : (k : ℕ) → sh.k ≡ k → sh.k ≤ most_rows
    go zero e = omega (arith, e)
    go (suc k) e = (h.rows (omega (arith, e))).rows

row_short : (s : List ℕ) (sh : Shape) (i : ℕ) → Bytes s → i < most_rows → length (row_text s sh i) ≤ 50
unfolding row_text ended
row_short s sh i b h =
    let f = triple_narrow s sh i b in
    let x = triple_of s sh i in
    simp length-append (omega (arith, line_short i x (omega arith) f.p_fits f.q_fits f.r_fits))

rows_short : (s : List ℕ) (sh : Shape) → Bytes s → sh.k ≤ most_rows → length (rows_text s sh) ≤ most_rows * 50
rows_short s sh b h =
    omega (arith, texts_short (row_text s sh) 50 sh.k (λ i l. row_short s sh i b (omega arith)))

-- ---- sheets that have what a report prints: of v, which is an acceptance of k rows

module _ (c s : List ℕ) (v : Verdict) where
  pub refusal_reported : (x : Sheet) → v ≡ Refused x → true ≡ reportable c s (says v)
  unfolding reportable
  refusal_reported x h = rw (failed v _ refl x h)

  module _ (k : ℕ) (h : v ≡ Accepted k) where
    pub no_claim : length c < 8 → leb 8 (length c) ≡ reportable c s (says v)
    unfolding reportable
    no_claim l = rw (passed v _ refl k h, lt-leb 8 (length c) l)

    pub rows_reported : 8 ≤ length c → (b : Bool) → b ≡ has_rows s k → b ≡ reportable c s (says v)
    unfolding reportable
    rows_reported l b e = rw (passed v _ refl k h, le-leb 8 (length c) l) (e ∙ rw (h, accepted_value k))

-- what such sheets have
room_had : (s : List ℕ) (k : ℕ) → has_rows s k ≡ true → ProofRoom s (shape_with s k)
unfolding has_rows
room_had s k h =
    let p = (and-eq-true_iff _ _).0 h in
    let q = (and-eq-true_iff _ _).0 p.0 in
    let r = (and-eq-true_iff (leb 8 (length s)) _).0 q.0 in
    record { few = leb-true _ _ r.1; rows = leb-true _ _ q.1; long = leb-true _ _ p.1 }

carried : (c s : List ℕ) (a : Answer) → reportable c s a ≡ true → Carries c s a
unfolding reportable
carried c s a h = record {
  claim = λ e. leb-true _ _ (both e).0;
  proof = record { rows = λ e. room_had s a.value (both e).1 };
}
  where
    both : Passes a → (leb 8 (length c) ≡ true) × (has_rows s a.value ≡ true)
    both e = (and-eq-true_iff (leb 8 (length c)) (has_rows s a.value)).0 (rw e at h)

-- ---- the report of a verdict: b is whether the sheets have what it prints

abbrev longest : ℕ
longest = 53 + 50 * most_rows

module _ (c s l : List ℕ) (v : Verdict) (b : Bool) (e : b ≡ reportable c s (says v)) where
  pub unreported : b ≡ false → Written l 0 (report_text c s (says v)) l 0
  unfolding report_text
  unreported t = rw (← e, t) (record { bytes = refl; ends = refl; kept = refl; inside = omega arith })

  module _ (t : b ≡ true) where
    pub report_carried : Carries c s (says v)
    report_carried = carried c s (says v) (sym e ∙ t)

    pub rows_carried : CarriesRows s (says v)
    rows_carried = report_carried.proof

    -- first is where the first line ends, m and o are the buffer after it and after its line feed
    module _ (m o : List ℕ) (first mid : ℕ) (w : Written l 0 (verdict_line c s (says v)) m first)
        (u : Written m first (10 ∷ []) o mid) where
      line_written : Written l 0 (ended (verdict_line c s (says v))) o mid
      unfolding ended
      line_written = written_then _ _ w u

      -- sh has the rows that are shown
      module _ (sh : Shape) (es : sh ≡ shown_of s (says v)) where
        pub rows_room : Bytes s → Shows s sh → first ≤ 52 → length l ≡ longest → Room o mid (rows_text s sh)
        rows_room bs h f el = record {
          room = omega (arith, rows_short s sh bs (shown_few s sh h), w.kept, u.kept, u.ends, f, el);
        }

        pub report_written : (p : List ℕ) (end : ℕ) → Written o mid (rows_text s sh) p end
            → Written l 0 (report_text c s (says v)) p end
        unfolding report_text report_lines
        report_written p end x = rw (← e, t) (written_then _ _ line_written (rw es at x))
