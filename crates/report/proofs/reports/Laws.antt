-- Laws of reports: when the sheets have what an acceptance prints, and which lines those are.
use mathlib.Core.Path.{◌≡◌, refl, ap}
use mathlib.Core.Bool.{true, false}
use mathlib.Core.List.{List, ◌++◌, append_assoc, append-nil}
use Prim.Native.Nat.{ℕ, ◌<◌, ◌≤◌}
use native.Mathlib.Omega.{arith}
use lib.IntN.{ℤ}
use lib.ListN.{length, take}
use borrow.Author.Tests.{le-leb}
use Rattle.answers.specs.Answers.{Answer, accepted, blameless}
use Rattle.answers.proofs.answers.Laws.{accepted_passes, accepted_numbers}
use Rattle.sheets.specs.Layout.{ProofRoom}
use Rattle.sheets.specs.ClaimSheet.{floor_of}
use Rattle.rows.specs.ProofSheet.{scale_of, triple_of}
use Rattle.rows.specs.declared.proof_sheet.Triple.{Triple}
use Rattle.text.specs.Text.{ascii}
use Rattle.text.specs.Lines.{accepted_line, row_line, refused_line}
use Rattle.text.proofs.text.Laws.{texts_none, texts_same}
use Rattle.text.proofs.lines.Laws.{accepted_begins, refused_begins}
use Rattle.report.specs.Reports.{ended, shape_with, shown_of, verdict_line, row_text, report_lines, has_rows, reportable, report_text, lines_of}

-- ---- what a verdict shows

module _ (c s : List ℕ) (a : Answer) where
  pub refused_line_lem : blameless a ≡ false → verdict_line c s a ≡ refused_line a.number a.value
  unfolding verdict_line
  refused_line_lem h = rw h

  pub accepted_line_lem : (k : ℕ) → a ≡ accepted k → verdict_line c s a ≡ accepted_line k (scale_of s) (floor_of c)
  unfolding verdict_line
  accepted_line_lem k e = rw (accepted_passes a k e, (accepted_numbers a k e).1)

module _ (s : List ℕ) (a : Answer) where
  pub none_shown : blameless a ≡ false → shown_of s a ≡ record { n = 0; k = 0 }
  unfolding shown_of
  none_shown h = rw h

  pub all_shown : (k : ℕ) → a ≡ accepted k → shown_of s a ≡ shape_with s k
  unfolding shown_of
  all_shown k e = rw (accepted_passes a k e, (accepted_numbers a k e).1)

-- ---- what a report says, whatever sheet the weights stand in

pub accepted_word : (k S : ℕ) (b : ℤ) (rest : List ℕ) → take 8 (ended (accepted_line k S b) ++ rest) ≡ ascii "accepted"
unfolding ended
accepted_word k S b rest =
    rw (append_assoc (accepted_line k S b) (ascii "\n") rest) (accepted_begins k S b (ascii "\n" ++ rest))

pub refused_word : (number index : ℕ) → take 8 (ended (refused_line number index)) ≡ ascii "refused "
unfolding ended
refused_word number index = refused_begins number index (ascii "\n")

module _ (c s : List ℕ) where
  pub refused_lines : (a : Answer) → blameless a ≡ false
      → report_text c s a ≡ ended (refused_line a.number a.value)
  unfolding report_text reportable report_lines
  refused_lines a h =
      rw (h, refused_line_lem c s a h, none_shown s a h, texts_none (row_text s (record { n = 0; k = 0 })))
      (append-nil (ended (refused_line a.number a.value)))

  module _ (k : ℕ) (h : 8 ≤ length c) (r : ProofRoom s (shape_with s k)) where
    has_report : reportable c s (accepted k) ≡ true
    unfolding reportable has_rows
    has_report =
        rw (
          accepted_passes (accepted k) k refl,
          (accepted_numbers (accepted k) k refl).1,
          le-leb 8 (length c) h,
          le-leb 8 (length s) (omega (arith, r.long)),
          le-leb _ _ r.few,
          le-leb _ _ r.rows,
          le-leb _ _ r.long,
        )

    pub accepted_lines_lem : (S : ℕ) (x : ℕ → Triple) → scale_of s ≡ S
        → ((i : ℕ) → i < k → triple_of s (shape_with s k) i ≡ x i)
        → report_text c s (accepted k) ≡ ended (accepted_line k S (floor_of c)) ++ lines_of x k
    unfolding report_text report_lines row_text lines_of
    accepted_lines_lem S x es ex =
        rw (has_report, accepted_line_lem c s (accepted k) k refl, all_shown s (accepted k) k refl, es)
        (ap (λ (l : List ℕ). ended (accepted_line k S (floor_of c)) ++ l)
        (texts_same (row_text s (shape_with s k)) (λ i. ended (row_line i (x i))) k (λ i l. rw (ex i l))))
