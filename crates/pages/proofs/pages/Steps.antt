-- The steps of the functions that put a page.
use mathlib.Core.Path.{◌≡◌, refl, ◌∙◌, ap}
use mathlib.Core.List.{List, [], ◌∷◌}
use Prim.Native.Nat.{ℕ, suc, ◌+◌, ◌*◌, ◌-◌, ◌<◌, ◌≤◌}
use native.Mathlib.Omega.{arith}
use lib.IntN.{ℤ, pos}
use lib.ListN.{length, length-replicate, get_or-replicate}
use borrow.Author.Tests.{lt-ltb, le-ltb}
use mir.Facts.{to_z_pos}
use mir.Syntax.{w32, w64}
use mir.Val.{SFits, to_z}
use Rattle.integers.specs.Words.{Bytes}
use Rattle.answers.specs.Answers.{Answer}
use Rattle.sheets.specs.Layout.{ProofRoom}
use Rattle.sheets.specs.declared.layout.Shape.{Shape}
use Rattle.rows.specs.ProofSheet.{triple_of, Narrow}
use Rattle.rows.specs.declared.proof_sheet.Triple.{Triple}
use Rattle.rows.proofs.proof_sheet.Laws.{triple_narrow}
use Rattle.text.specs.Text.{integer, texts_to, Written}
use Rattle.text.specs.Columns.{spaces, column, Blank}
use Rattle.text.proofs.text.Laws.{written_then, written_all, texts_start, texts_next}
use Rattle.text.proofs.columns.Laws.{column_length, blank_then, blank_over}
use Rattle.report.specs.Reports.{shown_of, Shows, verdict_line}
use Rattle.pages.specs.Pages.{page_width, page_length, page_rows, Lined, page_line, row_columns, row_shown, more_shown, table_text, table_line, page_of, verdict_page}
use Rattle.pages.proofs.pages.Laws.{weight_narrow, index_narrow, line_length, table_short, page_lined, verdict_shown}

-- so many of the bytes that are blank
blank_part : {l : List ℕ} {at : ℕ} (n m : ℕ) → Blank l at n → m ≤ n → Blank l at m
blank_part n m b h = record { inside = omega (arith, b.inside); blank = b.blank }

-- nothing is put
nothing : (l : List ℕ) (at n : ℕ) → Blank l at n → Written l at [] l at
nothing l at n b = record { bytes = refl; ends = omega arith; kept = refl; inside = omega (arith, b.inside) }

-- ---- row_columns: a prime marks a number as the machine reads it back

module _ (i : ℕ) (h : i < page_rows) where
  index_is : to_z w64 i ≡ pos i
  index_is = to_z_pos w64 (omega arith)

  pub index_fits : length (integer (to_z w64 i)) ≤ 4
  index_fits = rw index_is (index_narrow i h)

pub index_blank : (l : List ℕ) (at : ℕ) → Blank l at 40 → Blank l at 4
index_blank l at b = blank_part 40 4 b (omega arith)

pub weight_fits : (z z' : ℤ) → z' ≡ z → SFits w32 z → length (integer z') ≤ 12
weight_fits z z' e f = rw e (weight_narrow z f)

module _ (i : ℕ) (x : Triple) (l m : List ℕ) (at a : ℕ) (w : Written l at (column 4 (to_z w64 i)) m a)
    (h : i < page_rows) (b : Blank l at 40) where
  weights_blank : Blank m a 36
  weights_blank =
      blank_then (column 4 (to_z w64 i)) 40 36 b w (omega (arith, column_length 4 (to_z w64 i) (index_fits i h)))

  pub p_blank : Blank m a 12
  p_blank = blank_part 36 12 weights_blank (omega arith)

  module _ (n : List ℕ) (d : ℕ) (p' : ℤ) (u : Written m a (column 12 p') n d) (f : Narrow x) (ep : p' ≡ x.p) where
    later_blank : Blank n d 24
    later_blank =
        blank_then (column 12 p') 36 24 weights_blank u (omega (arith, column_length 12 p' (weight_fits x.p p' ep f.p_fits)))

    pub q_blank : Blank n d 12
    q_blank = blank_part 24 12 later_blank (omega arith)

    module _ (o : List ℕ) (e : ℕ) (q' : ℤ) (v : Written n d (column 12 q') o e) (eq : q' ≡ x.q) where
      pub r_blank : Blank o e 12
      r_blank =
          blank_then (column 12 q') 24 12 later_blank v (omega (arith, column_length 12 q' (weight_fits x.q q' eq f.q_fits)))

      pub row_written : (k : List ℕ) (end : ℕ) (r' : ℤ) → Written o e (column 12 r') k end → r' ≡ x.r
          → Written l at (row_columns i x) k end
      unfolding row_columns
      row_written k end r' z er =
          written_then (column 4 (pos i)) _ (rw (index_is i h) at w)
          (written_then (column 12 x.p) _ (rw ep at u)
          (written_then (column 12 x.q) (column 12 x.r) (rw eq at v) (rw er at z)))

-- ---- row_shown: y is the triple that was read

module _ (s : List ℕ) (sh : Shape) (i : ℕ) where
  pub none_shown : (l : List ℕ) (at : ℕ) → Blank l at 40 → sh.k ≤ i
      → Written l at (row_shown (triple_of s sh) sh.k i) l at
  unfolding row_shown
  none_shown l at b h = rw (le-ltb i sh.k h) (nothing l at 40 b)

  module _ (l : i < sh.k) where
    pub row_there : Shows s sh → ProofRoom s sh
    row_there h = h.rows (omega arith)

    pub row_narrow : (y : Triple) → y ≡ triple_of s sh i → Bytes s → Narrow y
    row_narrow y e b = rw e (triple_narrow s sh i b)

    pub shown_written : (y : Triple) → y ≡ triple_of s sh i → (m o : List ℕ) (at end : ℕ)
        → Written m at (row_columns i y) o end → Written m at (row_shown (triple_of s sh) sh.k i) o end
    unfolding row_shown
    shown_written y e m o at end w = rw (lt-ltb i sh.k l) (rw e at w)

-- ---- table_text

module _ (x : ℕ → Triple) (k i : ℕ) (l : List ℕ) (at : ℕ) where
  pub row_text_lem : i < page_rows → (o : List ℕ) (end : ℕ) → Written l at (row_shown x k i) o end
      → Written l at (table_text x k i) o end
  unfolding table_text
  row_text_lem h o end w = rw (lt-ltb i page_rows h) w

  module _ (h : page_rows ≤ i) where
    pub more_text : page_rows < k → (o : List ℕ) (end : ℕ) → Written l at (109 ∷ 111 ∷ 114 ∷ 101 ∷ []) o end
        → Written l at (table_text x k i) o end
    unfolding table_text more_shown
    more_text m o end w = rw (le-ltb i page_rows h, lt-ltb page_rows k m) w

    pub no_text : Blank l at 40 → k ≤ page_rows → Written l at (table_text x k i) l at
    unfolding table_text more_shown
    no_text b m = rw (le-ltb i page_rows h, le-ltb page_rows k m) (nothing l at 40 b)

-- ---- a line: its text, and its line feed after so many spaces

module _ {l m : List ℕ} {at mid : ℕ} (t : List ℕ) (w : Written l at t m mid) (b : Blank l at (suc page_width))
    (short : length t ≤ page_width) where
  line_written : {o : List ℕ} {end : ℕ} → Written m (at + page_width) (10 ∷ []) o end
      → Written l at (page_line t) o end
  unfolding page_line
  line_written {o} {end} u =
      let more = page_width - length t in
      let rest : Blank m mid (suc more) = blank_then t (suc page_width) (suc more) b w (omega arith) in
      let e : at + page_width ≡ mid + more = omega (arith, w.ends) in
      written_then t _ w (blank_over more (10 ∷ []) rest (omega arith) (rw e at u))

-- ---- lines 2 to 40, of a proof's rows

module _ (s : List ℕ) (sh : Shape) where
  abbrev lines : ℕ → List ℕ
  lines i = texts_to (table_line (triple_of s sh) sh.k) i

  -- table_line
  module _ (i : ℕ) (l m : List ℕ) (at mid : ℕ) (w : Written l at (table_text (triple_of s sh) sh.k i) m mid) where
    pub table_written : Bytes s → Blank l at (suc page_width) → (o : List ℕ) (end : ℕ)
        → Written m (at + page_width) (10 ∷ []) o end
        → Written l at (table_line (triple_of s sh) sh.k i) o (at + suc page_width)
    unfolding table_line
    table_written bs b o end u =
        let short = table_short (triple_of s sh) sh.k (λ j. triple_narrow s sh j bs) i in
        let e : end ≡ at + suc page_width = omega (arith, u.ends) in
        rw e at (line_written (table_text (triple_of s sh) sh.k i) w b (omega (arith, short)) u)

  -- table: the first i lines are put
  pub table_start : (l : List ℕ) (at : ℕ) → Blank l at (suc page_rows * suc page_width)
      → Written l at (lines 0) l (at + 0 * suc page_width)
  table_start l at b =
      let e : at + 0 * suc page_width ≡ at = omega arith in
      rw e (texts_start (table_line (triple_of s sh) sh.k) l at (omega (arith, b.inside)))

  module _ (l m : List ℕ) (at i : ℕ) (w : Written l at (lines i) m (at + i * suc page_width)) where
    pub next_blank : Blank l at (suc page_rows * suc page_width) → i ≤ page_rows
        → Blank m (at + i * suc page_width) (suc page_width)
    next_blank b h =
        blank_then (lines i) (suc page_rows * suc page_width) (suc page_width) b w (omega (arith, w.ends))

    pub table_next : (o : List ℕ)
        → Written m (at + i * suc page_width) (table_line (triple_of s sh) sh.k i) o
        (at + i * suc page_width + suc page_width)
        → Written l at (lines (i + 1)) o (at + (i + 1) * suc page_width)
    table_next o u =
        let e : at + (i + 1) * suc page_width ≡ at + i * suc page_width + suc page_width = omega arith in
        rw e (texts_next (table_line (triple_of s sh) sh.k) i w u)

    pub table_end : suc page_rows ≤ i → i ≤ suc page_rows
        → Written l at (lines (suc page_rows)) m (at + suc page_rows * suc page_width)
    table_end g h = let e : i ≡ suc page_rows = omega arith in rw e at w

-- ---- lay_out: the first line ends before mid, its line feed before `later`

module _ (c s : List ℕ) (a : Answer) (l m : List ℕ) (mid : ℕ) (w : Written l 0 (verdict_line c s a) m mid)
    (short : mid ≤ 52) (b : Blank l 0 page_length) (o : List ℕ) (later : ℕ)
    (u : Written m page_width (10 ∷ []) o later) where
  fits : length (verdict_line c s a) ≤ page_width
  fits = omega (arith, w.ends, short)

  first_written : Written l 0 (page_line (verdict_line c s a)) o later
  first_written =
      line_written (verdict_line c s a) w (blank_part page_length (suc page_width) b (omega arith)) fits u

  pub table_blank : Blank o later (suc page_rows * suc page_width)
  table_blank =
      blank_then (page_line (verdict_line c s a)) page_length (suc page_rows * suc page_width) b first_written
      (omega (arith, line_length (verdict_line c s a) fits))

  module _ (sh : Shape) (p : List ℕ) (el : length l ≡ page_length)
      (v : Written o later (lines s sh (suc page_rows)) p (later + suc page_rows * suc page_width))
      (e : sh ≡ shown_of s a) where
    pub page_written : p ≡ verdict_page c s a
    unfolding verdict_page page_of
    page_written = written_all _ (written_then _ _ first_written (rw e at v)) (omega (arith, u.ends, el))

    pub lines_lined : Bytes s → Lined p
    lines_lined bs =
        rw (page_written, verdict_shown c s a)
        (page_lined (triple_of s (shown_of s a)) (shown_of s a).k (λ i. triple_narrow s (shown_of s a) i bs)
        (verdict_line c s a) fits)

-- ---- put_page

pub spaces_blank : (l : List ℕ) → l ≡ spaces page_length → Blank l 0 page_length
spaces_blank l e =
    let n : length l ≡ page_length = ap length e ∙ length-replicate {A = ℕ} page_length 32 in
    record {
      inside = omega (arith, n);
      blank = λ i _ h. rw e (get_or-replicate page_length i 32 0 (omega (arith, n)));
    }

module _ (m p : List ℕ) (copied : p ≡ m) where
  pub page_copied : (c s : List ℕ) (a : Answer) → m ≡ verdict_page c s a → p ≡ verdict_page c s a
  page_copied c s a em = copied ∙ em

  pub copy_lined : Lined m → Lined p
  copy_lined lined = rw copied lined
