-- Laws of pages: how long their parts are, and what they show.
use mathlib.Core.Path.{◌≡◌, refl, sym, ◌∙◌, ap}
use mathlib.Core.Bool.{Bool, true, false, cond}
use mathlib.Core.List.{List, [], ◌++◌, append_assoc}
use Prim.Native.Nat.{ℕ, zero, suc, ◌+◌, ◌*◌, ◌-◌, ◌<◌, ◌≤◌}
use native.Mathlib.Decide.{dec_lt}
use native.Mathlib.Omega.{arith}
use lib.Dec.{ltb}
use lib.IntN.{ℤ, pos}
use lib.ListN.{length, get_or, drop, length-append, length-replicate, get_or-append}
use lib.Seq.{drop_at, get_or_at, get_or-append-add}
use borrow.Author.Tests.{lt-ltb, le-ltb}
use mir.Syntax.{w32}
use mir.Val.{SFits}
use Rattle.integers.proofs.Integers.{ints, sizes}
use Rattle.answers.specs.Answers.{Answer}
use Rattle.rows.specs.ProofSheet.{triple_of, Narrow}
use Rattle.rows.specs.declared.proof_sheet.Triple.{Triple}
use Rattle.text.specs.Text.{ascii, integer, texts_to}
use Rattle.text.specs.Columns.{spaces}
use Rattle.text.proofs.text.Laws.{integer_short, texts_length, texts_byte, texts_same}
use Rattle.text.proofs.columns.Laws.{column_length}
use Rattle.report.specs.Reports.{shown_of, verdict_line}
use Rattle.pages.specs.Pages.{page_width, page_lines, page_rows, Lined, page_line, row_columns, row_shown, more_shown, table_text, table_line, page_of, verdict_page}

pub line_length : (text : List ℕ) → length text ≤ page_width → length (page_line text) ≡ suc page_width
unfolding page_line
line_length text h = simp (length-append, length-replicate) (omega arith)

line_feed : (text : List ℕ) → length text ≤ page_width → get_or (page_line text) page_width 0 ≡ 10
unfolding page_line
line_feed text h =
    let before = spaces (page_width - length text) in
    ap (λ (l : List ℕ). get_or l page_width 0) (sym (append_assoc text before _))
    ∙ get_or_at (text ++ before) 10 [] 0 page_width (simp (length-append, length-replicate) (omega arith))

-- a weight has at most 11 characters and an index on a page 2, so both fit their columns
pub weight_narrow : (z : ℤ) → SFits w32 z → length (integer z) ≤ 12
weight_narrow z f = omega (ints, integer_short 9 z (omega (ints, sizes z)))

pub index_narrow : (i : ℕ) → i < page_rows → length (integer (pos i)) ≤ 4
index_narrow i h = omega (arith, integer_short 1 (pos i) (omega arith))

row_length : (i : ℕ) (x : Triple) → i < page_rows → Narrow x → length (row_columns i x) ≡ 40
unfolding row_columns
row_length i x h f =
    simp length-append (omega (
      arith,
      column_length 4 (pos i) (index_narrow i h),
      column_length 12 x.p (weight_narrow _ f.p_fits),
      column_length 12 x.q (weight_narrow _ f.q_fits),
      column_length 12 x.r (weight_narrow _ f.r_fits),
    ))

module _ (x : ℕ → Triple) (k : ℕ) (narrow : (i : ℕ) → Narrow (x i)) where
  shown_short : (i : ℕ) → i < page_rows → length (row_shown x k i) ≤ 40
  unfolding row_shown
  shown_short i h = go (ltb i k)
    where
      go : (b : Bool) → length (cond b (row_columns i (x i)) []) ≤ 40
      go true = omega (arith, row_length i (x i) h (narrow i))
      go false = omega arith

  pub table_short : (i : ℕ) → length (table_text x k i) ≤ 40
  unfolding table_text more_shown
  table_short i = go (dec_lt i page_rows)
    where
      more : (b : Bool) → length (cond b (ascii "more") []) ≤ 40
      more true = omega arith
      more false = omega arith

      go : Dec (i < page_rows)
          → length (cond (ltb i page_rows) (row_shown x k i) (cond (ltb page_rows k) (ascii "more") [])) ≤ 40
      go (yes h) = rw (lt-ltb i page_rows h) (shown_short i h)
      go (no h) = rw (le-ltb i page_rows (omega arith)) (more (ltb page_rows k))

  pub page_lined : (first : List ℕ) → length first ≤ page_width → Lined (page_of first x k)
  unfolding page_of table_line
  page_lined first h = record {
    long = rw (length-append (page_line first) table, line_length first h, texts_length lines _ (suc page_rows) all);
    fed = go;
  }
    where
      lines : ℕ → List ℕ
      lines = table_line x k

      table : List ℕ
      table = texts_to lines (suc page_rows)

      short : (i : ℕ) → length (table_text x k i) ≤ page_width
      short i = omega (arith, table_short i)

      all : (i : ℕ) → length (lines i) ≡ suc page_width
      all i = line_length (table_text x k i) (short i)

      go : (i : ℕ) → i < page_lines → get_or (page_line first ++ table) (i * suc page_width + page_width) 0 ≡ 10
      go zero l =
          get_or-append (page_line first) table 0 page_width (omega (arith, line_length first h)) ∙ line_feed first h
      go (suc i) l =
          let e : suc i * suc page_width + page_width ≡ length (page_line first) + (i * suc page_width + page_width) =
          omega (arith, line_length first h) in
          rw e (get_or-append-add (page_line first) table (i * suc page_width + page_width) 0
          ∙ texts_byte lines (suc page_width) (suc page_rows) i page_width all (omega arith) (omega arith)
          ∙ line_feed (table_text x k i) (short i))

-- ---- what a page shows

pub verdict_shown : (c s : List ℕ) (a : Answer)
    → verdict_page c s a ≡ page_of (verdict_line c s a) (triple_of s (shown_of s a)) (shown_of s a).k
unfolding verdict_page
verdict_shown c s a = refl

module _ (first : List ℕ) (x y : ℕ → Triple) (k : ℕ) (same : (i : ℕ) → i < k → x i ≡ y i) where
  row_same : (i : ℕ) → row_shown x k i ≡ row_shown y k i
  unfolding row_shown
  row_same i = go (dec_lt i k)
    where
      go : Dec (i < k) → cond (ltb i k) (row_columns i (x i)) [] ≡ cond (ltb i k) (row_columns i (y i)) []
      go (yes h) = rw (same i h)
      go (no h) = rw (le-ltb i k (omega arith))

  -- only the weights of the first k rows count
  pub page_same : page_of first x k ≡ page_of first y k
  unfolding page_of table_line table_text
  page_same =
      ap (λ (l : List ℕ). page_line first ++ l)
      (texts_same (table_line x k) (table_line y k) (suc page_rows) (λ i h. rw (row_same i)))

-- no rows leave lines 2 to 40 blank
none_blank : (x : ℕ → Triple) (i : ℕ) → table_line x 0 i ≡ page_line []
unfolding table_line table_text row_shown more_shown
none_blank x i = rw (le-ltb i 0 (omega arith)) (ap page_line (go (ltb i page_rows)))
  where
    go : (b : Bool) → ◌≡◌ {A = List ℕ} (cond b [] []) []
    go true = refl
    go false = refl

pub page_blank : (first : List ℕ) (x : ℕ → Triple) → length first ≤ page_width
    → drop (suc page_width) (page_of first x 0) ≡ texts_to (λ i. page_line []) (suc page_rows)
unfolding page_of
page_blank first x h =
    drop_at (page_line first) (texts_to (table_line x 0) (suc page_rows)) (suc page_width) (line_length first h)
    ∙ texts_same (table_line x 0) (λ i. page_line []) (suc page_rows) (λ i l. none_blank x i)
