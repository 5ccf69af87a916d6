-- Laws of weights written back: no other byte changes, what is written reads back, and a sheet written back as it was
-- is the same.
use mathlib.Core.Path.{◌≡◌, refl, sym, ◌∙◌, ap}
use mathlib.Core.Bool.{Bool, true}
use mathlib.Core.List.{List, ◌++◌}
use Prim.Native.Nat.{ℕ, zero, suc, ◌+◌, ◌*◌, ◌<◌, ◌≤◌}
use native.Mathlib.Decide.{dec_lt}
use native.Mathlib.Nat.{mul-le-mul_right}
use native.Mathlib.Numerals.{add-one}
use native.Mathlib.Omega.{arith}
use lib.IntN.{pos}
use lib.ListN.{length, get_or}
use Rattle.integers.specs.Words.{Bytes, i32_at, with_i32}
use Rattle.integers.proofs.words.Laws.{written_length, written_before, written_append, read_before, read_written, written_read}
use Rattle.points.specs.Points.{same_point}
use Rattle.points.specs.Lists.{table}
use Rattle.points.proofs.Lists.{table_same}
use Rattle.squares.specs.Rows.{Row}
use Rattle.squares.specs.declared.rows.Weights.{Weights}
use Rattle.sheets.specs.Layout.{shape_of, place, triple_at, proof_length, ProofRoom}
use Rattle.sheets.specs.declared.layout.Shape.{Shape}
use Rattle.rows.specs.ProofSheet.{v_of, w_of, words_at, triple_of, weights_of, row_of, rows_of, triple_for, Suits, Narrow}
use Rattle.rows.specs.declared.proof_sheet.Triple.{Triple}
use Rattle.rows.proofs.proof_sheet.Laws.{v_same, w_same, rows_table, suits_read, lone_again}
use Rattle.writing.specs.Writing.{with_triple, with_weights, with_rows}

-- ---- one triple

module _ (s : List ℕ) (at : ℕ) (x : Triple) where
  abbrev one : List ℕ
  one = with_i32 s at x.p

  abbrev two : List ℕ
  two = with_i32 one (at + 4) x.q

  triple_length : length (with_triple s at x) ≡ length s
  triple_length = written_length two (at + 8) x.r ∙ written_length one (at + 4) x.q ∙ written_length s at x.p

  triple_before : (j : ℕ) → j < at → get_or (with_triple s at x) j 0 ≡ get_or s j 0
  triple_before j h =
      written_before two (at + 8) x.r j (omega arith) ∙ written_before one (at + 4) x.q j (omega arith)
      ∙ written_before s at x.p j h

  triple_append : (l : List ℕ) → at + 12 ≤ length s → with_triple (s ++ l) at x ≡ with_triple s at x ++ l
  triple_append l h =
      let l₁ = written_length s at x.p in
      let l₂ = written_length one (at + 4) x.q ∙ l₁ in
      rw (
        written_append s at x.p l (omega arith),
        written_append one (at + 4) x.q l (omega arith),
        written_append two (at + 8) x.r l (omega arith),
      )

  triple_reads : at + 12 ≤ length s → Narrow x → words_at (with_triple s at x) at ≡ x
  triple_reads h f =
      let l₁ = written_length s at x.p in
      let l₂ = written_length one (at + 4) x.q ∙ l₁ in
      rw (
        read_before two (at + 8) x.r at (omega arith),
        read_before one (at + 4) x.q at (omega arith),
        read_written s at x.p (omega arith) f.p_fits,
        read_before two (at + 8) x.r (at + 4) (omega arith),
        read_written one (at + 4) x.q (omega arith) f.q_fits,
        read_written two (at + 8) x.r (omega arith) f.r_fits,
      )

  triple_earlier : (p : ℕ) → p + 12 ≤ at → words_at (with_triple s at x) p ≡ words_at s p
  triple_earlier p h = rw (same p (omega arith), same (p + 4) (omega arith), same (p + 8) (omega arith))
    where
      same : (p : ℕ) → p + 4 ≤ at → i32_at (with_i32 two (at + 8) x.r) p ≡ i32_at s p
      same p h =
          read_before two (at + 8) x.r p (omega arith) ∙ read_before one (at + 4) x.q p (omega arith)
          ∙ read_before s at x.p p h

-- what was read and is written again gives the same bytes
triple_again : (s : List ℕ) (at : ℕ) → Bytes s → with_triple s at (words_at s at) ≡ s
triple_again s at b = rw (written_read s at b, written_read s (at + 4) b, written_read s (at + 8) b)

-- ---- the weights of the first rows

module _ (weights : ℕ → Weights) (s : List ℕ) (sh : Shape) where
  -- the bytes with i rows written, and the triple that is written next
  abbrev so : ℕ → List ℕ
  so i = with_rows weights s sh i

  abbrev next : ℕ → Triple
  next i = triple_for (weights i)

  pub rows_none : so 0 ≡ s
  unfolding with_rows
  rows_none = refl

  pub rows_more : (i : ℕ) → so (i + 1) ≡ with_weights (so i) sh i (weights i)
  unfolding with_rows
  rows_more i = rw add-one

  pub rows_length : (i : ℕ) → length (so i) ≡ length s
  unfolding with_rows
  rows_length zero = refl
  rows_length (suc i) = triple_length (so i) (triple_at sh i) (next i) ∙ rows_length i

  -- header and points stay
  pub rows_before : (i j : ℕ) → j < place 8 sh.k (2 * sh.n) → get_or (so i) j 0 ≡ get_or s j 0
  unfolding with_rows
  rows_before zero j h = refl
  rows_before (suc i) j h = triple_before (so i) (triple_at sh i) (next i) j (omega arith) ∙ rows_before i j h

  -- and so does what comes after the proof
  pub rows_append : (l : List ℕ) (i : ℕ) → i ≤ sh.k → proof_length sh ≤ length s
      → with_rows weights (s ++ l) sh i ≡ so i ++ l
  unfolding with_rows
  rows_append l zero h r = refl
  rows_append l (suc i) h r =
      rw (rows_append l i (omega arith) r)
      (triple_append (so i) (triple_at sh i) (next i) l (rw rows_length (omega (arith, mul-le-mul_right 12 h))))

  -- each triple reads back
  pub rows_read : (i j : ℕ) → j < i → i ≤ sh.k → proof_length sh ≤ length s → ((j : ℕ) → j < sh.k → Narrow (next j))
      → triple_of (so i) sh j ≡ next j
  unfolding with_rows
  rows_read zero j h l r f = absurd (omega arith)
  rows_read (suc i) j h l r f = go (dec_lt j i) (λ g. rows_read i j g (omega arith) r f)
    where
      go : Dec (j < i) → (j < i → words_at (so i) (triple_at sh j) ≡ next j)
          → words_at (with_triple (so i) (triple_at sh i) (next i)) (triple_at sh j) ≡ next j
      go (yes g) below =
          triple_earlier (so i) (triple_at sh i) (next i) (triple_at sh j) (omega (arith, mul-le-mul_right 12 g))
          ∙ below g
      go (no g) below =
          let q : j ≡ i = omega arith in
          let room : triple_at sh i + 12 ≤ length (so i) = rw rows_length (omega (arith, mul-le-mul_right 12 l)) in
          rw q (triple_reads (so i) (triple_at sh i) (next i) room (f i l))

  -- weights written as they were give the same sheet, byte by byte
  rows_again : (i : ℕ) → Bytes s → ((j : ℕ) → j < i → next j ≡ triple_of s sh j) → so i ≡ s
  unfolding with_rows
  rows_again zero b h = refl
  rows_again (suc i) b h =
      rw (rows_again i b (λ j l. h j (omega arith)), h i (omega arith)) (triple_again s (triple_at sh i) b)

-- ---- rows

module _ (s : List ℕ) (sh : Shape) where
  abbrev lone : ℕ → Bool
  lone i = same_point (v_of s sh i) (w_of s sh i)

  -- a row's weights are written as they were, and a sheet whose rows all are is the same sheet
  module _ (unused : (i : ℕ) → i < sh.k → lone i ≡ true → ((triple_of s sh i).q ≡ pos 0) × ((triple_of s sh i).r ≡ pos 0))
    where
      pub row_again : (i : ℕ) → i < sh.k → triple_for (row_of s sh i).weights ≡ triple_of s sh i
      row_again i l = lone_again (lone i) (triple_of s sh i) (unused i l)

      pub sheet_again : (weights : ℕ → Weights) → Bytes s → ((i : ℕ) → i < sh.k → weights i ≡ (row_of s sh i).weights)
          → with_rows weights s sh sh.k ≡ s
      sheet_again weights b same = rows_again weights s sh sh.k b (λ i l. ap triple_for (same i l) ∙ row_again i l)

  -- what is written reads back as the same rows with those weights
  module _ (weights : ℕ → Weights) (room : ProofRoom s sh)
      (narrow : (i : ℕ) → i < sh.k → Narrow (triple_for (weights i)))
      (suits : (i : ℕ) → i < sh.k → Suits (lone i) (weights i)) where
    abbrev written : List ℕ
    written = with_rows weights s sh sh.k

    abbrev row : ℕ → Row
    row i = record { v = v_of s sh i; w = w_of s sh i; weights = weights i }

    kept : (j : ℕ) → j < place 8 sh.k (2 * sh.n) → get_or written j 0 ≡ get_or s j 0
    kept = rows_before weights s sh sh.k

    row_written : (i : ℕ) → i < sh.k → row_of written sh i ≡ row i
    row_written i l =
        rw (v_same written s sh kept i l, w_same written s sh kept i l)
        (ap (λ (x : Triple). record { v = v_of s sh i; w = w_of s sh i; weights = weights_of (lone i) x })
        (rows_read weights s sh sh.k i l (omega arith) room.long narrow)
        ∙ ap (λ (a : Weights). record { v = v_of s sh i; w = w_of s sh i; weights = a })
        (suits_read (lone i) (weights i) (suits i l)))

    pub sheet_read : sh ≡ shape_of s → rows_of written ≡ table row sh.k
    sheet_read e =
        let shape : sh ≡ shape_of written = e ∙ rw (kept 0 (omega arith), kept 2 (omega arith), kept 3 (omega arith)) in
        sym (rows_table written sh shape) ∙ table_same (row_of written sh) row sh.k row_written
