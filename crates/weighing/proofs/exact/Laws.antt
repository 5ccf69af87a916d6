-- Laws of the exact proof: weights within a limit, its rows are the shifted rows, and weights that add up leave the
-- proof as it was.
use mathlib.Core.Path.{◌≡◌, refl, sym, ◌∙◌, ap}
use mathlib.Core.List.{List, ◌++◌}
use Prim.Native.Nat.{ℕ, ◌<◌, ◌≤◌}
use native.Mathlib.Omega.{arith}
use lib.Dec.{lit<}
use lib.IntN.{ℤ}
use lib.ListN.{length, get_or, length-append, get_or-append}
use Rattle.integers.proofs.Integers.{fits_within}
use Rattle.integers.specs.Words.{Bytes}
use Rattle.bounds.specs.Bounds.{greatest_weight}
use Rattle.points.specs.Points.{Exponents}
use Rattle.squares.specs.Rows as Formal
use Rattle.squares.specs.Rows.{slots}
use Rattle.squares.specs.Decomposition.{AddsUp}
use Rattle.sheets.specs.Layout.{variables, row_count, shape_of, ProofRoom}
use Rattle.rows.specs.ProofSheet.{scale_of, triple_of, row_of, rows_of, triple_for, Narrow}
use Rattle.rows.specs.declared.proof_sheet.Triple.{Triple}
use Rattle.rows.proofs.proof_sheet.Laws.{scale_same}
use Rattle.writing.specs.Writing.{with_rows}
use Rattle.writing.proofs.writing.Laws.{rows_length, rows_before, rows_append, rows_read, sheet_read, row_again, sheet_again}
use Rattle.checks.specs.ProofChecks.{Within, ProofFacts}
use Rattle.checks.proofs.proof_checks.Laws.{triple_larger}
use Rattle.targets.specs.Targets.{target_of}
use Rattle.targets.specs.declared.targets.Aim.{Aim}
use Rattle.sharing.specs.Shifts.{shifted_rows, CheckedSheets}
use Rattle.sharing.proofs.shifts.Laws.{keeps_kind, rows_are, row_stays}
use Rattle.weighing.specs.Exact.{weights_for, exact_proof, AllWithin}

pub within_narrow : (x : Triple) → Within greatest_weight x → Narrow x
within_narrow x w = record {
  p_fits = fits_within x.p greatest_weight w.p_within (lit< tt);
  q_fits = fits_within x.q greatest_weight w.q_within (lit< tt);
  r_fits = fits_within x.r greatest_weight w.r_within (lit< tt);
}

-- within a limit, and so within a larger one
pub all_larger : (limit larger : ℕ) → limit ≤ larger → (τ : Exponents → ℤ) (s : List ℕ) → AllWithin limit τ s
    → AllWithin larger τ s
all_larger limit larger l τ s w = record { within = λ i m. triple_larger limit larger l _ (w.within i m) }

-- ---- the exact proof's rows are the shifted rows

pub exact_rows : (c s : List ℕ) (t : Aim) → CheckedSheets c s t → AllWithin greatest_weight (target_of c t) s
    → rows_of (exact_proof (target_of c t) s) ≡ shifted_rows (target_of c t) s
unfolding exact_proof weights_for
exact_rows c s t given w =
    let τ : Exponents → ℤ = target_of c t in
    let room = given.proof.header.room in
    sheet_read s (shape_of s) (weights_for τ s) room (λ i l. within_narrow _ (w.within i l))
    (λ i l. keeps_kind τ s i) refl
    ∙ sym (rows_are τ s)

-- ---- the exact proof read, whatever comes after it: the proof's length, variables and scale, and the shifted weights
-- of every row

module _ (τ : Exponents → ℤ) (s : List ℕ) where
  pub exact_length : length (exact_proof τ s) ≡ length s
  unfolding exact_proof
  exact_length = rows_length (weights_for τ s) s (shape_of s) (row_count s)

  module _ (rest : List ℕ) (r : ProofRoom s (shape_of s)) where
    abbrev so : List ℕ
    so = with_rows (weights_for τ s) (s ++ rest) (shape_of s) (row_count s)

    is_written : exact_proof τ s ++ rest ≡ so
    unfolding exact_proof
    is_written = sym (rows_append (weights_for τ s) s (shape_of s) rest (row_count s) (omega arith) r.long)

    same_header : (j : ℕ) → j < 8 → get_or (exact_proof τ s ++ rest) j 0 ≡ get_or s j 0
    same_header j h =
        rw is_written (rows_before (weights_for τ s) (s ++ rest) (shape_of s) (row_count s) j (omega arith)
        ∙ get_or-append s rest 0 j (omega (arith, r.long)))

    pub exact_variables : variables (exact_proof τ s ++ rest) ≡ variables s
    exact_variables = same_header 0 (omega arith)

    pub exact_scale : scale_of (exact_proof τ s ++ rest) ≡ scale_of s
    exact_scale = scale_same (exact_proof τ s ++ rest) s (record { n = 0; k = 0 }) same_header

    pub exact_weights : AllWithin greatest_weight τ s → (i : ℕ) → i < row_count s
        → triple_of (exact_proof τ s ++ rest) (shape_of s) i ≡ triple_for (weights_for τ s i)
    exact_weights w i l =
        rw is_written
        (rows_read (weights_for τ s) (s ++ rest) (shape_of s) (row_count s) i l (omega arith)
        (omega (arith, r.long, length-append s rest)) (λ j m. within_narrow _ (w.within j m)))

-- ---- where the proposed weights add up, they stay, and so does the proof

module _ (τ : Exponents → ℤ) (s : List ℕ) (f : ProofFacts s (shape_of s))
    (adds : AddsUp (variables s) τ (slots (rows_of s))) where
  same_weights : (i : ℕ) → weights_for τ s i ≡ (row_of s (shape_of s) i).weights
  unfolding weights_for
  same_weights i = ap (λ (a : Formal.Row). a.weights) (row_stays τ s adds i)

  pub same_within : (limit : ℕ) → ((i : ℕ) → i < row_count s → Within limit (triple_of s (shape_of s) i))
      → AllWithin limit τ s
  same_within limit w = record {
    within = λ i l. rw (same_weights i, row_again s (shape_of s) f.unused i l) (w i l);
  }

  pub same_proof : Bytes s → exact_proof τ s ≡ s
  unfolding exact_proof
  same_proof b = sheet_again s (shape_of s) f.unused (weights_for τ s) b (λ i l. same_weights i)
