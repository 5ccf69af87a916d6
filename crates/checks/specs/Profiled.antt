-- What a profile asks of sheets.
use Rattle.std.specs.Prelude.{◌≡◌, true, List, ◌↔◌, ℕ, ◌<◌, ◌≤◌}
use Rattle.bounds.specs.Profiles.{InRange}
use Rattle.bounds.specs.declared.profiles.Profile.{Profile}
use Rattle.answers.specs.Answers.{Passes}
use Rattle.points.specs.Points.{exponents_within}
use Rattle.sheets.specs.Layout.{variables, term_count, row_count, shape_of}
use Rattle.sheets.specs.ClaimSheet.{term_point}
use Rattle.rows.specs.ProofSheet.{v_of, w_of, triple_of}
use Rattle.checks.specs.ProofChecks.{Within}
use Rattle.checks.specs.Input.{WellFormed}
use Rattle.checks.specs.Full.{full_formed}

-- "Checks 6, 9, 12, 15 .. read it": the exponents of terms and rows, the proposed weights and the number of rows
pub record Fits (c s : List ℕ) (π : Profile) : Type 0 where
  pub terms : (i : ℕ) → i < term_count c → exponents_within π.exponent (term_point c (variables c) i) ≡ true
  pub v_ends : (i : ℕ) → i < row_count s → exponents_within π.exponent (v_of s (shape_of s) i) ≡ true
  pub w_ends : (i : ℕ) → i < row_count s → exponents_within π.exponent (w_of s (shape_of s) i) ≡ true
  pub weights : (i : ℕ) → i < row_count s → Within π.weight (triple_of s (shape_of s) i)
  pub rows : row_count s ≤ π.rows

-- and no other check does: sheets are well-formed under a profile exactly where it is in range, they were well-formed
-- before there were profiles, and they fit it
abbrev pub FormedUnder : List ℕ → List ℕ → List ℕ → Profile → Type 0
FormedUnder c s l π = WellFormed c s l π ↔ (InRange π × Passes (full_formed c s l) × Fits c s π)
