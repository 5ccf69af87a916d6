-- Laws of a proof's own checks: what they say of a proof that passes them.
use mathlib.Core.Path.{◌≡◌, refl}
use mathlib.Core.List.{List}
use Prim.Native.Nat.{ℕ, ◌<◌, ◌≤◌}
use native.Mathlib.Omega.{arith}
use lib.ListN.{get_or}
use borrow.Author.Tests.{not-false}
use Rattle.integers.specs.Words.{Bytes}
use Rattle.bounds.specs.Bounds.{most_rows, most_variables}
use Rattle.bounds.specs.Profiles.{InRange, full_profile}
use Rattle.bounds.proofs.profiles.Laws.{full_range_lem, range_facts}
use Rattle.answers.specs.Answers.{accepted, Passes, Short}
use Rattle.answers.proofs.answers.Laws.{passes_if, passes_then, told_passed, short_if, short_then}
use Rattle.sheets.specs.Layout.{variables, shape_of, ProofRoom}
use Rattle.sheets.specs.declared.layout.Shape.{Shape}
use Rattle.checks.specs.ProofChecks.{header_answer, rows_answer, HeaderFacts, ProofFacts}
use Rattle.checks.proofs.proof_checks.Laws.{unused_zero, header_facts, proof_facts, header_short, rows_short}
use Rattle.listings.proofs.variables.Laws.{right_variables}
use Rattle.proof_listing.specs.OwnChecks.{sized_answer, own_answer}

pub full_in_range : InRange full_profile
full_in_range = range_facts full_profile full_range_lem

-- a proof of 1 to 8 variables that passes 8 to 10
pub sized_facts : (s : List ℕ) → 1 ≤ variables s → variables s ≤ most_variables
    → Passes (header_answer most_rows (variables s) s) → HeaderFacts s (shape_of s)
sized_facts s some few h = (header_facts most_rows (variables s) s (omega arith) some few h).1

-- the same by the result of the check, where n and the shape are what was read
pub rows_there : (s : List ℕ) (n : ℕ) (sh : Shape) → accepted 0 ≡ header_answer most_rows n s → n ≡ variables s
    → sh ≡ shape_of s → 1 ≤ variables s → variables s ≤ most_variables → ProofRoom s sh
rows_there s n sh h en es some few = rw es (sized_facts s some few (told_passed _ (rw en at h))).room

module _ (s : List ℕ) (h : Passes (own_answer s)) where
  record Parts : Type 0 where
    some : 1 ≤ variables s
    few : variables s ≤ most_variables
    header : Passes (header_answer most_rows (variables s) s)
    rows : Passes (rows_answer s full_profile (shape_of s))

  parts : Parts
  unfolding own_answer sized_answer
  parts =
      let p₈ = passes_if _ 8 _ refl h in
      let p₉ = passes_if _ 9 _ refl p₈.1 in
      let both = passes_then _ _ p₉.1 in
      let n = right_variables (variables s) (not-false _ p₉.0) in
      record { some = n.0; few = n.1; header = both.0; rows = both.1 }

  pub own_facts : ProofFacts s (shape_of s)
  own_facts =
      proof_facts s full_profile parts.rows full_in_range
      (sized_facts s parts.some parts.few parts.header)

  pub own_unused : get_or s 1 0 ≡ 0
  own_unused = unused_zero most_rows (variables s) s parts.header

-- every number is document 01's, and an index is below a count that two bytes give
pub own_short : {limit : ℕ} (s : List ℕ) → 15 < limit → Bytes s → Short limit (own_answer s)
unfolding own_answer sized_answer
own_short s h b =
    short_if 8 _ (omega arith)
    (short_if 9 _ (omega arith)
    (short_then _ _ (header_short most_rows (variables s) s (omega arith)) (rows_short s full_profile h b)) _) _
