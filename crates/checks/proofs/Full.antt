-- The checks 1 to 15, 24 and 25 under the full profile.
use mathlib.Core.Path.{◌≡◌, refl, ap₂}
use mathlib.Core.List.{List}
use Prim.Native.Nat.{ℕ}
use Rattle.bounds.specs.Profiles.{full_profile}
use Rattle.answers.specs.Answers.{and_then}
use Rattle.sheets.specs.declared.layout.Shape.{Shape}
use Rattle.claims.proofs.Full.{claim_full}
use Rattle.checks.specs.ProofChecks.{header_answer, rows_answer}
use Rattle.checks.specs.Input.{head_answer, body_answer, rest_answer, input_answer, formed_answer}
use Rattle.checks.specs.Full.{full_header, full_rows, full_head, full_input, full_formed, InputFull}

rows_full : (s : List ℕ) (sh : Shape) → rows_answer s full_profile sh ≡ full_rows s sh
unfolding rows_answer full_rows
rows_full s sh = refl

head_full : (c s : List ℕ) → head_answer c s full_profile ≡ full_head c s
unfolding head_answer full_head header_answer full_header
head_full c s = ap₂ and_then (claim_full c) refl

pub input_full : (c s l : List ℕ) → InputFull c s l
unfolding input_answer rest_answer body_answer formed_answer full_input full_formed
input_full c s l = record { input = λ room. rw (head_full c s, rows_full s); formed = rw (head_full c s, rows_full s) }
