-- Evaluation under the full profile.
use mathlib.Core.Path.{◌≡◌, refl, ap₂}
use mathlib.Core.List.{List}
use Prim.Native.Nat.{ℕ}
use lib.IntN.{ℤ}
use Rattle.bounds.specs.Profiles.{full_profile}
use Rattle.answers.specs.Answers.{and_then}
use Rattle.claims.proofs.Full.{claim_full}
use Rattle.evaluation.specs.Evaluations.{evaluation_answer, evaluation_of}
use Rattle.evaluation.specs.Full.{full_evaluation_answer, full_evaluation, EvaluationFull}

answer : (c : List ℕ) (x : List ℤ) → evaluation_answer c full_profile x ≡ full_evaluation_answer c x
unfolding evaluation_answer full_evaluation_answer
answer c x = ap₂ and_then (claim_full c) refl

pub evaluation_full : (c : List ℕ) (x : List ℤ) → EvaluationFull c x
unfolding evaluation_of full_evaluation
evaluation_full c x = record { answer = answer c x; told = rw (answer c x) }
