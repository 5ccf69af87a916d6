-- The check under the full profile, from the same law of its parts.
use mathlib.Core.Path.{◌≡◌, refl, ap₂}
use mathlib.Core.List.{List}
use Prim.Native.Nat.{ℕ}
use lib.ListN.{length}
use Rattle.bounds.specs.Profiles.{full_profile}
use Rattle.answers.specs.Answers.{and_then}
use Rattle.checks.proofs.Full.{input_full}
use Rattle.weighing.proofs.Full.{weighed_full}
use Rattle.judging.specs.Check.{check_answer, output_of}
use Rattle.judging.specs.Full.{full_answer, full_output, CheckFull}

module _ (c s l : List ℕ) where
  answer : (room : ℕ) → check_answer c s l full_profile room ≡ full_answer c s l room
  unfolding check_answer full_answer
  answer room = ap₂ and_then ((input_full c s l).input room) (weighed_full c s _)

  pub check_full : CheckFull c s l
  unfolding output_of full_output
  check_full = record {
    answer = answer;
    output = λ out. rw (answer (length out));
    formed = (input_full c s l).formed;
    weight = refl;
  }
