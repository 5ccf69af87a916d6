-- The check with no variable limited, from the same law of its parts.
use mathlib.Core.Path.{◌≡◌, ◌∙◌, fun_ext}
use mathlib.Core.List.{List}
use Prim.Native.Nat.{ℕ}
use lib.ListN.{length}
use Rattle.bounds.specs.declared.profiles.Profile.{Profile}
use Rattle.squares.specs.Domains.{Unlimited}
use Rattle.sheets.specs.Layout.{variables}
use Rattle.limits.specs.LimitsSheet.{limit_in}
use Rattle.limits.specs.LimitChecks.{LimitsNone}
use Rattle.checks.proofs.input.Laws.{input_unlimited}
use Rattle.targets.specs.Targets.{aim_of}
use Rattle.targets.specs.Unlimited.{plain_target}
use Rattle.targets.proofs.targets.Laws.{aim_floor, aim_scale, aim_limits}
use Rattle.targets.proofs.Unlimited.{targets_unlimited}
use Rattle.weighing.proofs.Unlimited.{weighed_unlimited}
use Rattle.judging.specs.Check.{targets_of, check_answer, output_of}
use Rattle.judging.specs.Unlimited.{plain_targets, plain_answer, plain_output, CheckUnlimited}

module _ (c s l : List ℕ) (π : Profile) (none : LimitsNone (variables c) l) where
  unlimited : Unlimited (limit_in (aim_of c s l).limits)
  unlimited = rw (aim_limits c s l) none.unlimited

  same : plain_target c (aim_of c s l).scale (aim_of c s l).floor ≡ plain_targets c s
  unfolding plain_targets
  same = rw (aim_scale c s l, aim_floor c s l)

  pub plain_targets_lem : targets_of c s l ≡ plain_targets c s
  unfolding targets_of
  plain_targets_lem = fun_ext (λ α. (targets_unlimited c).targets (aim_of c s l) unlimited α) ∙ same

  answer : (room : ℕ) → check_answer c s l π room ≡ plain_answer c s π room
  unfolding check_answer plain_answer
  answer room =
      rw (
        (input_unlimited c s l π none.passes).input room,
        weighed_unlimited π.weight c s (aim_of c s l) unlimited,
        same,
      )

  pub check_unlimited : CheckUnlimited c s l π
  unfolding output_of plain_output
  check_unlimited = record {
    answer = answer;
    output = λ out. rw (answer (length out), plain_targets_lem);
    formed = (input_unlimited c s l π none.passes).formed;
    targets = λ α. rw plain_targets_lem;
  }
