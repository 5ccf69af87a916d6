-- The checks of a limits sheet by itself, 24 and 25, and of a profile, 27.
use Rattle.std.specs.Prelude.{not, List, ℕ}
use Rattle.bounds.specs.Profiles.{in_range}
use Rattle.bounds.specs.declared.profiles.Profile.{Profile}
use Rattle.answers.specs.Answers.{Answer, accepted, refuse_if}
use Rattle.sheets.specs.Layout.{variables}
use Rattle.limits.specs.LimitChecks.{limits_answer}
use Rattle.listings.specs.Variables.{variables_right}

-- 24 where no claim has as many variables; then 24 for the length, and 25, with its own n
unfoldable pub own_answer : List ℕ → Answer
own_answer l = refuse_if (not (variables_right (variables l))) 24 (limits_answer (variables l) l)

-- 27: "a profile out of range"
unfoldable pub profile_answer : Profile → Answer
profile_answer π = refuse_if (not (in_range π)) 27 (accepted 0)
