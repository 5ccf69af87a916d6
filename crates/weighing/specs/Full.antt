-- The checks 16 to 19 of the time before profiles, with document 01's own 2^30.
use Rattle.std.specs.Prelude.{◌≡◌, List, ℕ, ℤ}
use Rattle.bounds.specs.Bounds.{greatest_weight}
use Rattle.bounds.specs.Profiles.{full_profile}
use Rattle.answers.specs.Answers.{Answer, and_then}
use Rattle.points.specs.Points.{Exponents}
use Rattle.sheets.specs.Layout.{row_count}
use Rattle.targets.specs.Targets.{target_of}
use Rattle.targets.specs.declared.targets.Aim.{Aim}
use Rattle.sharing.specs.Shifts.{shifted_row}
use Rattle.judgements.specs.Judgements.{firsts_to, judged_answer}
use Rattle.weighing.specs.Unheld.{unheld_answer}
use Rattle.weighing.specs.Weighed.{weighed_answer}

-- 17 to 19; τ gives each point's target
unfoldable pub full_judged : (Exponents → ℤ) → List ℕ → Answer
full_judged τ s = judged_answer (firsts_to greatest_weight (shifted_row τ s) (row_count s)) (row_count s)

-- 16 to 19
unfoldable pub full_weighed : List ℕ → List ℕ → Aim → Answer
full_weighed c s a = and_then (unheld_answer c s a) (full_judged (target_of c a) s)

abbrev pub WeighedFull : Type 0
WeighedFull = (c s : List ℕ) (a : Aim) → weighed_answer full_profile.weight c s a ≡ full_weighed c s a
