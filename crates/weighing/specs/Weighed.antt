-- The checks 16 to 19 of checked sheets, in the order of their numbers.
use Rattle.std.specs.Prelude.{List, ℕ, ℤ}
use Rattle.answers.specs.Answers.{Answer, and_then}
use Rattle.points.specs.Points.{Exponents}
use Rattle.sheets.specs.Layout.{row_count}
use Rattle.targets.specs.Targets.{target_of}
use Rattle.targets.specs.declared.targets.Aim.{Aim}
use Rattle.sharing.specs.Shifts.{shifted_row}
use Rattle.judgements.specs.Judgements.{firsts_to, judged_answer}
use Rattle.weighing.specs.Unheld.{unheld_answer}

-- 17 to 19; the limit is that of 17, and τ gives each point's target
unfoldable pub rows_judged : ℕ → (Exponents → ℤ) → List ℕ → Answer
rows_judged limit τ s = judged_answer (firsts_to limit (shifted_row τ s) (row_count s)) (row_count s)

-- 16 to 19
unfoldable pub weighed_answer : ℕ → List ℕ → List ℕ → Aim → Answer
weighed_answer limit c s a = and_then (unheld_answer c s a) (rows_judged limit (target_of c a) s)
