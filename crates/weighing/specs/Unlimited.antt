-- 16 to 19 where no variable is limited: 16 looks at the terms and the constant alone.
use Rattle.std.specs.Prelude.{◌≡◌, cond, List, ℕ, suc, ltb, ℤ, replicate}
use Rattle.answers.specs.Answers.{Answer, accepted, refuse_at, and_then}
use Rattle.answers.specs.Searches.{first}
use Rattle.points.specs.Points.{Exponents}
use Rattle.squares.specs.Domains.{Unlimited}
use Rattle.sheets.specs.Layout.{variables, term_count}
use Rattle.sheets.specs.ClaimSheet.{term_point}
use Rattle.limits.specs.LimitsSheet.{limit_in}
use Rattle.targets.specs.Unlimited.{plain_target}
use Rattle.targets.specs.declared.targets.Aim.{Aim}
use Rattle.weighing.specs.Unheld.{unheld_at}
use Rattle.weighing.specs.Weighed.{rows_judged, weighed_answer}

-- the point of term i in a claim of n variables and t terms, and after the terms the constant's
unfoldable pub plain_point : List ℕ → ℕ → ℕ → ℕ → Exponents
plain_point c n t i = cond (ltb i t) (term_point c n i) (replicate n 0)

-- 16: "the first claim term .., then the constant if it is absent from the claim", which "has index t"
unfoldable pub plain_unheld : (Exponents → ℤ) → List ℕ → List ℕ → Answer
plain_unheld τ c s =
    refuse_at (first (λ i. unheld_at τ s (plain_point c (variables c) (term_count c) i)) (suc (term_count c))) 16
    (accepted 0)

-- 16 to 19; the limit is that of 17
unfoldable pub plain_weighed : ℕ → (Exponents → ℤ) → List ℕ → List ℕ → Answer
plain_weighed limit τ c s = and_then (plain_unheld τ c s) (rows_judged limit τ s)

abbrev pub WeighedUnlimited : Type 0
WeighedUnlimited =
    (limit : ℕ) (c s : List ℕ) (a : Aim) → Unlimited (limit_in a.limits)
    → weighed_answer limit c s a ≡ plain_weighed limit (plain_target c a.scale a.floor) c s
