-- Check 16: "A target that is not zero needs a slot".
use Rattle.std.specs.Prelude.{Bool, cond, not, ◌&&◌, List, ℕ, suc, ◌+◌, ◌-◌, eqb, ltb, ℤ, nat_abs, replicate}
use Rattle.answers.specs.Answers.{Answer, accepted, refuse_at}
use Rattle.answers.specs.Searches.{first}
use Rattle.points.specs.Points.{Exponents, pure_at}
use Rattle.squares.specs.Rows.{slots}
use Rattle.sheets.specs.Layout.{variables, term_count}
use Rattle.sheets.specs.ClaimSheet.{term_point}
use Rattle.rows.specs.ProofSheet.{rows_of}
use Rattle.limits.specs.LimitsSheet.{limit_in}
use Rattle.limits.specs.declared.limits_sheet.Limits.{Limits}
use Rattle.targets.specs.Targets.{target_of}
use Rattle.targets.specs.declared.targets.Aim.{Aim}
use Rattle.sharing.specs.Sharing.{count}

-- the points that are looked at, in a claim of n variables and t terms: those of the terms, the constant's, then the
-- "points the limits add .., by variable"
abbrev pub point_count : ℕ → ℕ → ℕ
point_count n t = suc t + n

-- point i of them; the pure power of variable j has index t + 1 + j
unfoldable pub point_for : List ℕ → Limits → ℕ → ℕ → ℕ → Exponents
point_for c limits n t i =
    cond (ltb i t) (term_point c n i)
    (cond (ltb t i) (pure_at n (i - suc t) (limit_in limits (i - suc t)).power)
    (replicate n 0))

-- a point whose target "is not zero and that no row holds"; τ gives each point's target
unfoldable pub unheld_at : (Exponents → ℤ) → List ℕ → Exponents → Bool
unheld_at τ s α = not (eqb (nat_abs (τ α)) 0) && eqb (count α (slots (rows_of s))) 0

unfoldable pub unheld : List ℕ → List ℕ → Aim → ℕ → Bool
unheld c s a i = unheld_at (target_of c a) s (point_for c a.limits (variables c) (term_count c) i)

-- 16: "the first claim term .., then the constant if it is absent from the claim", which "has index t"; "points the
-- limits add are searched after the constant". A constant or a pure power that is in the claim is met at its term, and
-- the pure power of an unlimited variable is the constant.
unfoldable pub unheld_answer : List ℕ → List ℕ → Aim → Answer
unheld_answer c s a = refuse_at (first (unheld c s a) (point_count (variables c) (term_count c))) 16 (accepted 0)
