-- Evaluation of a claim's polynomial at offsets: the exact value, or one of the refusals 27, 1 to 7, 20 and 21.
use Rattle.std.specs.Prelude.{Bool, not, cond, Result, Ok, Err, List, ℕ, eqb, ℤ, ◌*ℤ◌, length}
use Rattle.bounds.specs.Bounds.{beyond, greatest_value}
use Rattle.bounds.specs.declared.profiles.Profile.{Profile}
use Rattle.answers.specs.Answers as A
use Rattle.answers.specs.Answers.{Answer, accepted, refuse_if, refuse_at, blameless, and_then}
use Rattle.answers.specs.Searches.{first}
use Rattle.answers.specs.declared.answers.Sheet.{Sheet}
use Rattle.points.specs.Lists.{table}
use Rattle.monomials.specs.Powers.{monomial_of}
use Rattle.squares.specs.Sums.{value_at}
use Rattle.sheets.specs.Layout.{variables, term_count}
use Rattle.sheets.specs.ClaimSheet.{term_point, coefficient_of, term_of, terms_of}
use Rattle.claims.specs.ClaimChecks.{claim_answer}

-- a value, or a refusal with its number, the sheet at fault and its index
pub data Told : Type 0 where
  value : ℤ → Told
  refusal : Answer → Told

-- what each evaluation tells
unfoldable pub tells : Result ℤ Sheet → Told
tells (Ok z) = value z
tells (Err sheet) = refusal (A.refusal sheet)

-- what checks that have this answer tell: the value where all are passed
unfoldable pub told_by : Answer → ℤ → Told
told_by answer z = cond (blameless answer) (value z) (refusal answer)

-- ---- terms

-- "coefficient times monomial": term i at the offsets, in a claim of n variables and t terms
unfoldable pub term_value : List ℕ → ℕ → ℕ → List ℤ → ℕ → ℤ
term_value c n t x i = coefficient_of c n t i *ℤ monomial_of x (term_point c n i)

-- 21: "a term over 2^56", and the first such term
unfoldable pub too_large : List ℕ → ℕ → ℕ → List ℤ → ℕ → Bool
too_large c n t x i = beyond greatest_value (term_value c n t x i)

unfoldable pub too_large_answer : List ℕ → ℕ → ℕ → List ℤ → Answer
too_large_answer c n t x = refuse_at (first (too_large c n t x) t) 21 (accepted 0)

-- the sum of the first i terms
unfoldable pub sum_to : List ℕ → ℕ → ℕ → List ℤ → ℕ → ℤ
sum_to c n t x i = value_at x (table (term_of c n t) i)

unfoldable pub summed : List ℕ → ℕ → ℕ → List ℤ → Told
summed c n t x = told_by (too_large_answer c n t x) (sum_to c n t x t)

-- ---- evaluation

-- "An evaluation uses 1 to 7, then 20 and 21", and 27 before 1; 20: "count of offsets not n"
unfoldable pub evaluation_answer : List ℕ → Profile → List ℤ → Answer
evaluation_answer c π x =
    and_then (claim_answer c π)
    (refuse_if (not (eqb (length x) (variables c))) 20
    (too_large_answer c (variables c) (term_count c) x))

unfoldable pub evaluation_of : List ℕ → Profile → List ℤ → Told
evaluation_of c π x = told_by (evaluation_answer c π x) (value_at x (terms_of c))
