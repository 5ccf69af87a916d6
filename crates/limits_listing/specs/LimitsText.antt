-- The text of a limits sheet.
use Rattle.std.specs.Prelude.{cond, List, [], ◌∷◌, ℕ, ◌+◌, ◌*◌, eqb}
use Rattle.integers.specs.Words.{Bytes}
use Rattle.bounds.specs.Bounds.{most_variables}
use Rattle.answers.specs.Answers.{Passes}
use Rattle.points.specs.Lists.{table}
use Rattle.squares.specs.declared.limits.Limit.{Limit}
use Rattle.sheets.specs.Layout.{variables}
use Rattle.limits.specs.LimitsSheet.{limit_of}
use Rattle.text.specs.Text.{ascii, texts_to}
use Rattle.listings.specs.Fields.{Field, count, together, fields_text}
use Rattle.limits_listing.specs.OwnChecks.{own_answer}

-- a line for each limited variable: `variable 0 power 2 limit 5 multiplier 1`
unfoldable pub line_fields : ℕ → Limit → List Field
line_fields i a =
    count (ascii "\nvariable ") i ∷ count (ascii " power ") a.power ∷ count (ascii " limit ") a.bound
    ∷ count (ascii " multiplier ") a.multiplier ∷ []

-- "A power of 0 means unlimited": no line
unfoldable pub variable_fields : ℕ → Limit → List Field
variable_fields i a = cond (eqb a.power 0) [] (line_fields i a)

-- of variable i in a sheet of n variables
unfoldable pub limit_fields : List ℕ → ℕ → ℕ → List Field
limit_fields l n i = variable_fields i (limit_of l n i)

-- the variables, and the lines:
--   limits
--   variables 2
unfoldable pub limits_fields : List ℕ → List Field
limits_fields l =
    count (ascii "limits\nvariables ") (variables l) ∷ together (table (limit_fields l (variables l)) (variables l))

-- the lines of the first k variables, as the code puts them
abbrev pub lines_text : List ℕ → ℕ → ℕ → List ℕ
lines_text l n k = texts_to (λ i. fields_text (limit_fields l n i)) k

-- how long it is at most
abbrev pub longest : ℕ
longest = 19 + 47 * most_variables

-- a limits sheet of bytes that passes its own checks, 24 and 25
pub record FormedLimits (l : List ℕ) : Type 0 where
  pub bytes : Bytes l
  pub passes : Passes (own_answer l)
