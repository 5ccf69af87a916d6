-- Answers: verdicts in document 01's numbers, and checks in the order of their numbers.
use Rattle.std.specs.Prelude.{◌≡◌, Bool, true, cond, Option, Some, None, Result, Ok, Err, List, [], ◌∷◌, ◌++◌, ℕ, ◌<◌, eqb, get_or, replicate}
use Rattle.answers.specs.declared.answers.Sheet.{Sheet}
use Rattle.answers.specs.declared.answers.Sheet.TheVariants.{Claim, Proof, Output, Offsets, Range, Limits, Page, Profile, Buffer, Table, Site}
use Rattle.answers.specs.declared.answers.Verdict.{Verdict}
use Rattle.answers.specs.declared.answers.Verdict.TheVariants.{Accepted, Refused}

-- the sheet at fault
pub data Blamed : Type 0 where
  none claim proof output offsets range limits page profile buffer table site : Blamed

-- the number of each sheet, in the order in which document 01 names them; 0 where none is at fault
abbrev pub sheet_number : Blamed → ℕ
sheet_number none = 0
sheet_number claim = 1
sheet_number proof = 2
sheet_number output = 3
sheet_number offsets = 4
sheet_number range = 5
sheet_number limits = 6
sheet_number page = 7
sheet_number profile = 8
sheet_number buffer = 9
sheet_number table = 10
sheet_number site = 11

-- the number of a refusal (0 where accepted), the sheet at fault, and the refusal's index (k where accepted)
pub record Answer : Type 0 where
  pub number : ℕ
  pub blamed : Blamed
  pub value : ℕ

unfoldable pub accepted : ℕ → Answer
accepted k = record { number = 0; blamed = none; value = k }

-- what each refusal says
abbrev pub refusal : Sheet → Answer
refusal (Claim number index) = record { number = number; blamed = claim; value = index }
refusal (Proof number index) = record { number = number; blamed = proof; value = index }
refusal (Output number index) = record { number = number; blamed = output; value = index }
refusal (Offsets number index) = record { number = number; blamed = offsets; value = index }
refusal (Range number index) = record { number = number; blamed = range; value = index }
refusal (Limits number index) = record { number = number; blamed = limits; value = index }
refusal (Page number index) = record { number = number; blamed = page; value = index }
refusal (Profile number index) = record { number = number; blamed = profile; value = index }
refusal (Buffer number index) = record { number = number; blamed = buffer; value = index }
refusal (Table number index) = record { number = number; blamed = table; value = index }
refusal (Site number index) = record { number = number; blamed = site; value = index }

-- what each verdict says
unfoldable pub says : Verdict → Answer
says (Accepted k) = accepted k
says (Refused sheet) = refusal sheet

-- what the result of a check says that counts no rows, and of one that does
abbrev pub told : Result (Unit {0}) Sheet → Answer
told (Ok _) = accepted 0
told (Err sheet) = refusal sheet

abbrev pub counted : Result ℕ Sheet → Answer
counted (Ok k) = accepted k
counted (Err sheet) = refusal sheet

-- the sheet that each number blames, from 0, which blames none
abbrev pub blame_table : List Blamed
blame_table =
    none ∷ []
    -- "1 to 7 and 21 the claim, 8 to 10 and 12 to 19 the proof, 11 the output, 20 the offsets"
    ++ replicate 7 claim ++ replicate 3 proof ++ output ∷ replicate 8 proof ++ offsets ∷ claim ∷ []
    -- "22, 23, 28, 29, 35 and 37 a range, 24 and 25 the limits, 26 the page, 27 the profile, 30 the buffer, 31 the
    -- table, 32 to 34 and 36 the proof, 38 and 39 the site"
    ++ replicate 2 range ++ replicate 2 limits ++ page ∷ profile ∷ replicate 2 range ++ buffer ∷ table ∷ []
    ++ replicate 3 proof ++ range ∷ proof ∷ range ∷ replicate 2 site

abbrev pub blames : ℕ → Blamed
blames number = get_or blame_table number none

abbrev pub refused : ℕ → ℕ → Answer
refused number index = record { number = number; blamed = blames number; value = index }

-- "Checks go in number order": a check of the whole sheet, "or 0 where nothing is indexed", and the checks after it
abbrev pub refuse_if : Bool → ℕ → Answer → Answer
refuse_if wrong number later = cond wrong (refused number 0) later

-- a check "over all terms or rows before the next"
abbrev pub refuse_at : Option ℕ → ℕ → Answer → Answer
refuse_at (Some i) number later = refused number i
refuse_at None number later = later

-- no sheet is at fault
abbrev pub faultless : Blamed → Bool
faultless b = eqb (sheet_number b) 0

unfoldable pub blameless : Answer → Bool
blameless answer = faultless answer.blamed

-- the checks of one sheet, and those of the next
unfoldable pub and_then : Answer → Answer → Answer
and_then answer later = cond (blameless answer) later answer

-- every check is passed
abbrev pub Passes : Answer → Type 0
Passes answer = blameless answer ≡ true

-- a number below a limit, and a value of 16 bits, as every check has them
pub record Short (limit : ℕ) (answer : Answer) : Type 0 where
  pub number_short : answer.number < limit
  pub value_short : answer.value < 65536
