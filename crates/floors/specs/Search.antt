-- The search for the highest floor: "tries hi first and goes down".
use Rattle.std.specs.Prelude.{◌≡◌, Bool, false, cond, ◌||◌, List, ◌++◌, ℕ, suc, ◌≤◌, ℤ, pos, nat_abs, ◌-ℤ◌, length, drop, Option, Some, None, Result, Ok, Err}
use Rattle.std.specs.Int.Signed.{lt_z}
use Rattle.bounds.specs.Bounds.{greatest_weight, greatest_span, beyond}
use Rattle.bounds.specs.declared.profiles.Profile.{Profile}
use Rattle.answers.specs.Answers as Answers
use Rattle.answers.specs.Answers.{Answer, accepted, refused, refuse_if, blameless, and_then}
use Rattle.answers.specs.Searches.{first}
use Rattle.answers.specs.declared.answers.Sheet.{Sheet}
use Rattle.sheets.specs.Layout.{row_count}
use Rattle.sheets.specs.ClaimSheet.{with_floor}
use Rattle.checks.specs.Input.{input_answer}
use Rattle.targets.specs.Targets.{at_floor, target_of}
use Rattle.targets.specs.declared.targets.Aim.{Aim}
use Rattle.sharing.specs.Shifts.{CheckedSheets}
use Rattle.weighing.specs.Exact.{exact_proof}
use Rattle.weighing.specs.Weighed.{weighed_answer}
use Rattle.judging.specs.Check.{check_answer, output_of}
use Rattle.floors.specs.declared.search.Highest.{Highest}

-- a floor with the number of floors tried and the number of rows, or a refusal with its number, the sheet at fault and
-- its index
pub data Told : Type 0 where
  found : ℤ → ℕ → ℕ → Told
  refusal : Answer → Told

-- what each search tells
unfoldable pub tells : Result Highest Sheet → Told
tells (Ok h) = found h.floor h.tried h.rows
tells (Err sheet) = refusal (Answers.refusal sheet)

-- as an answer: accepted with the number of rows where a floor is found
unfoldable pub answer_of : Told → Answer
answer_of (found floor tried k) = accepted k
answer_of (refusal answer) = answer

-- ---- the range

-- 22: "lo over hi, either beyond ±2^30, or hi − lo over 4,095"
unfoldable pub range_wrong : ℤ → ℤ → Bool
range_wrong lo hi =
    lt_z hi lo || beyond greatest_weight lo || beyond greatest_weight hi || lt_z (pos greatest_span) (hi -ℤ lo)

-- "1 to 15 apply once", and 27, 24 and 25 among them; "22 after 15"; the room is the output's length
unfoldable pub range_answer : List ℕ → List ℕ → List ℕ → Profile → ℤ → ℤ → ℕ → Answer
range_answer c s l π lo hi room = and_then (input_answer c s l π room) (refuse_if (range_wrong lo hi) 22 (accepted 0))

-- how many floors there are from lo to hi, and the one that comes after i others
unfoldable pub floor_count : ℤ → ℤ → ℕ
floor_count lo hi = suc (nat_abs (hi -ℤ lo))

unfoldable pub floor_after : ℤ → ℕ → ℤ
floor_after hi i = hi -ℤ pos i

-- ---- the search

-- the check accepts the claim with b in its floor field
unfoldable pub accepts : List ℕ → List ℕ → List ℕ → Profile → ℕ → ℤ → Bool
accepts c s l π room b = blameless (check_answer (with_floor c b) s l π room)

-- how many floors are refused before "the greatest floor whose check is accepted"
unfoldable pub refused_before : List ℕ → List ℕ → List ℕ → Profile → ℤ → ℤ → ℕ → Option ℕ
refused_before c s l π lo hi room = first (λ i. accepts c s l π room (floor_after hi i)) (floor_count lo hi)

-- "the number of floors tried"; 23: "no floor accepted"
unfoldable pub told_after : List ℕ → ℤ → Option ℕ → Told
told_after s hi (Some i) = found (floor_after hi i) (suc i) (row_count s)
told_after s hi None = refusal (refused 23 0)

unfoldable pub search_of : List ℕ → List ℕ → List ℕ → Profile → ℤ → ℤ → ℕ → Told
search_of c s l π lo hi room =
    cond (blameless (range_answer c s l π lo hi room)) (told_after s hi (refused_before c s l π lo hi room))
    (refusal (range_answer c s l π lo hi room))

-- "that floor's exact proof": the output of the check with that floor. A refusal "writes nothing".
unfoldable pub output_by : List ℕ → List ℕ → List ℕ → Profile → List ℕ → Told → List ℕ
output_by c s l π out (found b tried k) = output_of (with_floor c b) s l π out
output_by c s l π out (refusal answer) = out

unfoldable pub search_output : List ℕ → List ℕ → List ℕ → Profile → ℤ → ℤ → List ℕ → List ℕ
search_output c s l π lo hi out = output_by c s l π out (search_of c s l π lo hi (length out))

-- ---- as the code goes: 16 to 19 alone, for each floor; a has the scale and the limits, and `limit` is that of 17

unfoldable pub aim_after : Aim → ℤ → ℕ → Aim
aim_after a hi i = at_floor a (floor_after hi i)

unfoldable pub passes_after : ℕ → List ℕ → List ℕ → Aim → ℤ → ℕ → Bool
passes_after limit c s a hi i = blameless (weighed_answer limit c s (aim_after a hi i))

-- what stands in the output after the search, where so many floors were refused
unfoldable pub output_after : List ℕ → List ℕ → Aim → ℤ → List ℕ → Option ℕ → List ℕ
output_after c s a hi out (Some i) = exact_proof (target_of c (aim_after a hi i)) s ++ drop (length s) out
output_after c s a hi out None = out

-- sheets and a range that pass all checks before 16
pub record Searchable (limit : ℕ) (c s : List ℕ) (a : Aim) (lo hi : ℤ) : Type 0 where
  pub light : limit ≤ greatest_weight
  pub sheets : CheckedSheets c s a
  pub ranged : range_wrong lo hi ≡ false
