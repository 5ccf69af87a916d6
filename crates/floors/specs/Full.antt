-- The search of the time before profiles, over the check at 120, 2^30 and 256. "The full profile gives the old
-- verdicts."
use Rattle.std.specs.Prelude.{◌≡◌, cond, List, ℕ, ℤ, length, Option}
use Rattle.bounds.specs.Profiles.{full_profile}
use Rattle.answers.specs.Answers.{Answer, accepted, refuse_if, blameless, and_then}
use Rattle.answers.specs.Searches.{first}
use Rattle.sheets.specs.ClaimSheet.{with_floor}
use Rattle.checks.specs.Full.{full_input}
use Rattle.judging.specs.Full.{full_answer, full_output}
use Rattle.floors.specs.Search.{Told, found, refusal, range_wrong, floor_count, floor_after, told_after, search_of, search_output}

-- "1 to 15 apply once", and 24 and 25 among them; "22 after 15"
unfoldable pub full_range : List ℕ → List ℕ → List ℕ → ℤ → ℤ → ℕ → Answer
full_range c s l lo hi room = and_then (full_input c s l room) (refuse_if (range_wrong lo hi) 22 (accepted 0))

-- how many floors are refused before "the greatest floor whose check is accepted"
unfoldable pub full_before : List ℕ → List ℕ → List ℕ → ℤ → ℤ → ℕ → Option ℕ
full_before c s l lo hi room =
    first (λ i. blameless (full_answer (with_floor c (floor_after hi i)) s l room)) (floor_count lo hi)

unfoldable pub full_search : List ℕ → List ℕ → List ℕ → ℤ → ℤ → ℕ → Told
full_search c s l lo hi room =
    cond (blameless (full_range c s l lo hi room)) (told_after s hi (full_before c s l lo hi room))
    (refusal (full_range c s l lo hi room))

-- the output of the check with that floor
unfoldable pub full_output_by : List ℕ → List ℕ → List ℕ → List ℕ → Told → List ℕ
full_output_by c s l out (found b tried k) = full_output (with_floor c b) s l out
full_output_by c s l out (refusal answer) = out

pub record SearchFull (c s l : List ℕ) : Type 0 where
  pub answer : (lo hi : ℤ) (room : ℕ) → search_of c s l full_profile lo hi room ≡ full_search c s l lo hi room
  pub output : (lo hi : ℤ) (out : List ℕ)
      → search_output c s l full_profile lo hi out ≡ full_output_by c s l out (full_search c s l lo hi (length out))
