-- The search with no variable limited is that of notes 1 and 7, over the check of a claim and a proof alone.
use Rattle.std.specs.Prelude.{◌≡◌, cond, List, ℕ, ℤ, length, Option}
use Rattle.bounds.specs.declared.profiles.Profile.{Profile}
use Rattle.answers.specs.Answers.{Answer, accepted, refuse_if, blameless, and_then}
use Rattle.answers.specs.Searches.{first}
use Rattle.sheets.specs.ClaimSheet.{with_floor}
use Rattle.checks.specs.Input.{head_answer, body_answer}
use Rattle.judging.specs.Unlimited.{plain_answer, plain_output}
use Rattle.floors.specs.Search.{Told, found, refusal, range_wrong, floor_count, floor_after, told_after, search_of, search_output}

-- "1 to 15 apply once", after 27; "22 after 15"
unfoldable pub plain_range : List ℕ → List ℕ → Profile → ℤ → ℤ → ℕ → Answer
plain_range c s π lo hi room =
    and_then (and_then (head_answer c s π) (body_answer s π room)) (refuse_if (range_wrong lo hi) 22 (accepted 0))

-- how many floors are refused before "the greatest floor whose check is accepted"
unfoldable pub plain_before : List ℕ → List ℕ → Profile → ℤ → ℤ → ℕ → Option ℕ
plain_before c s π lo hi room =
    first (λ i. blameless (plain_answer (with_floor c (floor_after hi i)) s π room)) (floor_count lo hi)

unfoldable pub plain_search : List ℕ → List ℕ → Profile → ℤ → ℤ → ℕ → Told
plain_search c s π lo hi room =
    cond (blameless (plain_range c s π lo hi room)) (told_after s hi (plain_before c s π lo hi room))
    (refusal (plain_range c s π lo hi room))

-- the output of the check with that floor
unfoldable pub plain_output_by : List ℕ → List ℕ → Profile → List ℕ → Told → List ℕ
plain_output_by c s π out (found b tried k) = plain_output (with_floor c b) s π out
plain_output_by c s π out (refusal answer) = out

-- l limits no variable
pub record SearchUnlimited (c s l : List ℕ) (π : Profile) : Type 0 where
  pub answer : (lo hi : ℤ) (room : ℕ) → search_of c s l π lo hi room ≡ plain_search c s π lo hi room
  pub output : (lo hi : ℤ) (out : List ℕ)
      → search_output c s l π lo hi out ≡ plain_output_by c s π out (plain_search c s π lo hi (length out))
