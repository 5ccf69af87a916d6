-- The search under the full profile, from the check's law.
use mathlib.Core.Path.{◌≡◌, refl, ap}
use mathlib.Core.List.{List}
use Prim.Native.Nat.{ℕ}
use lib.IntN.{ℤ}
use lib.ListN.{length}
use Rattle.bounds.specs.Profiles.{full_profile}
use Rattle.answers.specs.Answers.{blameless}
use Rattle.answers.proofs.searches.Laws.{first_same}
use Rattle.sheets.specs.ClaimSheet.{with_floor}
use Rattle.checks.proofs.Full.{input_full}
use Rattle.judging.proofs.Full.{check_full}
use Rattle.floors.specs.Search.{Told, found, refusal, range_answer, floor_count, floor_after, accepts, refused_before, search_of, output_by, search_output}
use Rattle.floors.specs.Full.{full_range, full_before, full_search, full_output_by, SearchFull}

module _ (c s l : List ℕ) where
  range : (lo hi : ℤ) (room : ℕ) → range_answer c s l full_profile lo hi room ≡ full_range c s l lo hi room
  unfolding range_answer full_range
  range lo hi room = rw ((input_full c s l).input room)

  before : (lo hi : ℤ) (room : ℕ) → refused_before c s l full_profile lo hi room ≡ full_before c s l lo hi room
  unfolding refused_before full_before accepts
  before lo hi room =
      first_same _ _ (floor_count lo hi)
      (λ i m. ap blameless ((check_full (with_floor c (floor_after hi i)) s l).answer room))

  answer : (lo hi : ℤ) (room : ℕ) → search_of c s l full_profile lo hi room ≡ full_search c s l lo hi room
  unfolding search_of full_search
  answer lo hi room = rw (range lo hi room, before lo hi room)

  written : (out : List ℕ) (t : Told) → output_by c s l full_profile out t ≡ full_output_by c s l out t
  unfolding output_by full_output_by
  written out (found b tried k) = (check_full (with_floor c b) s l).output out
  written out (refusal answer) = refl

  pub search_full : SearchFull c s l
  unfolding search_output
  search_full = record {
    answer = answer;
    output = λ lo hi out. rw (answer lo hi (length out)) (written out _);
  }
