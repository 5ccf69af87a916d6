-- The search with no variable limited, from the check's law.
use mathlib.Core.Path.{◌≡◌, refl, ap}
use mathlib.Core.List.{List}
use Prim.Native.Nat.{ℕ}
use native.Mathlib.Omega.{arith}
use lib.IntN.{ℤ}
use lib.ListN.{length}
use Rattle.bounds.specs.declared.profiles.Profile.{Profile}
use Rattle.answers.specs.Answers.{blameless}
use Rattle.answers.proofs.searches.Laws.{first_same}
use Rattle.sheets.specs.Layout.{variables}
use Rattle.sheets.specs.ClaimSheet.{with_floor}
use Rattle.sheets.proofs.claim_sheet.Laws.{floored_before}
use Rattle.limits.specs.LimitChecks.{LimitsNone}
use Rattle.checks.proofs.input.Laws.{input_unlimited}
use Rattle.judging.specs.Unlimited.{CheckUnlimited}
use Rattle.judging.proofs.Unlimited.{check_unlimited}
use Rattle.floors.specs.Search.{Told, found, refusal, range_answer, floor_count, floor_after, accepts, refused_before, search_of, output_by, search_output}
use Rattle.floors.specs.Unlimited.{plain_range, plain_before, plain_search, plain_output_by, SearchUnlimited}

module _ (c s l : List ℕ) (π : Profile) (none : LimitsNone (variables c) l) where
  -- the check of each floor
  each : (b : ℤ) → CheckUnlimited (with_floor c b) s l π
  each b = check_unlimited (with_floor c b) s l π (rw (floored_before c b 0 (omega arith)) none)

  range : (lo hi : ℤ) (room : ℕ) → range_answer c s l π lo hi room ≡ plain_range c s π lo hi room
  unfolding range_answer plain_range
  range lo hi room = rw ((input_unlimited c s l π none.passes).input room)

  before : (lo hi : ℤ) (room : ℕ) → refused_before c s l π lo hi room ≡ plain_before c s π lo hi room
  unfolding refused_before plain_before accepts
  before lo hi room =
      first_same _ _ (floor_count lo hi) (λ i l. ap blameless ((each (floor_after hi i)).answer room))

  answer : (lo hi : ℤ) (room : ℕ) → search_of c s l π lo hi room ≡ plain_search c s π lo hi room
  unfolding search_of plain_search
  answer lo hi room = rw (range lo hi room, before lo hi room)

  written : (out : List ℕ) (t : Told) → output_by c s l π out t ≡ plain_output_by c s π out t
  unfolding output_by plain_output_by
  written out (found b tried k) = (each b).output out
  written out (refusal answer) = refl

  pub search_unlimited : SearchUnlimited c s l π
  unfolding search_output
  search_unlimited = record {
    answer = answer;
    output = λ lo hi out. rw (answer lo hi (length out)) (written out _);
  }
