-- What the search promises, in the words of document 02's first note. "The check" of a floor is the check of the claim
-- with that floor in its floor field: there is no other notion of it.
use Rattle.std.specs.Prelude.{◌≡◌, false, List, ◌↔◌, ℕ, ◌≤◌, ℤ, pos, nat_abs, ◌+ℤ◌, ◌-ℤ◌, length, ◌≤ℤ◌, ◌<ℤ◌}
use Rattle.bounds.specs.Bounds.{greatest_weight, greatest_span}
use Rattle.bounds.specs.Profiles.{Larger}
use Rattle.bounds.specs.declared.profiles.Profile.{Profile}
use Rattle.answers.specs.Answers as Answers
use Rattle.answers.specs.Answers.{blameless, Passes}
use Rattle.squares.specs.Floor.{Floors}
use Rattle.sheets.specs.ClaimSheet.{with_floor, terms_of}
use Rattle.limits.specs.LimitsSheet.{domain_of}
use Rattle.checks.specs.Input.{WellFormed}
use Rattle.judging.specs.Check.{check_answer, output_of}
use Rattle.judging.specs.Promises.{LongEnough, CheckPromises}
use Rattle.floors.specs.Search as Search
use Rattle.floors.specs.Search.{search_of, search_output}
use Rattle.floors.specs.Full.{SearchFull}

-- a range that 22 lets pass, in plain numbers
pub record RightRange (lo hi : ℤ) : Type 0 where
  pub ordered : lo ≤ℤ hi
  pub low : nat_abs lo ≤ greatest_weight
  pub high : nat_abs hi ≤ greatest_weight
  pub span : (hi -ℤ lo) ≤ℤ pos greatest_span

-- what is promised of a floor b that is found after so many were tried, with k rows; o is the output afterwards
pub record FloorPromises (c s l : List ℕ) (π : Profile) (lo hi : ℤ) (out : List ℕ) (b : ℤ) (tried k : ℕ) (o : List ℕ)
    : Type 0 where
  -- "The claim's own b must be valid"; "1 to 15 apply once"; and so do 22, 24, 25 and 27
  pub formed : WellFormed c s l π
  pub right : RightRange lo hi
  -- "the greatest floor whose check is accepted": a floor of the range, accepted with k
  pub within : (lo ≤ℤ b) × (b ≤ℤ hi)
  pub accepted : check_answer (with_floor c b) s l π (length out) ≡ Answers.accepted k
  -- "Every higher floor up to hi is refused by the check"
  pub higher : (a : ℤ) → b <ℤ a → a ≤ℤ hi → blameless (check_answer (with_floor c a) s l π (length out)) ≡ false
  -- "that floor's exact proof": what its check writes
  pub written : o ≡ output_of (with_floor c b) s l π out
  -- "the number of floors tried, which is hi minus the floor found, plus one"
  pub counts : pos tried ≡ hi -ℤ b +ℤ pos 1
  -- Demand 3: "the polynomial is at least the floor", where mask and limits admit it, at fractions of an offset too
  pub floors : Floors (domain_of c l) b (terms_of c)
  -- and all else that its check promises
  pub checked : CheckPromises (with_floor c b) s l π out (LongEnough s out)
      (Passes (check_answer (with_floor c b) s l π (length out))) k o

-- a floor is found, with the number of floors tried and the number of rows
pub record Some (Finds : ℤ → ℕ → ℕ → Type 0) : Type 0 where
  pub floor : ℤ
  pub tried : ℕ
  pub rows : ℕ
  pub finds : Finds floor tried rows

-- `Finds b tried k` says that the entry point found the floor b, and `FindsNone` that it answered 23, both as its
-- caller sees them
pub record SearchPromises (c s l : List ℕ) (π : Profile) (lo hi : ℤ) (out : List ℕ) (Finds : ℤ → ℕ → ℕ → Type 0)
    (FindsNone : Type 0) (o : List ℕ) : Type 0 where
  pub found : (b : ℤ) (tried k : ℕ) → Finds b tried k → FloorPromises c s l π lo hi out b tried k o
  -- where some floor of a right range is accepted, one is found
  pub finds : WellFormed c s l π → LongEnough s out → RightRange lo hi
      → (b : ℤ) → lo ≤ℤ b → b ≤ℤ hi → Passes (check_answer (with_floor c b) s l π (length out)) → Some Finds
  -- 23, "no floor accepted": exactly where the check refuses every floor of a right range
  pub none : FindsNone ↔ (WellFormed c s l π × LongEnough s out × RightRange lo hi
      × ((b : ℤ) → lo ≤ℤ b → b ≤ℤ hi → blameless (check_answer (with_floor c b) s l π (length out)) ≡ false))
  -- "both write nothing", and so does every other refusal
  pub leaves : (Some Finds → ⊥) → o ≡ out
  -- note 7: under a larger profile the same floor is found, "with equal bytes". More may be accepted there, but no
  -- floor above this one: a higher floor asks for no larger weight
  pub larger : (b : ℤ) (tried k : ℕ) → Finds b tried k → (ρ : Profile) → Larger π ρ
      → (search_of c s l ρ lo hi (length out) ≡ Search.found b tried k) × (search_output c s l ρ lo hi out ≡ o)
  -- "the full profile gives the old verdicts"
  pub full : SearchFull c s l
