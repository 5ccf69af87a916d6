-- What a function that writes the text of a sheet answers, leaves in the buffer and promises, whatever the sheet.
use Rattle.std.specs.Prelude.{◌≡◌, cond, List, ℕ, ◌≤◌, length, take, drop}
use Rattle.answers.specs.Answers.{Answer, blameless, and_then}
use Rattle.listings.specs.Fields.{Field, listing}
use Rattle.listings.specs.Handing.{handed_answer, handed}

-- "a sheet that does not [pass its own checks] is refused by their numbers", then 30
unfoldable pub listing_answer : Answer → List Field → ℕ → Answer
listing_answer checked fields room = and_then checked (handed_answer (length (listing fields)) room)

unfoldable pub listing_after : Answer → List Field → List ℕ → List ℕ
listing_after checked fields buffer = cond (blameless checked) (handed (listing fields) buffer) buffer

-- of a kind of sheets, those that pass their own checks, and the fields of one: a text of r characters was given
pub record ListingPromises {S : Type 0} (Formed : S → Type 0) (fields_of : S → List Field) (sheet : S)
    (before : List ℕ) (Given : Type 0) (r : ℕ) (after : List ℕ) : Type 0 where
  pub gives : Formed sheet → length (listing (fields_of sheet)) ≤ length before → Given
  pub text : Given → take r after ≡ listing (fields_of sheet)
  pub rest : Given → drop r after ≡ drop r before
  pub kept : (Given → ⊥) → after ≡ before
  -- "two sheets with the same text are the same bytes"
  pub determines : Given → (other : S) → Formed other → listing (fields_of other) ≡ take r after → other ≡ sheet
