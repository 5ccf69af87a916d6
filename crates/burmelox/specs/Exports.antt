-- Answers as one number, for callers in other languages, and what these callers are promised.
use Rattle.std.specs.Prelude.{◌≡◌, ◌↔◌, ℕ, ◌+◌, ◌*◌, ◌/◌, ◌%◌, ◌<◌, ◌^◌, ℤ}
use Rattle.answers.specs.Answers.{Answer, sheet_number, Passes}
use Rattle.evaluation.specs.Evaluations.{Told, value, refusal}
use Rattle.floors.specs.Search as Floors

-- what a refusal's sheet and number are multiplied by
abbrev pub sheet_unit : ℕ
sheet_unit = 2 ^ 32

abbrev pub number_unit : ℕ
number_unit = 2 ^ 16

-- sheet × 2^32 + number × 2^16 + index; k for an acceptance, which has no sheet and no number
unfoldable pub code_of : Answer → ℕ
code_of answer = sheet_number answer.blamed * sheet_unit + answer.number * number_unit + answer.value

-- ---- what the macros of include/burmelox.h read from an answer

-- BURMELOX_SHEET
unfoldable pub sheet_in : ℕ → ℕ
sheet_in r = r / 2 ^ 32

-- BURMELOX_NUMBER
unfoldable pub number_in : ℕ → ℕ
number_in r = r / 2 ^ 16 % 2 ^ 16

-- BURMELOX_INDEX
unfoldable pub index_in : ℕ → ℕ
index_in r = r % 2 ^ 16

-- BURMELOX_ACCEPTED
abbrev pub Accepted : ℕ → Type 0
Accepted r = r < 2 ^ 16

-- the macros read back what the checks answer
pub record Coded (answer : Answer) (r : ℕ) : Type 0 where
  pub accepted : Accepted r ↔ Passes answer
  pub sheet : sheet_in r ≡ sheet_number answer.blamed
  pub number : number_in r ≡ answer.number
  pub index : index_in r ≡ answer.value

-- what stands behind a pointer stays where nothing was given
pub record Leaves {A : Type 0} (Given : Type 0) (before after : A) : Type 0 where
  pub leaves : (Given → ⊥) → after ≡ before

-- ---- evaluations: r is the answer, `before` and `after` are what stands behind the pointer

-- the value that is stored, or what stood there before
unfoldable pub told_value : Told → ℤ → ℤ
told_value (value z) before = z
told_value (refusal answer) before = before

-- the answer is 0, and z was stored
abbrev pub Stores : ℕ → ℤ → ℤ → Type 0
Stores r after z = (r ≡ 0) × (after ≡ z)

-- ---- searches: r is the answer, b and m are the floor and the number of floors tried, as they are stored

-- what is stored, or what stood there before
unfoldable pub told_floor : Floors.Told → ℤ → ℤ
told_floor (Floors.found floor tried k) before = floor
told_floor (Floors.refusal answer) before = before

unfoldable pub told_tried : Floors.Told → ℕ → ℕ
told_tried (Floors.found floor tried k) before = tried
told_tried (Floors.refusal answer) before = before

-- the answer is k, and a floor and the number of floors tried were stored
abbrev pub Finds : ℕ → ℤ → ℕ → ℤ → ℕ → ℕ → Type 0
Finds r b m floor tried k = Accepted r × (r ≡ k) × (b ≡ floor) × (m ≡ tried)
