-- Fields: a text as a list of numbers, each behind its label, and the line feed that ends it.
use Rattle.std.specs.Prelude.{◌≡◌, Bool, false, ◌&&◌, ◌||◌, List, [], ◌∷◌, ◌++◌, ℕ, ◌<◌, eqb, leb, ℤ, pos, length}
use Rattle.points.specs.Lists.{All}
use Rattle.text.specs.Text.{ascii, numbered}

pub record Field : Type 0 where
  pub label : List ℕ
  pub number : ℤ

-- a number of either sign, and a count
abbrev pub number : List ℕ → ℤ → Field
number label z = record { label = label; number = z }

abbrev pub count : List ℕ → ℕ → Field
count label n = number label (pos n)

-- the exponents of a point, the first behind a label and the others behind a space each
unfoldable pub exponent_fields : List ℕ → List ℕ → List Field
exponent_fields label [] = []
exponent_fields label (e ∷ α) = count (label ++ ascii " ") e ∷ exponent_fields [] α

-- the fields of many entries, one after another
unfoldable pub together : List (List Field) → List Field
together [] = []
together (entry ∷ entries) = entry ++ together entries

-- their text, and that of a whole sheet
unfoldable pub fields_text : List Field → List ℕ
fields_text [] = []
fields_text (f ∷ fields) = numbered f.label f.number ++ fields_text fields

unfoldable pub listing : List Field → List ℕ
listing fields = fields_text fields ++ ascii "\n"

-- ---- what tells fields apart

-- a digit, or the minus sign
abbrev pub of_numbers : ℕ → Bool
of_numbers code = eqb code 45 || (leb 48 code && leb code 57)

-- a label has some character, and none of a number's
pub record IsLabel (label : List ℕ) : Type 0 where
  pub some : 0 < length label
  pub plain : All (λ code. of_numbers code ≡ false) label

abbrev pub Labelled : List Field → Type 0
Labelled fields = All (λ f. IsLabel f.label) fields

-- the text determines the fields
abbrev pub UniqueReading : Type 0
UniqueReading = (fields others : List Field) → Labelled fields → Labelled others → listing fields ≡ listing others
    → fields ≡ others
