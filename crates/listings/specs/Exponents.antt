-- Exponents as the code puts them: `exponents_spaced` of proofs/exponents/Laws.antt shows that they are the fields of a
-- point.
use Rattle.std.specs.Prelude.{List, ℕ, ◌+◌, get_or}
use Rattle.text.specs.Text.{ascii, counted, texts_to}

-- n bytes from a place on, each behind a space
abbrev pub spaced_at : List ℕ → ℕ → ℕ → List ℕ
spaced_at s at j = counted (ascii " ") (get_or s (at + j) 0)

abbrev pub spaced_text : List ℕ → ℕ → ℕ → List ℕ
spaced_text s at n = texts_to (spaced_at s at) n
