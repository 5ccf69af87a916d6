-- Text in ASCII: numbers in decimal, and a buffer with a text put over it.
use Rattle.std.specs.Prelude.{◌≡◌, true, false, List, [], ◌∷◌, ◌++◌, ℕ, zero, suc, ◌+◌, ◌/◌, ◌%◌, ◌≤◌, ltb, ℤ, pos, negsuc, length}
use Prim.Native.Char.{code}
use Prim.Native.String.{String, [] as []ˢ, ◌∷◌ as ◌∷ˢ◌}
use Rattle.std.proofs.lemmas.List.Edits.{sets}

-- the codes of a text's characters
abbrev pub ascii : String → List ℕ
ascii []ˢ = []
ascii (c ∷ˢ s) = code c ∷ ascii s

-- the last decimal digits of a number, at most so many, the most significant first and no zero before it; 48 is the
-- code of 0
unfoldable pub digits : ℕ → ℕ → List ℕ
digits zero n = []
digits (suc most) n = elim (ltb n 10) [ true ↦ [] | false ↦ digits most (n / 10) ] ++ ((48 + n % 10) ∷ [])

-- a number in decimal; it has no more digits than n + 1
unfoldable pub natural : ℕ → List ℕ
natural n = digits (suc n) n

-- a number of either sign: a minus sign where it is negative
unfoldable pub integer : ℤ → List ℕ
integer (pos n) = natural n
integer (negsuc n) = ascii "-" ++ natural (suc n)

-- a label and a count, a label and a number of either sign
unfoldable pub counted : List ℕ → ℕ → List ℕ
counted label n = label ++ natural n

unfoldable pub numbered : List ℕ → ℤ → List ℕ
numbered label z = label ++ integer z

-- the first i of many texts, one after another
unfoldable pub texts_to : (ℕ → List ℕ) → ℕ → List ℕ
texts_to text zero = []
texts_to text (suc i) = texts_to text i ++ text i

-- ---- a lent buffer

-- there is room for a text from a place on
pub record Room (buffer : List ℕ) (at : ℕ) (text : List ℕ) : Type 0 where
  pub room : at + length text ≤ length buffer

-- the buffer after a text was put over it from a place on, every other byte kept, and the place after the text
pub record Written (before : List ℕ) (at : ℕ) (text after : List ℕ) (end : ℕ) : Type 0 where
  pub bytes : after ≡ sets before at text
  pub ends : end ≡ at + length text
  pub kept : length after ≡ length before
  pub inside : end ≤ length after
