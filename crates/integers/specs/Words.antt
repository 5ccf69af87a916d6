-- Words: numbers of 16 and 32 bits in a list of bytes. "Multi-byte fields are little-endian; signed ones are two's
-- complement."
use Rattle.std.specs.Prelude.{List, [], ◌∷◌, ℕ, ◌+◌, ◌*◌, ◌/◌, ◌%◌, ℤ, get_or}
use Rattle.std.proofs.lemmas.List.Edits.{sets}
use Rattle.std.specs.Int.{w8, w32}
use Rattle.std.proofs.Common.{Fits, to_z, of_z}

-- every element is a byte, as owning a slice of them tells
abbrev pub Bytes : List ℕ → Type 0
Bytes s = (i : ℕ) → Fits w8 (get_or s i 0)

-- the number of the two bytes from a place on, the lowest first
abbrev pub u16_at : List ℕ → ℕ → ℕ
u16_at s at = get_or s at 0 + get_or s (at + 1) 0 * 256

-- and of the four bytes
unfoldable pub u32_at : List ℕ → ℕ → ℕ
u32_at s at = get_or s at 0 + get_or s (at + 1) 0 * 256 + get_or s (at + 2) 0 * 65536 + get_or s (at + 3) 0 * 16777216

-- the same bytes as a signed number
unfoldable pub i32_at : List ℕ → ℕ → ℤ
i32_at s at = to_z w32 (u32_at s at)

-- the four bytes of a number, the lowest first
abbrev pub bytes_of : ℕ → List ℕ
bytes_of bits = bits % 256 ∷ bits / 256 % 256 ∷ bits / 65536 % 256 ∷ bits / 16777216 ∷ []

-- the list with a number's four bytes from a place on
unfoldable pub with_bits : List ℕ → ℕ → ℕ → List ℕ
with_bits s at bits = sets s at (bytes_of bits)

-- the same of a signed number
unfoldable pub with_i32 : List ℕ → ℕ → ℤ → List ℕ
with_i32 s at v = with_bits s at (of_z w32 v)
