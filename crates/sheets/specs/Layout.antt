-- Layout: where each field of a sheet stands and how long a sheet is, for reader and writer alike.
use Rattle.std.specs.Prelude.{List, ℕ, ◌+◌, ◌*◌, ◌≤◌, length, get_or}
use Rattle.integers.specs.Words.{u16_at}
use Rattle.bounds.specs.Bounds.{most_variables, most_terms, most_rows}
use Rattle.sheets.specs.declared.layout.Shape.{Shape}

-- entries of one size stand one after another: where entry i begins
abbrev pub place : ℕ → ℕ → ℕ → ℕ
place from i size = from + i * size

-- byte 0: n, in every sheet
abbrev pub variables : List ℕ → ℕ
variables s = get_or s 0 0

-- ---- the claim: eight bytes, "then t points, each of n exponent bytes", "then t coefficients, signed 32-bit"

-- "Byte 1: t, terms"
abbrev pub term_count : List ℕ → ℕ
term_count c = get_or c 1 0

-- "Claim byte 2 becomes a mask"
abbrev pub mask_of : List ℕ → ℕ
mask_of c = get_or c 2 0

abbrev pub point_at : ℕ → ℕ → ℕ
point_at n i = place 8 i n

abbrev pub coefficient_at : ℕ → ℕ → ℕ → ℕ
coefficient_at n t i = place (place 8 t n) i 4

-- "The length is 8 + t × (n + 4)"
abbrev pub claim_length : ℕ → ℕ → ℕ
claim_length n t = place 8 t (n + 4)

-- ---- the proof: eight bytes, "then k rows, each two points v and w",
-- "then k weight triples p, q, r, each signed 32-bit"

-- "Bytes 2 and 3: k, rows"
abbrev pub row_count : List ℕ → ℕ
row_count s = u16_at s 2

-- n and k, by which its parts are found
abbrev pub shape_of : List ℕ → Shape
shape_of s = record { n = variables s; k = row_count s }

abbrev pub v_at : Shape → ℕ → ℕ
v_at shape i = place 8 i (2 * shape.n)

abbrev pub w_at : Shape → ℕ → ℕ
w_at shape i = v_at shape i + shape.n

abbrev pub triple_at : Shape → ℕ → ℕ
triple_at shape i = place (place 8 shape.k (2 * shape.n)) i 12

-- "The length is 8 + k × (2n + 12)"
abbrev pub proof_length : Shape → ℕ
proof_length shape = place 8 shape.k (2 * shape.n + 12)

-- ---- the limits: "n in one byte", "n entries of power (one byte ..) and limit L (two bytes ..), then n multipliers m
-- of four bytes"

abbrev pub power_at : ℕ → ℕ
power_at i = place 1 i 3

abbrev pub bound_at : ℕ → ℕ
bound_at i = power_at i + 1

abbrev pub multiplier_at : ℕ → ℕ → ℕ
multiplier_at n i = place (place 1 n 3) i 4

-- "1 + 7n bytes in all"
abbrev pub limits_length : ℕ → ℕ
limits_length n = place 1 n 7

-- ---- bytes that have room for a sheet, as the functions that read or write its parts ask

pub record ClaimRoom (c : List ℕ) (n t : ℕ) : Type 0 where
  pub few : n ≤ most_variables
  pub terms : t ≤ most_terms
  pub long : claim_length n t ≤ length c

pub record ProofRoom (s : List ℕ) (shape : Shape) : Type 0 where
  pub few : shape.n ≤ most_variables
  pub rows : shape.k ≤ most_rows
  pub long : proof_length shape ≤ length s

pub record LimitsRoom (l : List ℕ) (n : ℕ) : Type 0 where
  pub few : n ≤ most_variables
  pub long : limits_length n ≤ length l
