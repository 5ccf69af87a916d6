-- Bounds: those of documents 01 and 02: `most` for what is counted, `greatest` for sizes.
use Rattle.std.specs.Prelude.{Bool, ℕ, ◌^◌, ltb, ℤ, nat_abs}

-- "n, variables, 1 to 8"
abbrev pub most_variables : ℕ
most_variables = 8

-- "t, terms, 0 to 64"
abbrev pub most_terms : ℕ
most_terms = 64

-- "k, rows, 0 to 256"
abbrev pub most_rows : ℕ
most_rows = 256

-- "exponent bytes, 0 to 120"
abbrev pub greatest_exponent : ℕ
greatest_exponent = 120

-- "the scale S, 1 to 2^20"
abbrev pub greatest_scale : ℕ
greatest_scale = 2 ^ 20

-- floor, coefficients and weights: "from −2^30 to 2^30"
abbrev pub greatest_weight : ℕ
greatest_weight = 2 ^ 30

-- a term's value: "at most 2^56"
abbrev pub greatest_value : ℕ
greatest_value = 2 ^ 56

-- a search's floors: "hi − lo over 4,095" is refused
abbrev pub greatest_span : ℕ
greatest_span = 4095

-- "limit L (two bytes, 1 to 1,023)"
abbrev pub greatest_limit : ℕ
greatest_limit = 1023

-- "multipliers m of four bytes, 0 to 65,536"
abbrev pub greatest_multiplier : ℕ
greatest_multiplier = 65536

-- a number beyond ± a limit
unfoldable pub beyond : ℕ → ℤ → Bool
beyond limit x = ltb limit (nat_abs x)
