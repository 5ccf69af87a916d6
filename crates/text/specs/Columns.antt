-- Columns: numbers right-aligned, put over a buffer that has spaces there.
use Rattle.std.specs.Prelude.{◌≡◌, List, ◌++◌, ℕ, ◌+◌, ◌-◌, ◌<◌, ◌≤◌, ℤ, length, get_or, replicate}
use Rattle.text.specs.Text.{integer}

-- so many spaces; 32 is the code of a space
abbrev pub spaces : ℕ → List ℕ
spaces n = replicate n 32

-- a number at the right of a column
unfoldable pub column : ℕ → ℤ → List ℕ
column width z = spaces (width - length (integer z)) ++ integer z

-- so many bytes of a buffer from a place on, and all behind them, are spaces
pub record Blank (buffer : List ℕ) (at room : ℕ) : Type 0 where
  pub inside : at + room ≤ length buffer
  pub blank : (i : ℕ) → at ≤ i → i < length buffer → get_or buffer i 0 ≡ 32
