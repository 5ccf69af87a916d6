-- The cases, computed.
use mathlib.Core.Path.{refl}
use Rattle.integers.specs.Words.{u32_at, i32_at}
use Rattle.points.specs.Lists.{table}
use Rattle.points.specs.Points.{bytes_at}
use Rattle.monomials.specs.Powers.{power_of, monomial_of}
use Rattle.squares.specs.Sums.{value}
use Rattle.squares.specs.Fractions.{degree, degree_of, homogenised}
use Rattle.sheets.specs.ClaimSheet.{terms_of}
use Rattle.worked.specs.Sheets.{joined, word, words, claim_of, square_with, square, bare, motzkin, one_term, masked, masked_cube, minus_square, line}
use Rattle.worked.specs.Fractions.{over, cases, sides_of, Worked}

pub worked : Worked
unfolding
    u32_at i32_at table bytes_at power_of monomial_of value degree degree_of homogenised terms_of joined word words
    claim_of square_with square bare motzkin one_term masked masked_cube minus_square line over cases sides_of
worked = refl
