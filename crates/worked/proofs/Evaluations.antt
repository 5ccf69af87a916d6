-- The cases, computed.
use mathlib.Core.Path.{refl}
use Rattle.integers.specs.Words.{u32_at, i32_at}
use Rattle.bounds.specs.Bounds.{beyond}
use Rattle.bounds.specs.Profiles.{in_range}
use Rattle.answers.specs.Answers.{accepted, blameless, and_then}
use Rattle.answers.specs.Searches.{kept, first}
use Rattle.points.specs.Lists.{table}
use Rattle.points.specs.Points.{bytes_at, rises_to, exponents_within}
use Rattle.monomials.specs.Powers.{power_of, monomial_of}
use Rattle.squares.specs.Sums.{value}
use Rattle.sheets.specs.ClaimSheet.{terms_of}
use Rattle.claims.specs.ClaimChecks.{counts_right, mask_right, claim_header_right, coefficient_breaks, exponent_breaks, order_breaks, terms_answer, claim_answer}
use Rattle.evaluation.specs.Evaluations.{told_by, term_value, too_large, too_large_answer, evaluation_answer, evaluation_of}
use Rattle.worked.specs.Sheets.{joined, word, words, claim_of, two_terms, square_with, square, one_term, masked, masked_cube, minus_square}
use Rattle.worked.specs.Evaluations.{at, one_at, least, greatest, cases, Worked}

pub worked : Worked
unfolding
    u32_at i32_at table bytes_at rises_to exponents_within power_of monomial_of value terms_of accepted blameless
    and_then beyond joined word words claim_of two_terms square_with square one_term masked masked_cube minus_square
    counts_right mask_right claim_header_right coefficient_breaks exponent_breaks order_breaks terms_answer
    claim_answer kept first told_by term_value too_large too_large_answer evaluation_answer evaluation_of in_range at
    one_at least greatest cases
worked = refl
