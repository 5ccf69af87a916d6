-- The cases, computed.
use mathlib.Core.Path.{refl}
use Rattle.integers.specs.Words.{u32_at, i32_at}
use Rattle.points.specs.Lists.{table}
use Rattle.points.specs.Points.{bytes_at, same_point}
use Rattle.text.specs.Text.{digits, natural, integer, numbered}
use Rattle.report.specs.Reports.{ended}
use Rattle.listings.specs.Fields.{exponent_fields, together, fields_text, listing}
use Rattle.claim_listing.specs.ClaimText.{head_fields, term_fields, claim_fields}
use Rattle.proof_listing.specs.ProofText as Proofs
use Rattle.limits_listing.specs.LimitsText.{line_fields, variable_fields, limit_fields, limits_fields}
use Rattle.limits_listing.specs.ProfileText.{profile_fields}
use Rattle.worked.specs.Sheets.{joined, word, words, claim_of, proof_of, square_with, one_row, bare, no_rows, motzkin, motzkin_proof, masked, masked_square, cube_proof, limit, unlimited, limits_with}
use Rattle.worked.specs.Listings.{cases, Worked}

pub worked : Worked
unfolding
    u32_at i32_at table bytes_at same_point digits natural integer numbered exponent_fields together fields_text
    listing head_fields term_fields claim_fields Proofs.head_fields Proofs.weight_fields Proofs.pair_fields
    Proofs.lone_fields Proofs.row_fields Proofs.proof_fields line_fields variable_fields limit_fields limits_fields
    profile_fields joined word words claim_of proof_of square_with one_row bare no_rows motzkin motzkin_proof masked
    masked_square cube_proof limit unlimited limits_with ended cases
worked = refl
