-- Cases: sheets and a profile with the lines of their texts.
use Rattle.std.specs.Prelude.{◌≡◌, List, [], ◌∷◌, map, negsuc}
use Prim.Native.String.{String}
use Rattle.bounds.specs.Profiles.{full_profile}
use Rattle.text.specs.Text.{ascii}
use Rattle.report.specs.Reports.{ended}
use Rattle.listings.specs.Fields.{Field, listing}
use Rattle.claim_listing.specs.ClaimText.{claim_fields}
use Rattle.proof_listing.specs.ProofText.{proof_fields}
use Rattle.limits_listing.specs.LimitsText.{limits_fields}
use Rattle.limits_listing.specs.ProfileText.{profile_fields}
use Rattle.worked.specs.Sheets.{joined, bare, no_rows, motzkin, motzkin_proof, masked_square, cube_proof, limit, unlimited, limits_with}

pub record Case : Type 0 where
  pub fields : List Field
  pub lines : List String

unfoldable pub cases : List Case
cases =
    -- G
    record {
      fields = claim_fields motzkin;
      lines =
          "claim"
          ∷ "variables 2"
          ∷ "mask 0"
          ∷ "floor 0"
          ∷ "term 0 coefficient 1 exponents 0 0"
          ∷ "term 1 coefficient -3 exponents 2 2"
          ∷ "term 2 coefficient 1 exponents 2 4"
          ∷ "term 3 coefficient 1 exponents 4 2"
          ∷ [];
    }
    ∷ record {
      fields = proof_fields (motzkin_proof (negsuc 1));
      lines =
          "proof"
          ∷ "variables 2"
          ∷ "scale 1"
          ∷ "row 0 pair v 0 0 w 2 4 p 1 q 1 r -2"
          ∷ "row 1 pair v 1 2 w 3 2 p 2 q 2 r -4"
          ∷ "row 2 pair v 2 2 w 4 2 p 1 q 1 r -2"
          ∷ [];
    }
    -- a mask, no terms, no rows, and a lone row
    ∷ record {
      fields = claim_fields (masked_square 1);
      lines =
          "claim"
          ∷ "variables 1"
          ∷ "mask 1"
          ∷ "floor 0"
          ∷ "term 0 coefficient 1 exponents 0"
          ∷ "term 1 coefficient 2 exponents 1"
          ∷ "term 2 coefficient 1 exponents 2"
          ∷ [];
    }
    ∷ record { fields = claim_fields (bare (negsuc 0)); lines = "claim" ∷ "variables 1" ∷ "mask 0" ∷ "floor -1" ∷ [] }
    ∷ record { fields = proof_fields no_rows; lines = "proof" ∷ "variables 1" ∷ "scale 1" ∷ [] }
    ∷ record { fields = proof_fields cube_proof; lines = "proof" ∷ "variables 1" ∷ "scale 1" ∷ "row 0 lone v 3 p 1" ∷ [] }
    -- limits, of which a variable has none
    ∷ record {
      fields = limits_fields (limits_with (limit 2 1023 65536 ∷ unlimited ∷ limit 4 2 0 ∷ []));
      lines =
          "limits"
          ∷ "variables 3"
          ∷ "variable 0 power 2 limit 1023 multiplier 65536"
          ∷ "variable 2 power 4 limit 2 multiplier 0"
          ∷ [];
    }
    ∷ record { fields = limits_fields (limits_with (unlimited ∷ [])); lines = "limits" ∷ "variables 1" ∷ [] }
    ∷ record {
      fields = profile_fields full_profile;
      lines = "profile" ∷ "exponent 120" ∷ "weight 1073741824" ∷ "rows 256" ∷ [];
    }
    ∷ []

-- the definitions give every text
abbrev pub Worked : Type 0
Worked =
    map (λ (c : Case). listing c.fields) cases
    ≡ map (λ (c : Case). joined (map (λ (l : String). ended (ascii l)) c.lines)) cases
