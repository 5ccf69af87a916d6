-- Profiles: a site's own bounds.
use Rattle.std.specs.Prelude.{Bool, ℕ, ◌&&◌, ◌≤◌, leb}
use Rattle.bounds.specs.Bounds.{greatest_exponent, greatest_weight, most_rows}
use Rattle.bounds.specs.declared.profiles.Profile.{Profile}

-- "A profile gives the greatest exponent (0 to 120), weight (1 to 2^30) and row count (0 to 256)"
pub record InRange (π : Profile) : Type 0 where
  pub exponent_within : π.exponent ≤ greatest_exponent
  pub weight_positive : 1 ≤ π.weight
  pub weight_within : π.weight ≤ greatest_weight
  pub rows_within : π.rows ≤ most_rows

-- the least weight
abbrev pub least_weight : ℕ
least_weight = 1

-- the same as a test
unfoldable pub in_range : Profile → Bool
in_range π =
    leb π.exponent greatest_exponent && leb least_weight π.weight && leb π.weight greatest_weight && leb π.rows most_rows

-- "the full profile"
abbrev pub full_profile : Profile
full_profile = record { exponent = greatest_exponent; weight = greatest_weight; rows = most_rows }

-- ρ is a "profile in range that is at least as large in all three"
pub record Larger (π ρ : Profile) : Type 0 where
  pub is_in_range : InRange ρ
  pub exponent_larger : π.exponent ≤ ρ.exponent
  pub weight_larger : π.weight ≤ ρ.weight
  pub rows_larger : π.rows ≤ ρ.rows
