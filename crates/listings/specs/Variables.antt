-- How many variables a sheet has that stands by itself.
use Rattle.std.specs.Prelude.{Bool, ◌&&◌, ℕ, leb}
use Rattle.bounds.specs.Bounds.{most_variables}

-- "n, variables, 1 to 8"
unfoldable pub variables_right : ℕ → Bool
variables_right n = leb 1 n && leb n most_variables
