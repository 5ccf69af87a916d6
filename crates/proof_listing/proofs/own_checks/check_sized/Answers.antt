use Rattle.proof_listing.proofs.own_checks.Laws.{full_in_range, rows_there}
use Rattle.proof_listing.proofs.own_checks.check_sized.Goals as goal

pub check_rows-requires : goal.check_rows-requires
check_rows-requires c = (
  rows_there _ _ _ c.in_ok-check_header.ensures c.variables.ensures.0 c.shape_of.ensures.0 c.requires.1 c.requires.2,
  full_in_range,
)
