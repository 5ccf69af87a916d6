use Rattle.checks.proofs.input.Laws.{rows_room, profile_read, variables_few}
use Rattle.checks.proofs.input.check_input.Goals as goal

pub check_rest-requires : goal.check_rest-requires
check_rest-requires c =
    let passed = c.in_ok-check_head.ensures in
    (rows_room _ _ _ passed, profile_read _ _ _ passed, variables_few _ _ _ passed _ c.variables.ensures.0)
