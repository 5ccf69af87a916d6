use Rattle.std.proofs.Common.{refl}
use Rattle.judging.proofs.check.Steps.{input_refused, sheets_read, weight_read, check_weighed, writable, refused_output}
use Rattle.judging.proofs.check.judged.Goals as goal

pub returns-in_err-check_input-clause-written : goal.returns-in_err-check_input-clause-written
returns-in_err-check_input-clause-written c =
    let x = c.in_err-check_input.field-0 in
    refused_output _ _ _ _ _ x.0 (input_refused _ _ _ _ _ x.0 c.in_err-check_input.ensures)

pub weigh-requires : goal.weigh-requires
weigh-requires c =
    let passed = c.in_ok-check_input.ensures in
    (sheets_read _ _ _ _ _ passed _ c.aim_of-aim.ensures, weight_read _ _ _ _ _ passed)

pub returns-in_err-k-clause-written : goal.returns-in_err-k-clause-written
returns-in_err-k-clause-written c =
    refused_output _ _ _ _ _ c.in_err-k.field-0.0
    (check_weighed _ _ _ _ _ c.in_ok-check_input.ensures _ c.aim_of-aim.ensures _ c.in_err-k.ensures)

pub write_exact-requires : goal.write_exact-requires
write_exact-requires c =
    writable _ _ _ _ _ c.in_ok-check_input.ensures _ c.aim_of-aim.ensures _ c.in_ok-k.ensures _ refl
