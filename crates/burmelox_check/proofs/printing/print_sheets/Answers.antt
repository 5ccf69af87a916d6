use Rattle.burmelox_check.proofs.printing.Steps.{limits_part, sheets_output, sheets_written}
use Rattle.burmelox_check.proofs.printing.print_sheets.Goals as goal

pub slice_bounds-check-end : goal.slice_bounds-check-end
slice_bounds-check-end c = search limits_part

pub returns : goal.returns
returns c = record { written = search sheets_output; text = search sheets_written }
