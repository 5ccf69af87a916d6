use borrow.Author.Rules.{rules}
use Rattle.burmelox_check.proofs.printing.Laws.{part_counts}
use Rattle.burmelox_check.proofs.printing.Steps.{input_written, prints_lines, rest_counts}
use Rattle.burmelox_check.proofs.printing.print_input.Goals as goal

pub slice_bounds-print_sheets-end : goal.slice_bounds-print_sheets-end
slice_bounds-print_sheets-end c = search part_counts

pub slice_bounds-print_sheets-end-3 : goal.slice_bounds-print_sheets-end-3
slice_bounds-print_sheets-end-3 c = search rest_counts

pub returns : goal.returns
returns c = record { text = search input_written; lines = prints_lines _ (search rules) }
