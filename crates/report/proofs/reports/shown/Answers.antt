use Rattle.report.proofs.reports.Steps.{proof_carried, rows_shown, shows_rows, nothing_shown, shows_nothing}
use Rattle.report.proofs.reports.shown.Goals as goal

pub variables-requires : goal.variables-requires
variables-requires c = search proof_carried

pub returns-in-Accepted : goal.returns-in-Accepted
returns-in-Accepted c = (search rows_shown, search shows_rows)

pub returns-in-Refused : goal.returns-in-Refused
returns-in-Refused c = (search nothing_shown, search shows_nothing)
