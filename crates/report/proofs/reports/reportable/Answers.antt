use Rattle.report.proofs.reports.Steps.{refusal_reported, no_claim, rows_reported}
use Rattle.report.proofs.reports.reportable.Goals as goal

pub returns-then-claim-ge8 : goal.returns-then-claim-ge8
returns-then-claim-ge8 c = search rows_reported

pub returns-else-claim-ge8 : goal.returns-else-claim-ge8
returns-else-claim-ge8 c = search no_claim

pub returns-in-Refused : goal.returns-in-Refused
returns-in-Refused c = search refusal_reported
