use borrow.Author.Rules.{rules}
use Rattle.report.proofs.reports.Steps.{unreported, report_carried, rows_carried, rows_room, report_written}
use Rattle.report.proofs.reports.report_text.Goals as goal

pub verdict_line-first-requires : goal.verdict_line-first-requires
verdict_line-first-requires c = (search report_carried, search rules)

pub shown-requires : goal.shown-requires
shown-requires c = search rows_carried

pub rows_text-requires : goal.rows_text-requires
rows_text-requires c = (search rules, search rows_room)

pub returns-then-not-reportable : goal.returns-then-not-reportable
returns-then-not-reportable c = search unreported

pub returns : goal.returns
returns c = search report_written
