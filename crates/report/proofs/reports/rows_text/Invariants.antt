use Rattle.text.specs.Text.{texts_to, Written}
use Rattle.report.specs.Reports.{row_text}
use Rattle.report.proofs.reports.rows_text.Given as goal

abbrev pub invariant-loop-i : goal.invariant-loop-i
invariant-loop-i l = Written l.initial.out l.at (texts_to (row_text l.proof l.shape) l.i) l.out l.end
