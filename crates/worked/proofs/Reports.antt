-- The cases, computed.
use mathlib.Core.Path.{refl}
use Rattle.integers.specs.Words.{u32_at, i32_at}
use Rattle.answers.specs.Answers.{accepted, blameless}
use Rattle.text.specs.Text.{digits, natural, integer, counted, numbered, texts_to}
use Rattle.text.specs.Lines.{scale_text, accepted_line, later_text, weights_text, row_line, refused_line}
use Rattle.report.specs.Reports.{ended, shown_of, verdict_line, row_text, report_lines, has_rows, reportable, report_text}
use Rattle.worked.specs.Sheets.{joined, word, words, claim_of, proof_of, square_with, square, square_proof}
use Rattle.worked.specs.Reports.{at_limits, cases, Worked}

pub worked : Worked
unfolding
    u32_at i32_at accepted blameless joined word words claim_of proof_of square_with square square_proof digits
    natural integer counted numbered scale_text accepted_line later_text weights_text row_line refused_line texts_to
    ended shown_of verdict_line row_text report_lines has_rows reportable report_text cases at_limits
worked = refl
