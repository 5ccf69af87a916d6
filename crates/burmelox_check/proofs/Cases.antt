-- The cases, computed.
use mathlib.Core.Path.{refl}
use Rattle.integers.specs.Words.{u32_at, i32_at, with_bits, with_i32}
use Rattle.integers.specs.Division.{floor_div, floor_mod, share}
use Rattle.bounds.specs.Bounds.{beyond}
use Rattle.bounds.specs.Profiles.{in_range}
use Rattle.answers.specs.Answers.{accepted, blameless, and_then}
use Rattle.answers.specs.Searches.{kept, first}
use Rattle.points.specs.Lists.{table}
use Rattle.points.specs.Points.{bytes_at, same_point, rises_to, midpoint_of, even_sum, has_midpoint, exponents_within, keeps_sign}
use Rattle.squares.specs.Sums.{gathered, coefficient}
use Rattle.squares.specs.Rows.{slots_at}
use Rattle.squares.specs.Targets.{lowered, worst}
use Rattle.sheets.specs.ClaimSheet.{terms_of}
use Rattle.writing.specs.Writing.{with_rows}
use Rattle.claims.specs.ClaimChecks as C
use Rattle.checks.specs.ProofChecks as P
use Rattle.checks.specs.Input.{head_answer, room_answer, body_answer}
use Rattle.targets.specs.Unlimited.{plain_target}
use Rattle.sharing.specs.Sharing.{count, error_at, shifted_weight, rank_of}
use Rattle.sharing.specs.Slots.{slots_to}
use Rattle.sharing.specs.Shifts.{shifted_weights, shift_row, slots_before, shifted_row}
use Rattle.judgements.specs.Judgements.{negative, indefinite, judge_pair, judge_lone, judgement_of, number_of, judged_as, firsts_to, judged_answer}
use Rattle.weighing.specs.Unheld.{unheld_at}
use Rattle.weighing.specs.Exact.{weights_for, exact_proof}
use Rattle.weighing.specs.Weighed.{rows_judged}
use Rattle.weighing.specs.Unlimited.{plain_point, plain_unheld, plain_weighed}
use Rattle.judging.specs.Unlimited.{plain_targets, plain_answer, plain_output}
use Rattle.text.specs.Text.{digits, natural, integer, counted, numbered, texts_to}
use Rattle.text.specs.Lines.{scale_text, accepted_line, later_text, weights_text, row_line, refused_line}
use Rattle.report.specs.Reports.{ended, shown_of, verdict_line, row_text, report_lines, has_rows, reportable, report_text}
use Rattle.worked.specs.Sheets.{joined, word, words, claim_of, proof_of, square_with, square, square_proof, masked, masked_square, motzkin, motzkin_proof}
use Rattle.burmelox_check.specs.Input.{said_length, splits, claim_end, claim_part, proof_part}
use Rattle.burmelox_check.specs.Printing.{sheets_text, program_text}
use Rattle.burmelox_check.specs.Cases.{cases, Worked}

pub worked : Worked
unfolding
    cases program_text sheets_text proof_part claim_part claim_end splits said_length report_text reportable has_rows
    report_lines row_text shown_of verdict_line ended texts_to refused_line row_line weights_text later_text
    accepted_line scale_text numbered counted integer natural digits u32_at i32_at with_bits with_i32 floor_div
    floor_mod share table bytes_at same_point rises_to midpoint_of even_sum has_midpoint exponents_within keeps_sign
    gathered coefficient slots_at lowered worst terms_of with_rows accepted blameless and_then kept first beyond
    C.counts_right C.mask_right C.claim_header_right C.coefficient_breaks C.exponent_breaks C.order_breaks
    C.terms_answer C.claim_answer P.proof_header_right P.header_answer P.q_or_r P.any_beyond P.exponent_breaks
    P.midpoint_breaks P.unused_breaks P.weight_breaks P.rows_answer joined word words claim_of proof_of square_with
    square square_proof masked masked_square count error_at shifted_weight plain_target slots_to rank_of
    shifted_weights shift_row slots_before shifted_row head_answer room_answer body_answer plain_point unheld_at
    plain_unheld negative indefinite judge_pair judge_lone judgement_of number_of judged_as firsts_to judged_answer
    weights_for exact_proof rows_judged plain_weighed plain_targets plain_answer plain_output motzkin motzkin_proof
    in_range
worked = refl
