-- The cases of checks, of searches, of pages and of profiles, computed.
use mathlib.Core.Path.{refl}
use mathlib.Core.List.{[], ◌∷◌}
use lib.IntN.{negsuc}
use Rattle.integers.specs.Words.{u32_at, i32_at, with_bits, with_i32}
use Rattle.integers.specs.Division.{floor_div, floor_mod, share}
use Rattle.bounds.specs.Bounds.{beyond}
use Rattle.bounds.specs.Profiles.{in_range}
use Rattle.answers.specs.Answers.{accepted, blameless, and_then}
use Rattle.answers.specs.Searches.{kept, first}
use Rattle.points.specs.Lists.{table}
use Rattle.points.specs.Points.{bytes_at, same_point, rises_to, midpoint_of, even_sum, has_midpoint, exponents_within, keeps_sign, padded, pure_at}
use Rattle.monomials.specs.Powers.{power_of, monomial_of}
use Rattle.squares.specs.Sums.{gathered, coefficient, value}
use Rattle.squares.specs.Rows.{slots_at}
use Rattle.squares.specs.Domains.{limit_at, limits_to}
use Rattle.squares.specs.Targets.{lowered, worst, target}
use Rattle.sheets.specs.Layout.{shape_of}
use Rattle.sheets.specs.ClaimSheet.{terms_of}
use Rattle.rows.specs.ProofSheet.{row_of}
use Rattle.writing.specs.Writing.{with_rows}
use Rattle.claims.specs.ClaimChecks as C
use Rattle.checks.specs.ProofChecks as P
use Rattle.limits.specs.LimitsSheet.{limits_of, no_limits}
use Rattle.limits.specs.LimitChecks.{limits_shaped, power_right, limit_right, limit_breaks, limits_answer}
use Rattle.checks.specs.Input.{head_answer, room_answer, body_answer, rest_answer, input_answer}
use Rattle.targets.specs.Targets.{aim_of, target_of}
use Rattle.sharing.specs.Sharing.{count, error_at, shifted_weight, rank_of}
use Rattle.sharing.specs.Slots.{slots_to}
use Rattle.sharing.specs.Shifts.{shifted_weights, shift_row, slots_before, shifted_row, shifted_rows}
use Rattle.judgements.specs.Judgements.{negative, indefinite, judge_pair, judge_lone, judgement_of, number_of, judged_as, firsts_to, judged_answer}
use Rattle.weighing.specs.Unheld.{point_for, unheld_at, unheld, unheld_answer}
use Rattle.weighing.specs.Exact.{weights_for, exact_proof}
use Rattle.weighing.specs.Weighed.{rows_judged, weighed_answer}
use Rattle.judging.specs.Check.{targets_of, check_answer, output_of}
use Rattle.evaluation.specs.Evaluations as E
use Rattle.floors.specs.Search as F
use Rattle.text.specs.Text.{digits, natural, integer, texts_to, counted, numbered}
use Rattle.text.specs.Columns.{column}
use Rattle.text.specs.Lines.{scale_text, accepted_line, refused_line}
use Rattle.report.specs.Reports.{shown_of, verdict_line}
use Rattle.pages.specs.Pages.{page_line, row_columns, row_shown, more_shown, table_text, table_line, page_of}
use Rattle.paging.specs.PageCheck.{page_answer, page_output, shifted_triple, checked_page, page_after}
use Rattle.worked.specs.Sheets.{joined, word, words, claim_of, proof_of, square_with, square, square_proof, one_row, bare, no_rows, motzkin, motzkin_proof, motzkin_exchanged, motzkin_bytes, motzkin_proof_bytes, one_term, masked, masked_square, masked_product, product_proof, masked_cube, cube_proof, limit, unlimited, limits_with, one_limit, minus_square, parabola, one_at_one, line, bare_proof, line_proof, at_zero}
use Rattle.worked.specs.Judging.{spare, accepts_in, refuses_in, accepts, refuses, motzkin_exact, marked, tabled, with_mask, worked, with_limits, cases, Worked, Targets, Exchanged}
use Rattle.worked.specs.Searches as S
use Rattle.worked.specs.Pages as Pages
use Rattle.worked.specs.Profiles as Profiles

computed : Worked × S.Worked × Targets × Pages.Worked × Pages.Lines × Profiles.Worked
unfolding
    u32_at i32_at with_bits with_i32 floor_div floor_mod share table bytes_at same_point rises_to midpoint_of even_sum
    has_midpoint exponents_within keeps_sign gathered coefficient slots_at lowered worst target terms_of with_rows
    accepted blameless and_then kept first beyond C.counts_right C.mask_right C.claim_header_right
    C.coefficient_breaks C.exponent_breaks C.order_breaks C.terms_answer C.claim_answer P.proof_header_right
    P.header_answer P.q_or_r P.any_beyond P.exponent_breaks P.midpoint_breaks P.unused_breaks P.weight_breaks
    P.rows_answer joined word words claim_of proof_of square_with square square_proof one_row count error_at
    shifted_weight aim_of target_of slots_to rank_of shifted_weights shift_row slots_before shifted_row shifted_rows
    head_answer room_answer body_answer rest_answer input_answer padded pure_at limit_at limits_to limits_of no_limits
    limits_shaped power_right limit_right limit_breaks limits_answer rows_judged limit unlimited limits_with one_limit
    minus_square parabola one_at_one line bare_proof line_proof at_zero accepts_in refuses_in with_limits cases
    S.finds_in S.refuses_in point_for unheld_at unheld unheld_answer negative indefinite judge_pair judge_lone
    judgement_of number_of judged_as firsts_to judged_answer weights_for exact_proof weighed_answer targets_of
    check_answer output_of bare no_rows motzkin motzkin_proof motzkin_exchanged motzkin_bytes motzkin_proof_bytes
    one_term masked masked_square masked_product product_proof masked_cube cube_proof spare accepts refuses
    motzkin_exact marked tabled with_mask worked F.range_wrong F.range_answer F.floor_count F.floor_after F.accepts
    F.refused_before F.told_after F.search_of F.output_by F.search_output S.finds S.refuses S.heavy S.lone_zero
    S.cases S.ranges S.worked digits natural integer texts_to counted numbered column scale_text accepted_line
    refused_line shown_of verdict_line page_line row_columns row_shown more_shown table_text table_line page_of
    page_answer page_output shifted_triple checked_page page_after Pages.paper Pages.shows Pages.refuses_page
    Pages.cases Pages.worked Pages.heavy Pages.last_lines in_range F.answer_of E.told_by E.term_value E.too_large
    E.too_large_answer E.evaluation_answer E.evaluation_of power_of monomial_of value Profiles.within Profiles.wrong
    Profiles.refusals Profiles.refused_by Profiles.accepts Profiles.refuses Profiles.lowered Profiles.lighter
    Profiles.heavy Profiles.cases Profiles.worked Profiles.searches Profiles.found Profiles.evaluations
    Profiles.values
computed =
    (refl, (refl, refl), (refl, refl, refl, refl), refl, (refl, refl, refl, refl), (refl, refl, refl, refl, refl))

pub all_worked : Worked
all_worked = computed.0

pub all_searched : S.Worked
all_searched = computed.1

pub all_targets : Targets
all_targets = computed.2

pub all_pages : Pages.Worked
all_pages = computed.3

pub all_lines : Pages.Lines
all_lines = computed.4

pub all_profiles : Profiles.Worked
all_profiles = computed.5

-- the second sheet has H's second row first, then its first
pub rows_exchanged : Exchanged
unfolding
    u32_at i32_at table bytes_at same_point joined word words proof_of motzkin_proof motzkin_exchanged
rows_exchanged =
    let row = row_of (motzkin_proof (negsuc 2)) (shape_of (motzkin_proof (negsuc 2))) in
    (row 1 ∷ [], row 2 ∷ [], refl, ([], row 2 ∷ [], refl, ([], [], refl, refl)))
