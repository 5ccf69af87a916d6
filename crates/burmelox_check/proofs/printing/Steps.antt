-- The steps of the functions that print.
use mathlib.Core.Path.{◌≡◌, refl, sym, ◌∙◌, ap}
use mathlib.Core.Bool.{false}
use mathlib.Core.List.{List, ◌∷◌}
use Prim.Native.Nat.{ℕ, zero, suc, ◌+◌, ◌-◌, ◌*◌, ◌<◌, ◌≤◌}
use native.Mathlib.Omega.{arith}
use lib.ListN.{length, get_or, set, take, drop, replicate, length-drop, length-replicate}
use lib.Seq.{take_all, get_or-drop}
use Rattle.integers.specs.Words.{Bytes}
use Rattle.bounds.specs.Profiles.{full_profile}
use Rattle.answers.specs.Answers.{says, blameless, Passes}
use Rattle.answers.specs.declared.answers.Verdict.{Verdict}
use Rattle.answers.proofs.answers.Laws.{passes_or_fails}
use Rattle.squares.proofs.Floor.{admits_allowed}
use Rattle.sheets.specs.Layout.{variables, row_count}
use Rattle.rows.specs.ProofSheet.{scale_of, triple_for}
use Rattle.limits.specs.LimitsSheet.{domain_of, no_limits}
use Rattle.limits.proofs.limits_sheet.Laws.{none_bytes, none_length}
use Rattle.limits.proofs.limit_checks.Laws.{none_limited}
use Rattle.weighing.specs.Exact.{weights_for}
use Rattle.judging.specs.Check.{targets_of, check_answer, output_of}
use Rattle.judging.specs.Unlimited.{plain_answer, plain_output, CheckUnlimited}
use Rattle.judging.specs.Promises.{LongEnough, CheckPromises}
use Rattle.judging.proofs.Unlimited.{plain_targets_lem, check_unlimited}
use Rattle.judging.proofs.Promises.{check_promises, accepted_rows, claim_left, room_left, scale_left, weights_left}
use Rattle.text.specs.Text.{Written}
use Rattle.text.specs.Lines.{refused_line}
use Rattle.report.specs.Reports.{ended, report_text}
use Rattle.report.proofs.reports.Laws.{accepted_word, refused_word, accepted_lines_lem, refused_lines}
use Rattle.burmelox_check.specs.Input.{claim_end, claim_part, proof_part}
use Rattle.burmelox_check.specs.Printing.{zeros, sheets_text, program_text, accepted_lines, verdict_of, Accepts, IsPrinted, PrintsLines}

-- as many zeros as are taken of more
take_zeros : (k most : ℕ) → k ≤ most → take k (zeros most) ≡ zeros k
take_zeros zero most h = refl
take_zeros (suc k) zero h = absurd (omega arith)
take_zeros (suc k) (suc most) h = ap (λ (l : List ℕ). 0 ∷ l) (take_zeros k most (omega arith))

-- the check with no variable limited, under the full profile
unlimited : (c s : List ℕ) → CheckUnlimited c s (no_limits (variables c)) full_profile
unlimited c s = check_unlimited c s (no_limits (variables c)) full_profile (none_limited (variables c))

-- ---- print_sheets: n is the number of variables that was read, v the verdict, o the output afterwards

module _ (c : List ℕ) (n : ℕ) (en : n ≡ variables c) where
  unlimited_is : n < 256 → take (1 + 7 * n) (set (replicate 1786 0) 0 n) ≡ no_limits (variables c)
  unlimited_is l =
      let k : 1 + 7 * n ≡ suc (7 * n) = omega arith in
      rw (k, ← en, none_bytes n) (ap (◌∷◌ n) (take_zeros (7 * n) 1785 (omega arith)))

  pub limits_part : n < 256 → 1 + 7 * n ≡ length (take (1 + 7 * n) (set (replicate {A = ℕ} 1786 0) 0 n))
  limits_part l = sym (ap length (unlimited_is l) ∙ none_length (variables c) ∙ rw (← en) (omega arith))

  module _ (s out o : List ℕ) (l : n < 256)
      (eo : o ≡ output_of c s (take (1 + 7 * n) (set (replicate 1786 0) 0 n)) full_profile out) where
    pub sheets_output : o ≡ plain_output c s full_profile out
    sheets_output = eo ∙ rw (unlimited_is l) ((unlimited c s).output out)

    pub sheets_written : (m m' : List ℕ) (v : Verdict) (end : ℕ) → Written m 0 (report_text c o (says v)) m' end
        → says v ≡ check_answer c s (take (1 + 7 * n) (set (replicate 1786 0) 0 n)) full_profile (length out)
        → Written m 0 (sheets_text c s out) m' end
    unfolding sheets_text
    sheets_written m m' v end w ev =
        let e : says v ≡ plain_answer c s full_profile (length out) =
        ev ∙ rw (unlimited_is l) ((unlimited c s).answer (length out)) in
        rw (← e, ← sheets_output) w

-- ---- print_input: e is where the claim ends, `most` the greatest length of an input
module _ (input : List ℕ) (e most : ℕ) (h : length input ≤ most) where
  pub rest_counts : length input - e ≡ length (take (length input - e) (zeros most))
  rest_counts =
      rw (take_zeros (length input - e) most (omega arith)) (sym (length-replicate {A = ℕ} (length input - e) 0))

  rest_length : length (drop e input) ≡ length input - e
  rest_length = length-drop e input

  rest_whole : take (length input - e) (drop e input) ≡ drop e input
  rest_whole = take_all (length input - e) (drop e input) (omega (arith, rest_length))

  pub input_written : (l m : List ℕ) (end : ℕ) → e ≡ claim_end input
      → Written l 0
      (sheets_text (take e input) (take (length input - e) (drop e input)) (take (length input - e) (zeros most))) m end
      → Written l 0 (program_text input) m end
  unfolding program_text claim_part proof_part
  input_written l m end ee w =
      rw (← ee, rest_length) (rw (rest_whole, take_zeros (length input - e) most (omega arith)) at w)

-- ---- the lines: the check's, with no variable limited

module _ (c s : List ℕ) where
  abbrev ls : List ℕ
  ls = no_limits (variables c)

  as_long : length (zeros (length s)) ≡ length s
  as_long = length-replicate {A = ℕ} (length s) 0

  answers : (room : ℕ) → check_answer c s ls full_profile room ≡ plain_answer c s full_profile room
  answers = (unlimited c s).answer

  accepted_text : Passes (verdict_of c s) → sheets_text c s (zeros (length s)) ≡ accepted_lines c s
  unfolding sheets_text accepted_lines
  accepted_text h =
      let out = zeros (length s) in
      let p : Passes (check_answer c s ls full_profile (length out)) = rw (as_long, answers) h in
      rw (
        ← ((unlimited c s).output out),
        ← (answers (length out)),
        ← (plain_targets_lem c s ls full_profile (none_limited (variables c))),
        accepted_rows c s ls full_profile (length out) p,
      )
      (accepted_lines_lem c (output_of c s ls full_profile out) (row_count s) (claim_left c s ls full_profile out p)
      (room_left c s ls full_profile out p) (scale_of s) (λ i. triple_for (weights_for (targets_of c s ls) s i))
      (scale_left c s ls full_profile out p)
      (weights_left c s ls full_profile out p))

  refused_text : blameless (verdict_of c s) ≡ false
      → sheets_text c s (zeros (length s)) ≡ ended (refused_line (verdict_of c s).number (verdict_of c s).value)
  unfolding sheets_text
  refused_text h = rw as_long (refused_lines c (plain_output c s full_profile (zeros (length s))) (verdict_of c s) h)

  passed_begins : Passes (verdict_of c s) → Accepts (sheets_text c s (zeros (length s)))
  unfolding accepted_lines
  passed_begins h = rw (accepted_text h) (accepted_word _ _ _ _)

  -- no refusal begins so
  begins_passed : Accepts (sheets_text c s (zeros (length s))) → Passes (verdict_of c s)
  begins_passed h =
      passes_or_fails (verdict_of c s) (λ q. q)
      (λ q.
      let w : ◌≡◌ {A = ℕ} 97 114 =
      ap (λ (l : List ℕ). get_or l 0 0) (sym h ∙ ap (take 8) (refused_text q) ∙ refused_word _ _) in
      absurd (omega (arith, w)))

  text_promises : Bytes s
      → CheckPromises c s ls full_profile (zeros (length s)) (LongEnough s (zeros (length s)))
      (Accepts (sheets_text c s (zeros (length s)))) (row_count s) (plain_output c s full_profile (zeros (length s)))
  text_promises b =
      check_promises c s ls full_profile (zeros (length s)) _ _ _ (λ r. r)
      (λ h. rw (as_long, answers) (begins_passed h), λ h. passed_begins (rw (as_long, answers) at h))
      (λ h. refl) b _ (rw ((unlimited c s).output (zeros (length s))))

  sheets_printed : Bytes s → IsPrinted c s (sheets_text c s (zeros (length s)))
  sheets_printed b =
      let none = (none_limited (variables c)).unlimited in
      record {
        acceptance = accepted_text;
        refusal = refused_text;
        promises = text_promises b;
        plain = unlimited c s;
        floors = λ h. ((text_promises b).floors h).unlimited none;
        fractions = λ h d x l a.
            ((text_promises b).floors h).fractions d x l (admits_allowed (domain_of c ls) d x none a);
        everywhere = λ h. ((text_promises b).floors h).everywhere none;
      }

-- every input has its lines
pub prints_lines : (input : List ℕ) → Bytes input → PrintsLines input
unfolding program_text proof_part
prints_lines input b =
    sheets_printed (claim_part input) (proof_part input)
    (λ i. rw (get_or-drop (claim_end input) input i 0) (b (claim_end input + i)))
