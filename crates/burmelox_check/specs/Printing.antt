-- What the program prints.
use Rattle.std.specs.Prelude.{◌≡◌, false, List, ◌++◌, ℕ, ◌<◌, ℤ, length, take, replicate, ◌≤ℤ◌}
use Rattle.bounds.specs.Profiles.{full_profile}
use Rattle.answers.specs.Answers.{Answer, blameless, Passes}
use Rattle.monomials.specs.Powers.{Allowed}
use Rattle.squares.specs.Sums.{value_at}
use Rattle.squares.specs.Floor.{AtMost}
use Rattle.sheets.specs.Layout.{variables, mask_of, row_count}
use Rattle.sheets.specs.ClaimSheet.{floor_of, terms_of}
use Rattle.rows.specs.ProofSheet.{scale_of, triple_for}
use Rattle.limits.specs.LimitsSheet.{no_limits}
use Rattle.weighing.specs.Exact.{weights_for}
use Rattle.judging.specs.Unlimited.{plain_targets, plain_answer, plain_output, CheckUnlimited}
use Rattle.judging.specs.Promises.{LongEnough, CheckPromises}
use Rattle.text.specs.Text.{ascii}
use Rattle.text.specs.Lines.{accepted_line, refused_line}
use Rattle.report.specs.Reports.{ended, lines_of, report_text}
use Rattle.burmelox_check.specs.Input.{claim_part, proof_part}

-- the report of the check of a claim and its proof alone, with what it leaves in the output: the program "limits no
-- variable, and its verdicts stay", and uses the full profile
unfoldable pub sheets_text : List ℕ → List ℕ → List ℕ → List ℕ
sheets_text c s out = report_text c (plain_output c s full_profile out) (plain_answer c s full_profile (length out))

abbrev pub zeros : ℕ → List ℕ
zeros k = replicate k 0

-- "with an output as long as the proof"
unfoldable pub program_text : List ℕ → List ℕ
program_text input = sheets_text (claim_part input) (proof_part input) (zeros (length (proof_part input)))

-- ---- the same in document 01's words, for every claim and proof

-- "Fields are k, S, b, then row index and shifted weights."
unfoldable pub accepted_lines : List ℕ → List ℕ → List ℕ
accepted_lines c s =
    ended (accepted_line (row_count s) (scale_of s) (floor_of c))
    ++ lines_of (λ i. triple_for (weights_for (plain_targets c s) s i)) (row_count s)

-- the verdict on a claim and its proof
abbrev pub verdict_of : List ℕ → List ℕ → Answer
verdict_of c s = plain_answer c s full_profile (length s)

-- what tells an acceptance: the text's first word
abbrev pub Accepts : List ℕ → Type 0
Accepts text = take 8 text ≡ ascii "accepted"

-- an acceptance has these lines, and "A refusal prints `refused 19 at 0`: number, index"
pub record IsPrinted (c s text : List ℕ) : Type 0 where
  pub acceptance : Passes (verdict_of c s) → text ≡ accepted_lines c s
  pub refusal : blameless (verdict_of c s) ≡ false
      → text ≡ ended (refused_line (verdict_of c s).number (verdict_of c s).value)
  -- what the check promises, by the text's first word, with k and the shifted rows as its lines have them
  pub promises : CheckPromises c s (no_limits (variables c)) full_profile (zeros (length s))
      (LongEnough s (zeros (length s))) (Accepts text) (row_count s) (plain_output c s full_profile (zeros (length s)))
  -- where it speaks of well-formed sheets and of targets, these are those of before there were limits, and by `full`
  -- those of before there were profiles
  pub plain : CheckUnlimited c s (no_limits (variables c)) full_profile
  -- Demand 3: "the polynomial is at least the floor", by note 3 "at whole points with masked variables at least 0"
  pub floors : Accepts text → (x : List ℤ) → Allowed (mask_of c) x → floor_of c ≤ℤ value_at x (terms_of c)
  -- by note 5 also "at every point h / d with whole h and one whole d ≥ 1"
  pub fractions : Accepts text
      → (d : ℕ) (h : List ℤ) → 0 < d → Allowed (mask_of c) h → AtMost (floor_of c) (terms_of c) d h
  -- and without a mask "at all whole offsets, of either sign and however large"
  pub everywhere : Accepts text → mask_of c ≡ 0 → (x : List ℤ) → floor_of c ≤ℤ value_at x (terms_of c)

abbrev pub PrintsLines : List ℕ → Type 0
PrintsLines input = IsPrinted (claim_part input) (proof_part input) (program_text input)
