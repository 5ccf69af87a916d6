-- What the check promises, in the words of the demands.
use Rattle.std.specs.Prelude.{◌≡◌, ◌↔◌, List, ◌++◌, ℕ, ◌≤◌, length, take, drop}
use Rattle.bounds.specs.Profiles.{Larger}
use Rattle.bounds.specs.declared.profiles.Profile.{Profile}
use Rattle.answers.specs.Answers.{accepted}
use Rattle.points.specs.Lists.{All}
use Rattle.squares.specs.Rows.{Row, slots, Holds}
use Rattle.squares.specs.Decomposition.{AddsUp}
use Rattle.squares.specs.Floor.{Floors}
use Rattle.sheets.specs.Layout.{variables, row_count}
use Rattle.sheets.specs.ClaimSheet.{floor_of, terms_of}
use Rattle.rows.specs.ProofSheet.{scale_of, rows_of}
use Rattle.limits.specs.LimitsSheet.{domain_of}
use Rattle.checks.specs.Input.{WellFormed}
use Rattle.checks.specs.Profiled.{FormedUnder}
use Rattle.sharing.specs.Shifts.{shifted_rows}
use Rattle.weighing.specs.Exact.{AllWithin}
use Rattle.judging.specs.Check.{targets_of, check_answer, output_of}
use Rattle.judging.specs.Full.{CheckFull}

-- "every row holds and the weights add up to the target at every point", of rows beside a claim, a proof's scale and
-- limits
pub record Decomposes (c s l : List ℕ) (rows : List Row) : Type 0 where
  pub hold : All (λ a. Holds a.weights) rows
  pub adds_up : AddsUp (variables c) (targets_of c s l) (slots rows)

-- "The output is long enough when it has at least the proof's length."
abbrev pub LongEnough : List ℕ → List ℕ → Type 0
LongEnough s out = length s ≤ length out

-- `Enough` says that the output counts as long enough, `Accepted` that the entry point accepted, and k is the number of
-- rows that it then says, all as its caller sees them; o is the output afterwards
pub record CheckPromises (c s l : List ℕ) (π : Profile) (out : List ℕ) (Enough Accepted : Type 0) (k : ℕ) (o : List ℕ)
    : Type 0 where
  -- Demand 2: "A well-formed claim and proof, with output enough, are accepted exactly when the weights, shifted by the
  -- published sharing rule, stay within ±2^30 and form, row by row, a decomposition"; by note 7 its "±2^30 becomes" the
  -- profile's weight
  pub decides : WellFormed c s l π → Enough
      → Accepted ↔ (AllWithin π.weight (targets_of c s l) s × Decomposes c s l (shifted_rows (targets_of c s l) s))
  -- "The verdict carries k"
  pub counts : Accepted → k ≡ row_count s
  -- Demand 2: "what is written is that shifted proof": the output's first bytes read as the proof's scale and as the
  -- shifted rows
  pub reads : Accepted
      → (scale_of (take (length s) o) ≡ scale_of s) × (rows_of (take (length s) o) ≡ shifted_rows (targets_of c s l) s)
  -- "later bytes keep their values"
  pub rest : drop (length s) o ≡ drop (length s) out
  -- Demand 1: "a refusal must write no byte"
  pub leaves : (Accepted → ⊥) → o ≡ out
  -- Demand 3: "If a claim and proof are accepted .. then the polynomial is at least the floor", where mask and limits
  -- admit it, at fractions of an offset too
  pub floors : Accepted → Floors (domain_of c l) (floor_of c) (terms_of c)
  -- Demand 3: "whenever a claim and proof are well-formed, the proposed weights already add up to the target at every
  -- point, every row holds with them and the output is long enough, the proof is accepted. The output's first bytes
  -- then equal the proof, byte by byte, and its later bytes keep their values"
  pub keeps : WellFormed c s l π → Enough → Decomposes c s l (rows_of s)
      → Accepted × (o ≡ s ++ drop (length s) out)
  -- Note 7: "An accepted proof under a profile is accepted, with equal bytes, under any profile in range that is at
  -- least as large in all three"
  pub larger : Accepted → (ρ : Profile) → Larger π ρ
      → (check_answer c s l ρ (length out) ≡ accepted k) × (output_of c s l ρ out ≡ o)
  -- what the profile asks of well-formed sheets, and nothing else: "Checks 6, 9, 12, 15 .. read it"
  pub formed : FormedUnder c s l π
  -- "the full profile gives the old verdicts"
  pub full : CheckFull c s l
