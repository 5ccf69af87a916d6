-- What a check with a page promises.
use Rattle.std.specs.Prelude.{◌≡◌, List, [], ◌↔◌, ℕ, suc, length, drop}
use Rattle.bounds.specs.Profiles.{Larger}
use Rattle.bounds.specs.declared.profiles.Profile.{Profile}
use Rattle.answers.specs.Answers.{accepted, Passes}
use Rattle.sheets.specs.Layout.{row_count}
use Rattle.sheets.specs.ClaimSheet.{floor_of}
use Rattle.rows.specs.ProofSheet.{scale_of}
use Rattle.judging.specs.Check.{check_answer, output_of}
use Rattle.judging.specs.Promises.{LongEnough, CheckPromises}
use Rattle.text.specs.Text.{texts_to}
use Rattle.text.specs.Lines.{accepted_line}
use Rattle.pages.specs.Pages.{page_width, page_length, page_rows, Lined, page_line, page_of}
use Rattle.paging.specs.PageCheck.{page_answer, page_output, shifted_triple, page_after}
use Rattle.paging.specs.Full.{PageFull}

-- a page buffer that 26 lets pass
abbrev pub RightPage : List ℕ → Type 0
RightPage page = length page ≡ page_length

-- `Accepted` says that the entry point accepted, and k is the number of rows that it then says, both as its caller sees
-- them; o and p are the output and the page afterwards
pub record PagePromises (c s l : List ℕ) (π : Profile) (out page : List ℕ) (Accepted : Type 0) (k : ℕ) (o p : List ℕ)
    : Type 0 where
  -- all that the check promises; with 26 "the output does not count as long enough"
  pub checked : CheckPromises c s l π out (LongEnough s out × RightPage page) Accepted k o
  -- with a right page it is the check of before, and with any other it is refused and writes nothing at all
  pub same : RightPage page → (Accepted ↔ Passes (check_answer c s l π (length out))) × (o ≡ output_of c s l π out)
  pub wrong : (RightPage page → ⊥) → (Accepted → ⊥) × (o ≡ out) × (p ≡ page)
  -- "40 lines of 72 characters, each ended by a line feed"
  pub lined : RightPage page → Lined p
  -- an acceptance shows k, S, b and the shifted weights
  pub shows : Accepted
      → p ≡ page_of (accepted_line (row_count s) (scale_of s) (floor_of c)) (shifted_triple c s l) (row_count s)
  -- "a refused verdict leaves lines 2 to 40 blank"
  pub blank : (Accepted → ⊥) → RightPage page
      → drop (suc page_width) p ≡ texts_to (λ i. page_line []) (suc page_rows)
  -- note 7: under a larger profile the same k, "with equal bytes", of the page too
  pub larger : Accepted → (ρ : Profile) → Larger π ρ
      → (page_answer c s l ρ (length out) (length page) ≡ accepted k)
      × (page_output c s l ρ out (length page) ≡ o) × (page_after c s l ρ (length out) page ≡ p)
  -- "the full profile gives the old verdicts"
  pub full : PageFull c s l
