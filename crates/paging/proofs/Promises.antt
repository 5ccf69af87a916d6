-- The promises of the check with a page, from what its answer is.
use mathlib.Core.Path.{◌≡◌, refl, sym, ◌∙◌}
use mathlib.Core.Bool.{false, true≢false}
use mathlib.Core.List.{List, []}
use mathlib.Core.Logic.{◌↔◌}
use Prim.Native.Nat.{ℕ, suc, ◌≤◌}
use native.Mathlib.Decide.{ℕ_discrete}
use native.Mathlib.Omega.{arith}
use lib.ListN.{length, drop}
use Rattle.integers.specs.Words.{Bytes}
use Rattle.bounds.specs.Profiles.{Larger}
use Rattle.bounds.specs.declared.profiles.Profile.{Profile}
use Rattle.answers.specs.Answers.{Answer, accepted, blameless, Passes, Short}
use Rattle.answers.proofs.answers.Laws.{passes_or_fails, refused_blames}
use Rattle.sheets.specs.Layout.{row_count}
use Rattle.sheets.specs.ClaimSheet.{floor_of}
use Rattle.rows.specs.ProofSheet.{scale_of}
use Rattle.judging.specs.Check.{check_answer}
use Rattle.judging.specs.Promises.{LongEnough, CheckPromises}
use Rattle.judging.proofs.Promises.{accepted_rows, check_short, check_promises, never_promises}
use Rattle.text.specs.Text.{texts_to}
use Rattle.text.specs.Lines.{accepted_line}
use Rattle.text.proofs.lines.Laws.{refusal_short}
use Rattle.report.specs.Reports.{verdict_line}
use Rattle.report.proofs.reports.Laws.{refused_line_lem, accepted_line_lem, none_shown, all_shown}
use Rattle.pages.specs.Pages.{page_width, page_length, page_rows, Lined, page_line, page_of}
use Rattle.pages.proofs.pages.Laws.{page_blank}
use Rattle.paging.specs.PageCheck.{page_answer, page_output, shifted_triple, checked_page, page_after}
use Rattle.paging.specs.Promises.{RightPage, PagePromises}
use Rattle.paging.proofs.Full.{page_full}
use Rattle.paging.proofs.page_check.Laws.{right_answer, right_output, right_page, wrong_answer, wrong_output, wrong_page}

module _ (c s l : List ℕ) (a : Answer) where
  accepted_page : a ≡ accepted (row_count s)
      → checked_page c s l a
      ≡ page_of (accepted_line (row_count s) (scale_of s) (floor_of c)) (shifted_triple c s l) (row_count s)
  unfolding checked_page
  accepted_page e = rw (accepted_line_lem c s a (row_count s) e, all_shown s a (row_count s) e)

  refused_page : blameless a ≡ false → checked_page c s l a ≡ page_of (verdict_line c s a) (shifted_triple c s l) 0
  unfolding checked_page
  refused_page h = rw (none_shown s a h)

  refused_fits : blameless a ≡ false → Short 65536 a → length (verdict_line c s a) ≤ page_width
  refused_fits h f =
      rw (refused_line_lem c s a h)
      (omega (
        arith,
        refusal_short a.number a.value (omega (arith, f.number_short)) (omega (arith, f.value_short)),
      ))

-- ---- the promises, for whatever is to say that the check accepts, and with how many rows

module _ (c s l : List ℕ) (π : Profile) (out page : List ℕ) where
  abbrev answer : Answer
  answer = page_answer c s l π (length out) (length page)

  sized : Passes answer → RightPage page
  sized h = go (ℕ_discrete (length page) page_length)
    where
      go : Dec (RightPage page) → RightPage page
      go (yes e) = e
      go (no n) =
          absurd (true≢false (sym (rw (wrong_answer c s l π out page n) at h) ∙ refused_blames 26 0 refl))

  pub page_rows_lem : Passes answer → answer ≡ accepted (row_count s)
  page_rows_lem h =
      let e = right_answer c s l π out page (sized h) in e ∙ accepted_rows c s l π (length out) (rw e at h)

  module _ (Accepted : Type 0) (k : ℕ) (meant : Accepted ↔ Passes answer) (counted : Passes answer → k ≡ row_count s)
      (bc : Bytes c) (bs : Bytes s) (o p : List ℕ) (eo : o ≡ page_output c s l π out (length page))
      (ep : p ≡ page_after c s l π (length out) page) (lined : RightPage page → Lined p) where
    refused_wrong : (RightPage page → ⊥) → Accepted → ⊥
    refused_wrong n a = n (sized (meant.0 a))

    same_verdict : RightPage page → Accepted ↔ Passes (check_answer c s l π (length out))
    same_verdict e =
        let q = right_answer c s l π out page e in (λ a. rw q at (meant.0 a), λ h. meant.1 (rw q h))

    checked : CheckPromises c s l π out (LongEnough s out × RightPage page) Accepted k o
    checked = go (ℕ_discrete (length page) page_length)
      where
        go : Dec (RightPage page) → CheckPromises c s l π out (LongEnough s out × RightPage page) Accepted k o
        go (yes e) =
            check_promises c s l π out _ Accepted k (λ r. r.0) (same_verdict e)
            (λ h. counted (rw (right_answer c s l π out page e) h)) bs o (eo ∙ right_output c s l π out page e)
        go (no n) =
            never_promises c s l π out _ Accepted k (λ r. n r.1) (refused_wrong n) o
            (eo ∙ wrong_output c s l π out page n)

    blank : (Accepted → ⊥) → RightPage page
        → drop (suc page_width) p ≡ texts_to (λ i. page_line []) (suc page_rows)
    blank n e =
        let a = check_answer c s l π (length out) in
        let page-is = ep ∙ right_page c s l π out page e in
        passes_or_fails a (λ h. absurd (n ((same_verdict e).1 h)))
        (λ h.
        rw (page-is, refused_page c s l a h)
        (page_blank (verdict_line c s a) (shifted_triple c s l)
        (refused_fits c s l a h (check_short c s l π (length out) (omega arith) bc bs))))

    larger : Accepted → (ρ : Profile) → Larger π ρ
        → (page_answer c s l ρ (length out) (length page) ≡ accepted k)
        × (page_output c s l ρ out (length page) ≡ o) × (page_after c s l ρ (length out) page ≡ p)
    larger a ρ l' =
        let e = sized (meant.0 a) in
        let q = checked.larger a ρ l' in
        let same : check_answer c s l π (length out) ≡ accepted k =
        rw (counted (meant.0 a)) (accepted_rows c s l π (length out) ((same_verdict e).0 a)) in (
          right_answer c s l ρ out page e ∙ q.0,
          right_output c s l ρ out page e ∙ q.1,
          right_page c s l ρ out page e ∙ rw (q.0, ← same) (sym (ep ∙ right_page c s l π out page e)),
        )

    pub page_promises : PagePromises c s l π out page Accepted k o p
    page_promises = record {
      checked = checked;
      same = λ e. (same_verdict e, eo ∙ right_output c s l π out page e);
      wrong = λ n. (refused_wrong n, eo ∙ wrong_output c s l π out page n, ep ∙ wrong_page c s l π out page n);
      lined = lined;
      shows = λ a.
          let h = meant.0 a in
          let e = sized h in
          ep ∙ right_page c s l π out page e
          ∙ accepted_page c s l _ (accepted_rows c s l π (length out) ((same_verdict e).0 a));
      blank = blank;
      larger = larger;
      full = page_full c s l;
    }
