-- The steps of the check with a page.
use mathlib.Core.Path.{◌≡◌, refl, sym, ◌∙◌}
use mathlib.Core.Bool.{false}
use mathlib.Core.List.{List}
use Prim.Native.Nat.{ℕ}
use native.Mathlib.Omega.{arith}
use lib.ListN.{length}
use Rattle.integers.specs.Words.{Bytes}
use Rattle.bounds.specs.declared.profiles.Profile.{Profile}
use Rattle.answers.specs.Answers.{accepted, says, blameless, Passes}
use Rattle.answers.specs.declared.answers.Sheet.TheVariants.{Page}
use Rattle.answers.specs.declared.answers.Verdict.{Verdict}
use Rattle.answers.specs.declared.answers.Verdict.TheVariants.{Refused}
use Rattle.answers.proofs.answers.Laws.{passes_or_fails, refused_says, accepted_numbers}
use Rattle.sheets.specs.Layout.{row_count}
use Rattle.judging.specs.Check.{check_answer, output_of}
use Rattle.judging.proofs.Promises.{accepted_rows, claim_left, room_left, scale_left, weights_left}
use Rattle.report.specs.Reports.{Carries}
use Rattle.report.proofs.reports.Laws.{refused_line_lem, accepted_line_lem, none_shown, all_shown}
use Rattle.pages.specs.Pages.{Lined, verdict_page}
use Rattle.pages.proofs.pages.Laws.{verdict_shown, page_same}
use Rattle.paging.specs.PageCheck.{page_answer, page_output, shifted_triple, checked_page, page_after}
use Rattle.paging.specs.Promises.{RightPage, PagePromises}
use Rattle.paging.proofs.Promises.{page_rows_lem, page_promises}
use Rattle.paging.proofs.page_check.Laws.{right_answer, right_output, right_page, wrong_answer, wrong_output, wrong_page}

module _ (c s l : List ℕ) (π : Profile) (out page : List ℕ) where
  -- ---- v is the verdict, o and p are the output and the page afterwards

  pub promises : (v : Verdict) → says v ≡ page_answer c s l π (length out) (length page) → Bytes c → Bytes s
      → (o p : List ℕ) → o ≡ page_output c s l π out (length page) → p ≡ page_after c s l π (length out) page
      → (RightPage page → Lined p) → PagePromises c s l π out page (Passes (says v)) (says v).value o p
  promises v e bc bs o p eo ep lined =
      page_promises c s l π out page _ _ (λ h. rw e at h, λ h. rw e h)
      (λ h. (accepted_numbers _ _ (e ∙ page_rows_lem c s l π out page h)).1) bc bs o p eo ep lined

  -- ---- a page of another length

  module _ (n : RightPage page → ⊥) where
    pub wrong_says : says (Refused (Page 26 0)) ≡ page_answer c s l π (length out) (length page)
    wrong_says = refused_says (Page 26 0) 26 0 refl ∙ sym (wrong_answer c s l π out page n)

    pub output_kept : out ≡ page_output c s l π out (length page)
    output_kept = sym (wrong_output c s l π out page n)

    pub page_kept : page ≡ page_after c s l π (length out) page
    page_kept = sym (wrong_page c s l π out page n)

    pub wrong_promises : Bytes c → Bytes s
        → PagePromises c s l π out page (Passes (says (Refused (Page 26 0)))) (says (Refused (Page 26 0))).value out
        page
    wrong_promises bc bs =
        promises (Refused (Page 26 0)) wrong_says bc bs out page output_kept page_kept (λ r. absurd (n r))

  -- ---- v is the verdict of the check, o the output afterwards

  module _ (v : Verdict) (e : says v ≡ check_answer c s l π (length out)) (o : List ℕ) (eo : o ≡ output_of c s l π out)
    where
      module _ (h : Passes (check_answer c s l π (length out))) where
        rows_said : says v ≡ accepted (row_count s)
        rows_said = e ∙ accepted_rows c s l π (length out) h

      pub output_carries : Carries c o (says v)
      output_carries = record {
        claim = λ h. claim_left c s l π out (rw e at h);
        proof = record {
          rows = λ h.
              let p = rw e at h in
              rw (eo, (accepted_numbers (says v) (row_count s) (rows_said p)).1) (room_left c s l π out p);
        };
      }

      -- the page of the output's rows is that of the shifted rows
      output_page : verdict_page c o (says v) ≡ checked_page c s l (says v)
      unfolding checked_page shifted_triple
      output_page =
          verdict_shown c o (says v) ∙ passes_or_fails (check_answer c s l π (length out))
          (λ h.
          let a = rows_said h in
          rw (
            accepted_line_lem c o (says v) (row_count s) a,
            accepted_line_lem c s (says v) (row_count s) a,
            all_shown o (says v) (row_count s) a,
            all_shown s (says v) (row_count s) a,
            eo,
            scale_left c s l π out h,
          )
          (page_same _ _ _ (row_count s) (weights_left c s l π out h)))
          (λ h.
          let f : blameless (says v) ≡ false = rw e h in
          rw (
            refused_line_lem c o (says v) f,
            refused_line_lem c s (says v) f,
            none_shown o (says v) f,
            none_shown s (says v) f,
          )
          (page_same _ _ _ 0 (λ i m. absurd (omega arith))))

      module _ (r : RightPage page) where
        pub right_says : says v ≡ page_answer c s l π (length out) (length page)
        right_says = e ∙ sym (right_answer c s l π out page r)

        pub output_written : o ≡ page_output c s l π out (length page)
        output_written = eo ∙ sym (right_output c s l π out page r)

        pub page_written : (p : List ℕ) → p ≡ verdict_page c o (says v) → p ≡ page_after c s l π (length out) page
        page_written p ep = ep ∙ output_page ∙ rw e (sym (right_page c s l π out page r))
