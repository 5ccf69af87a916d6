use borrow.Author.Rules.{rules}
use mathlib.Core.Path.{sym, ap}
use native.Mathlib.Omega.{arith}
use lib.ListN.{length-replicate}
use Rattle.answers.specs.Answers.{told}
use Rattle.answers.proofs.answers.Laws.{accepted_passes}
use Rattle.listings.proofs.Listings.{checked_refused, checked_kept, handed_answer_lem, handed_after}
use Rattle.listings.proofs.handing.listed.Goals as goal

pub returns-in_err-checked : goal.returns-in_err-checked
returns-in_err-checked g c = λ fields h.
    let x = c.in_err-checked.field-0.0 in
    let e = ap told (sym c.in_err-checked.was) in
    let refused = checked_refused _ fields c.args.buffer.now x e in
    (search (rules, refused), checked_kept _ fields _ x e)

pub write-end-requires : goal.write-end-requires
write-end-requires g c =
    let p = accepted_passes _ 0 (ap told c.in_ok-checked.was) in
    c.requires.takes p _ (length-replicate _ _)

pub shared_whole_as_front-hand_over : goal.shared_whole_as_front-hand_over
shared_whole_as_front-hand_over g c =
    let p = accepted_passes _ 0 (ap told c.in_ok-checked.was) in
    (c.requires.inside p _ _ _ (length-replicate _ _) c.write-end.ensures, omega (arith, c.requires.small))

pub returns : goal.returns
returns g c = λ fields h.
    let passed = ap told c.in_ok-checked.was in
    let w = h (accepted_passes _ 0 passed) _ _ _ (length-replicate _ _) c.write-end.ensures in (
      handed_answer_lem _ fields _ (sym passed) _ _ _ w _ c.hand_over.ensures.verdict,
      handed_after _ fields _ (sym passed) _ _ _ w _ c.hand_over.ensures.written,
    )
