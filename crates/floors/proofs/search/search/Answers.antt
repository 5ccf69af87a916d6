use Rattle.std.proofs.Common.{Err}
use borrow.Author.Rules.{rules}
use mathlib.Core.Path.{refl}
use native.Mathlib.Omega.{arith}
use Rattle.answers.specs.declared.answers.Sheet.TheVariants.{Range}
use Rattle.floors.specs.Search.{tells}
use Rattle.floors.proofs.search.Steps.{promised, unwritten, input_refused, search_reads, search_light, search_room, range_refused, search_ready, search_told, search_written}
use Rattle.floors.proofs.search.search.Goals as goal

named : {A B C : Type 0} → A × B × C → record { answer : A; written : B; promises : C }
named h = record { answer = h.0; written = h.1; promises = h.2 }

pub returns-in_err-check_input : goal.returns-in_err-check_input
unfolding tells
returns-in_err-check_input c =
    let refused = input_refused _ _ _ _ _ _ _ c.in_err-check_input.field-0.0 c.in_err-check_input.ensures in
    named (unwritten _ _ _ _ _ _ _ (search rules) _ c.in_err-check_input.field-0.0 (grind arith) refused)

pub returns-then-range_wrong : goal.returns-then-range_wrong
unfolding tells
returns-then-range_wrong c =
    named (unwritten _ _ _ _ _ _ _ (search rules) (Err (Range 22 0)) (Range 22 0) refl (grind (arith, range_refused _ _ _ _ _ c.in_ok-check_input.ensures)))

pub aim_of-own-requires : goal.aim_of-own-requires
aim_of-own-requires c = search_reads _ _ _ _ _ c.in_ok-check_input.ensures

pub search_checked-requires : goal.search_checked-requires
search_checked-requires c =
    let e = c.in_ok-check_input.ensures in
    (grind (arith, search_light _ _ _ _ _ e, search_ready _ _ _ _ _ e), search_room _ _ _ _ _ e)

pub returns : goal.returns
returns c =
    let e = c.in_ok-check_input.ensures in
    named (promised _ _ _ _ _ _ _ (search rules) _ _ (grind (arith, search_told _ _ _ _ _ e))
    (grind (arith, search_written _ _ _ _ _ e)))
