-- Laws of a sheet's own checks: what it says that it passes them.
use mathlib.Core.Path.{◌≡◌, refl}
use mathlib.Core.List.{List}
use Prim.Native.Nat.{ℕ, ◌<◌}
use native.Mathlib.Omega.{arith}
use lib.ListN.{length}
use borrow.Author.Tests.{not-false}
use Rattle.integers.specs.Words.{Bytes}
use Rattle.bounds.specs.Profiles.{InRange}
use Rattle.bounds.specs.declared.profiles.Profile.{Profile}
use Rattle.bounds.proofs.profiles.Laws.{range_facts, facts_range}
use Rattle.answers.specs.Answers.{Passes, Short}
use Rattle.answers.proofs.answers.Laws.{passes_if, if_on, accepted_passes, short_accepted, short_if}
use Rattle.sheets.specs.Layout.{variables, limits_length, LimitsRoom}
use Rattle.limits.specs.LimitsSheet.{limit_of}
use Rattle.limits.specs.LimitChecks.{RightLimit, limits_answer}
use Rattle.limits.proofs.limits_sheet.Laws.{limit_read}
use Rattle.limits.proofs.limit_checks.Laws.{limits_room, limits_sized, limits_right, limits_short}
use Rattle.listings.proofs.variables.Laws.{right_variables}
use Rattle.limits_listing.specs.OwnChecks.{own_answer, profile_answer}

-- a limits sheet of n variables that passes 24 and 25
pub record LimitsFacts (l : List ℕ) (n : ℕ) : Type 0 where
  pub sized : length l ≡ limits_length n
  pub room : LimitsRoom l n
  pub right : (i : ℕ) → i < n → RightLimit (limit_of l n i)

pub own_facts : (l : List ℕ) → Passes (own_answer l) → LimitsFacts l (variables l)
unfolding own_answer
own_facts l h =
    let n = variables l in
    let p = passes_if _ 24 (limits_answer n l) refl h in
    record {
      sized = limits_sized n l p.1;
      room = limits_room n l (right_variables n (not-false _ p.0)).1 p.1;
      right = λ i k. rw (limit_read l n i k) at ((limits_right n l p.1).right i);
    }

pub passes_range : (π : Profile) → Passes (profile_answer π) → InRange π
unfolding profile_answer
passes_range π h = range_facts π (not-false _ (passes_if _ 27 _ refl h).0)

pub range_passes : (π : Profile) → InRange π → Passes (profile_answer π)
unfolding profile_answer
range_passes π f = accepted_passes _ 0 (if_on _ 27 _ (rw (facts_range π f)))

-- ---- every number is document 02's, and an index is below a count of a byte

pub own_short : {limit : ℕ} (l : List ℕ) → 25 < limit → Bytes l → Short limit (own_answer l)
unfolding own_answer
own_short l h b = short_if 24 _ (omega arith) (limits_short (variables l) l h (omega (arith, b 0))) _

pub profile_answer_short : {limit : ℕ} (π : Profile) → 27 < limit → Short limit (profile_answer π)
unfolding profile_answer
profile_answer_short π h = short_if 27 _ h (short_accepted 0 (omega arith) (omega arith)) _
