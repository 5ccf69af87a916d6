-- 16 to 19 where no variable is limited: the pure powers are then the constant, which 16 has met before them.
use Rattle.std.proofs.Common.{None}
use mathlib.Core.Path.{◌≡◌, refl, ap, fun_ext}
use mathlib.Core.Bool.{Bool, true, false, cond}
use mathlib.Core.List.{List}
use Prim.Native.Nat.{ℕ, suc, ◌-◌, ◌≤◌}
use native.Mathlib.Omega.{arith}
use lib.Dec.{ltb}
use lib.ListN.{replicate}
use borrow.Author.Tests.{le-ltb}
use Rattle.answers.specs.Searches.{first}
use Rattle.answers.proofs.searches.Laws.{first_past, none_wrong}
use Rattle.points.specs.Points.{pure_at}
use Rattle.points.proofs.points.Laws.{pure_none}
use Rattle.squares.specs.Domains.{Unlimited}
use Rattle.sheets.specs.Layout.{variables, term_count}
use Rattle.sheets.specs.ClaimSheet.{term_point}
use Rattle.limits.specs.LimitsSheet.{limit_in}
use Rattle.targets.specs.Targets.{target_of}
use Rattle.targets.specs.Unlimited.{plain_target}
use Rattle.targets.specs.declared.targets.Aim.{Aim}
use Rattle.targets.proofs.Unlimited.{targets_unlimited}
use Rattle.weighing.specs.Unheld.{point_for, unheld_at, unheld, unheld_answer}
use Rattle.weighing.specs.Weighed.{weighed_answer}
use Rattle.weighing.specs.Unlimited.{plain_point, plain_unheld, plain_weighed, WeighedUnlimited}

module _ (c s : List ℕ) (a : Aim) (u : Unlimited (limit_in a.limits)) where
  abbrev n : ℕ
  n = variables c

  abbrev t : ℕ
  t = term_count c

  targets : target_of c a ≡ plain_target c a.scale a.floor
  targets = fun_ext (λ α. (targets_unlimited c).targets a u α)

  -- every point that is looked at is a term's or the constant's
  points : (i : ℕ) → point_for c a.limits n t i ≡ plain_point c n t i
  unfolding point_for plain_point
  points i = ap (cond (ltb i t) (term_point c n i)) (go (ltb t i))
    where
      go : (b : Bool)
          → cond b (pure_at n (i - suc t) (limit_in a.limits (i - suc t)).power) (replicate n 0) ≡ replicate n 0
      go true = rw (u (i - suc t)) (pure_none n (i - suc t))
      go false = refl

  abbrev wrong : ℕ → Bool
  wrong i = unheld_at (target_of c a) s (plain_point c n t i)

  each : unheld c s a ≡ wrong
  unfolding unheld
  each = fun_ext (λ i. rw (points i))

  -- after the constant nothing is found that was not found at it
  later : (i : ℕ) → first wrong (suc t) ≡ None → suc t ≤ i → wrong i ≡ false
  unfolding plain_point
  later i none l =
      rw (le-ltb i t (omega arith)) (rw (le-ltb t t (omega arith)) at (none_wrong wrong (suc t) none t (omega arith)))

  unheld_plain : unheld_answer c s a ≡ plain_unheld (plain_target c a.scale a.floor) c s
  unfolding unheld_answer plain_unheld
  unheld_plain = rw (← targets, each, first_past wrong (suc t) n later)

pub weighed_unlimited : WeighedUnlimited
unfolding weighed_answer plain_weighed
weighed_unlimited limit c s a u = rw (unheld_plain c s a u, targets c s a u)
