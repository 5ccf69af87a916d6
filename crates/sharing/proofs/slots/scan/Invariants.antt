use mathlib.Core.Path.{◌≡◌}
use Rattle.sharing.specs.Slots.{slots_to, tally_of}
use Rattle.sharing.proofs.slots.scan.Given as goal

abbrev pub invariant-loop-i : goal.invariant-loop-i
invariant-loop-i l = l.a ≡ tally_of l.key (slots_to l.proof l.shape l.i)
