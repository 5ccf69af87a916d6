use Rattle.std.proofs.Common.{None}
use mathlib.Core.Path.{◌≡◌}
use Prim.Native.Nat.{◌<◌}
use Rattle.answers.specs.Searches.{first}
use Rattle.floors.specs.Search.{passes_after}
use Rattle.floors.proofs.search.walk.Given as goal

abbrev pub invariant-loop-i : goal.invariant-loop-i
invariant-loop-i l = (l.last < l.tests) × (first (passes_after l.limit l.claim l.proof l.aim l.fn.hi) l.i ≡ None)
