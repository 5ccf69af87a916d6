-- The cases, computed.
use mathlib.Core.Path.{refl}
use Rattle.worked.specs.Answers.{cases, Worked}

pub worked : Worked
unfolding cases
worked = (refl, refl)
