-- The cases, computed.
use mathlib.Core.Path.{refl}
use Rattle.answers.specs.Answers.{accepted}
use Rattle.burmelox.specs.Exports.{code_of}
use Rattle.burmelox.specs.Cases.{cases, Worked}

pub worked : Worked
unfolding cases code_of accepted
worked = refl
