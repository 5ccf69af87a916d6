-- The checks 16 to 19 under the full profile.
use mathlib.Core.Path.{refl}
use Rattle.weighing.specs.Weighed.{rows_judged, weighed_answer}
use Rattle.weighing.specs.Full.{full_judged, full_weighed, WeighedFull}

pub weighed_full : WeighedFull
unfolding weighed_answer rows_judged full_weighed full_judged
weighed_full c s a = refl
