use mir.Facts.{to_z-of_z}
use Rattle.answers.proofs.searches.Laws.{first_start}
use Rattle.evaluation.proofs.evaluations.Steps.{small_start, sum_next, sum_start, small_next, sum_fits, summed_end, summed_stop, none_next}
use Rattle.evaluation.proofs.evaluations.summed.Goals as goal

pub loop-i-init : goal.loop-i-init
loop-i-init c = (search first_start, search small_start, search sum_start)

pub returns-in_default : goal.returns-in_default
returns-in_default c = search summed_stop

pub overflow_add-sum : goal.overflow_add-sum
overflow_add-sum c = search (sum_fits, to_z-of_z)

pub loop-i-preserved : goal.loop-i-preserved
loop-i-preserved c = (search none_next, search small_next, search (sum_next, to_z-of_z))

pub returns : goal.returns
returns c = search summed_end
