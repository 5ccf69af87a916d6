use Rattle.text.proofs.text.Steps.{label_room, short_counted}
use Rattle.text.proofs.text.counted.Goals as goal

pub put_text-from-requires : goal.put_text-from-requires
put_text-from-requires c = search label_room

pub returns-then-n-lt100 : goal.returns-then-n-lt100
returns-then-n-lt100 c = search short_counted
