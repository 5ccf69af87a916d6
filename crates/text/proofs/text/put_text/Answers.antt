use Rattle.text.proofs.text.Steps.{part_written}
use Rattle.text.proofs.text.put_text.Goals as goal

pub returns : goal.returns
returns c = search part_written
