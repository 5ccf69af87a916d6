use Rattle.text.proofs.text.Steps.{number_written}
use Rattle.text.proofs.text.decimal.Goals as goal

pub returns : goal.returns
returns g c = search number_written
