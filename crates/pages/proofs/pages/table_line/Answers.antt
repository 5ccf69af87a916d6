use Rattle.pages.proofs.pages.Steps.{table_written}
use Rattle.pages.proofs.pages.table_line.Goals as goal

pub returns : goal.returns
returns c = search table_written
