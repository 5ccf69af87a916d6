use mir.Facts.{to_z-of_z}
use Rattle.text.proofs.columns.Steps.{column_wide, column_room, column_written}
use Rattle.text.proofs.columns.column.Goals as goal

pub overflow_sub-before : goal.overflow_sub-before
overflow_sub-before c = search (column_wide, to_z-of_z)

pub put_text-requires : goal.put_text-requires
put_text-requires c = search (column_room, to_z-of_z)

pub returns : goal.returns
returns c = search (column_written, to_z-of_z)
