use mir.Facts.{to_z-of_z}
use Rattle.pages.proofs.pages.Steps.{index_fits, index_blank, weight_fits, p_blank, q_blank, r_blank, row_written}
use Rattle.pages.proofs.pages.row_columns.Goals as goal

pub column-p-requires : goal.column-p-requires
column-p-requires c = (search index_fits, search index_blank)

pub column-q-requires : goal.column-q-requires
column-q-requires c = (search (weight_fits, to_z-of_z), search p_blank)

pub column-r-requires : goal.column-r-requires
column-r-requires c = (search (weight_fits, to_z-of_z), search (q_blank, to_z-of_z))

pub column-requires : goal.column-requires
column-requires c = (search (weight_fits, to_z-of_z), search (r_blank, to_z-of_z))

pub returns : goal.returns
returns c = search (row_written, to_z-of_z)
