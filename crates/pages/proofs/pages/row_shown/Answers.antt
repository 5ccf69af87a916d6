use borrow.Author.Rules.{rules}
use Rattle.pages.proofs.pages.Steps.{none_shown, row_there, row_narrow, shown_written}
use Rattle.pages.proofs.pages.row_shown.Goals as goal

pub returns-then-shape-i : goal.returns-then-shape-i
returns-then-shape-i c = search none_shown

pub row_triple-x-requires : goal.row_triple-x-requires
row_triple-x-requires c = (search row_there, search rules)

pub row_columns-requires : goal.row_columns-requires
row_columns-requires c = (search rules, search row_narrow, search rules)

pub returns : goal.returns
returns c = search shown_written
