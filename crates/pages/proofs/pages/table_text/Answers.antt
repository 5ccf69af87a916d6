use Rattle.pages.proofs.pages.Steps.{row_text_lem, more_text, no_text}
use Rattle.pages.proofs.pages.table_text.Goals as goal

pub returns-then-i-lt-PAGE_ROWS : goal.returns-then-i-lt-PAGE_ROWS
returns-then-i-lt-PAGE_ROWS c = search row_text_lem

pub returns-then-shape-gt-PAGE_ROWS : goal.returns-then-shape-gt-PAGE_ROWS
returns-then-shape-gt-PAGE_ROWS c = search more_text

pub returns : goal.returns
returns c = search no_text
