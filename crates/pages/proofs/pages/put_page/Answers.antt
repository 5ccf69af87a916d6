use borrow.Author.Rules.{rules}
use Rattle.pages.proofs.pages.Steps.{spaces_blank, page_copied, copy_lined}
use Rattle.pages.proofs.pages.put_page.Goals as goal

pub lay_out-requires : goal.lay_out-requires
lay_out-requires c = (search rules, search spaces_blank)

pub returns : goal.returns
returns c = (search page_copied, search copy_lined)
