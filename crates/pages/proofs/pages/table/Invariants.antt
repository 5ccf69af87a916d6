use Prim.Native.Nat.{suc, ◌+◌, ◌*◌}
use Rattle.rows.specs.ProofSheet.{triple_of}
use Rattle.text.specs.Text.{texts_to, Written}
use Rattle.pages.specs.Pages.{page_width, table_line}
use Rattle.pages.proofs.pages.table.Given as goal

abbrev pub invariant-loop-i : goal.invariant-loop-i
invariant-loop-i l =
    Written l.initial.out l.at (texts_to (table_line (triple_of l.proof l.shape) l.shape.k) l.i) l.out
    (l.at + l.i * suc page_width)
