use Rattle.text.specs.Text.{texts_to, Written}
use Rattle.listings.specs.Exponents.{spaced_at}
use Rattle.listings.proofs.exponents.exponents_text.Given as goal

abbrev pub invariant-loop-i : goal.invariant-loop-i
invariant-loop-i l = Written l.initial.out l.initial.end (texts_to (spaced_at l.sheet l.at) l.i) l.out l.end
