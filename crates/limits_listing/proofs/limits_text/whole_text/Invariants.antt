use Rattle.text.specs.Text.{Written}
use Rattle.limits_listing.specs.LimitsText.{lines_text}
use Rattle.limits_listing.proofs.limits_text.whole_text.Given as goal

abbrev pub invariant-loop-i : goal.invariant-loop-i
invariant-loop-i l = Written l.initial.out l.initial.end (lines_text l.limits l.n l.i) l.out l.end
