use Rattle.text.specs.Text.{texts_to, Written}
use Rattle.listings.specs.Fields.{fields_text}
use Rattle.claim_listing.specs.ClaimText.{term_fields}
use Rattle.claim_listing.proofs.claim_text.whole_text.Given as goal

abbrev pub invariant-loop-i : goal.invariant-loop-i
invariant-loop-i l =
    Written l.initial.out l.initial.end (texts_to (λ j. fields_text (term_fields l.claim l.n l.t j)) l.i) l.out l.end
