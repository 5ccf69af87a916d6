use Rattle.text.specs.Text.{texts_to, Written}
use Rattle.listings.specs.Fields.{fields_text}
use Rattle.proof_listing.specs.ProofText.{row_fields}
use Rattle.proof_listing.proofs.proof_text.whole_text.Given as goal

abbrev pub invariant-loop-i : goal.invariant-loop-i
invariant-loop-i l =
    Written l.initial.out l.initial.end (texts_to (λ j. fields_text (row_fields l.proof l.shape j)) l.i) l.out l.end
