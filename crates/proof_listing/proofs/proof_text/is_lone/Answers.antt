use Rattle.proof_listing.proofs.proof_text.Steps.{lone_is}
use Rattle.proof_listing.proofs.proof_text.is_lone.Goals as goal

pub returns : goal.returns
returns c = search lone_is
