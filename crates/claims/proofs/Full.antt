-- The checks 1 to 7 under the full profile.
use mathlib.Core.List.{List}
use Prim.Native.Nat.{ℕ}
use Rattle.bounds.proofs.profiles.Laws.{full_range_lem}
use Rattle.answers.proofs.answers.Laws.{if_on}
use Rattle.claims.specs.ClaimChecks.{terms_answer, claim_answer}
use Rattle.claims.specs.Full.{full_terms, full_claim, ClaimFull}

pub claim_full : (c : List ℕ) → ClaimFull c
unfolding claim_answer full_claim terms_answer full_terms
claim_full c = if_on _ 27 _ (rw full_range_lem)
