use Rattle.std.proofs.Common.{◌∙◌, rules, of_calls, arith}
use Rattle.answers.specs.Answers.{Passes}
use Rattle.text.specs.Text.{Written}
use Rattle.listings.specs.Fields.{listing}
use Rattle.claim_listing.specs.ClaimText.{claim_fields}
use Rattle.claim_listing.proofs.claim_text.Steps.{text_promises}
use Rattle.claim_listing.proofs.claim_text.claim_text.Goals as goal

pub listed-requires : goal.listed-requires
listed-requires c = record {
  small = search rules;
  takes = λ p b e. let h : Passes _ = rw c.check_claim-checked.ensures at p in search (rules, of_calls);
  inside = λ p b end a e m.
      let w : Written b.now 0 (listing (claim_fields c.args.claim.now)) a.now end = search (rules, of_calls) in
      omega (arith, w.inside, w.kept, e);
}

pub returns : goal.returns
returns c =
    let both = c.listed.ensures (claim_fields c.args.claim.now) (λ p b end a e m. search (rules, of_calls)) in
    let v = c.into.ensures ∙ (rw c.check_claim-checked.ensures at both.0) in
    let w = rw c.check_claim-checked.ensures at both.1 in
    record { verdict = v; written = w; promises = search (text_promises, v, w) }
