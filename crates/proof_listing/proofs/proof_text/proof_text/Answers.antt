use Rattle.std.proofs.Common.{◌∙◌, rules, of_calls, arith}
use Rattle.answers.specs.Answers.{Passes}
use Rattle.text.specs.Text.{Written}
use Rattle.listings.specs.Fields.{listing}
use Rattle.proof_listing.specs.ProofText.{proof_fields}
use Rattle.proof_listing.proofs.proof_text.Steps.{text_promises}
use Rattle.proof_listing.proofs.proof_text.proof_text.Goals as goal

pub listed-requires : goal.listed-requires
listed-requires c = record {
  small = search rules;
  takes = λ p b e. let h : Passes _ = rw c.check_own-checked.ensures at p in search (rules, of_calls);
  inside = λ p b end a e m.
      let w : Written b.now 0 (listing (proof_fields c.args.proof.now)) a.now end = search (rules, of_calls) in
      omega (arith, w.inside, w.kept, e);
}

pub returns : goal.returns
returns c =
    let both = c.listed.ensures (proof_fields c.args.proof.now) (λ p b end a e m. search (rules, of_calls)) in
    let v = c.into.ensures ∙ (rw c.check_own-checked.ensures at both.0) in
    let w = rw c.check_own-checked.ensures at both.1 in
    record { verdict = v; written = w; promises = search (text_promises, v, w) }
