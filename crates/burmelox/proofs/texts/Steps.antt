-- The steps of the exported functions that write texts: v is the verdict on a text of some fields, r its code.
use mathlib.Core.Path.{◌≡◌, sym, ◌∙◌, ap}
use mathlib.Core.List.{List}
use Prim.Native.Nat.{ℕ}
use lib.ListN.{length}
use Rattle.answers.specs.Answers.{Answer, says, Passes, Short}
use Rattle.answers.specs.declared.answers.Verdict.{Verdict}
use Rattle.answers.proofs.answers.Laws.{accepted_numbers}
use Rattle.listings.specs.Fields.{Field, listing}
use Rattle.listings.specs.Listings.{listing_answer, ListingPromises}
use Rattle.listings.proofs.Listings.{given_accepted, promises_told}
use Rattle.burmelox.specs.Exports.{code_of, Accepted, Coded}
use Rattle.burmelox.proofs.exports.Steps.{accepted_code, coded}

module _ (checked : Answer) (fields : List Field) (room : ℕ) (v : Verdict)
    (e : says v ≡ listing_answer checked fields room) (r : ℕ) (er : r ≡ code_of (says v)) where
  abbrev answer : Answer
  answer = listing_answer checked fields room

  pub text_code : r ≡ code_of answer
  text_code = er ∙ ap code_of e

  pub text_coded : Short 65536 (says v) → Coded answer r
  text_coded s =
      coded answer r text_code (rw e at s) (length (listing fields)) (given_accepted checked fields room)

  module _ {S : Type 0} (Formed : S → Type 0) (fields_of : S → List Field) (sheet : S) (before after : List ℕ)
      (s : Short 65536 (says v))
      (p : ListingPromises Formed fields_of sheet before (Passes (says v)) (says v).value after) where
    pub text_promised : ListingPromises Formed fields_of sheet before (Accepted r) r after
    text_promised =
        promises_told (λ a. rw e ((text_coded s).accepted.0 a)) (λ g. (text_coded s).accepted.1 (rw e at g))
        (λ a. told ((text_coded s).accepted.0 a)) p
      where
        told : Passes answer → r ≡ (says v).value
        told g =
            let k = given_accepted checked fields room g in
            accepted_code answer r text_code _ k ∙ sym (accepted_numbers (says v) _ (e ∙ k)).1
