-- What every function that writes the text of a sheet promises, from what it answers and leaves in the buffer.
use mathlib.Core.Path.{◌≡◌, refl, ◌∙◌}
use mathlib.Core.List.{List, ◌++◌}
use Prim.Native.Nat.{ℕ, ◌+◌, ◌<◌, ◌≤◌}
use native.Mathlib.Decide.{dec_lt}
use native.Mathlib.Omega.{arith}
use lib.ListN.{length, take, drop}
use lib.Seq.{sets-eq, take-append_seam, drop-append_seam}
use borrow.Author.Tests.{lt-ltb, le-ltb, ltb-false}
use Rattle.answers.specs.Answers.{Answer, accepted, refusal, Passes, Short}
use Rattle.answers.specs.declared.answers.Sheet.{Sheet}
use Rattle.answers.proofs.answers.Laws.{told_failed, told_passed, then_refused, then_passed, passes_then, passes_if, passes_or_fails, if_on, then_on, then_off, accepted_passes, accepted_numbers, short_accepted, short_if, short_then}
use Rattle.text.specs.Text.{Written}
use Rattle.listings.specs.Fields.{Field, listing, Labelled}
use Rattle.listings.specs.Handing.{handed_answer, handed}
use Rattle.listings.specs.Listings.{listing_answer, listing_after, ListingPromises}
use Rattle.listings.proofs.Fields.{unique_reading}

-- ---- an answer and the buffer after it, where a text of some fields was asked for

module _ (checked : Answer) (fields : List Field) where
  abbrev long : ℕ
  long = length (listing fields)

  module _ (room : ℕ) where
    given_enough : Passes (listing_answer checked fields room) → Passes checked × (long ≤ room)
    unfolding listing_answer handed_answer
    given_enough h =
        let p = passes_then checked _ h in
        (p.0, ltb-false _ _ (passes_if _ 30 _ refl p.1).0)

    enough_given : Passes checked → long ≤ room → listing_answer checked fields room ≡ accepted long
    unfolding listing_answer handed_answer
    enough_given p l = then_on checked _ p ∙ if_on _ 30 _ (le-ltb room long l)

    pub given_accepted : Passes (listing_answer checked fields room)
        → listing_answer checked fields room ≡ accepted long
    given_accepted h = let p = given_enough h in enough_given p.0 p.1

    -- a text of less than 2^16 characters
    pub listing_short : {limit : ℕ} → 30 < limit → Short limit checked → (Passes checked → long < 65536)
        → Short limit (listing_answer checked fields room)
    unfolding listing_answer handed_answer
    listing_short {limit} n s h =
        passes_or_fails checked
        (λ p. short_then checked _ s (short_if 30 _ n (short_accepted long (omega arith) (h p)) _))
        (λ e. rw (then_off checked _ e) s)

  module _ (buffer : List ℕ) where
    given_after : Passes checked → long ≤ length buffer
        → listing_after checked fields buffer ≡ listing fields ++ drop long buffer
    unfolding listing_after handed
    given_after p l = rw (p, le-ltb (length buffer) long l)

    kept_after : (Passes (listing_answer checked fields (length buffer)) → ⊥)
        → listing_after checked fields buffer ≡ buffer
    unfolding listing_after handed
    kept_after h = passes_or_fails checked (λ p. go p (dec_lt (length buffer) long)) (λ e. rw e)
      where
        go : Passes checked → Dec (length buffer < long) → listing_after checked fields buffer ≡ buffer
        go p (yes l) = rw (p, lt-ltb (length buffer) long l)
        go p (no l) = absurd (h (accepted_passes _ long (enough_given (length buffer) p (omega arith))))

-- ---- how a function comes to them, by the result of the sheet's own checks

module _ (checked : Answer) (fields : List Field) (buffer : List ℕ) where
  module _ (x : Sheet) (h : refusal x ≡ checked) where
    pub checked_refused : refusal x ≡ listing_answer checked fields (length buffer)
    unfolding listing_answer
    checked_refused = then_refused _ x h _

    pub checked_kept : buffer ≡ listing_after checked fields buffer
    unfolding listing_after
    checked_kept = rw (told_failed _ x h)

  -- o has the whole text up to end, `said` is what handing it over says, and `after` is the buffer then
  module _ (h : accepted 0 ≡ checked) (z o : List ℕ) (end : ℕ) (w : Written z 0 (listing fields) o end) where
    taken : take end o ≡ listing fields
    taken =
        let n : end ≡ length (listing fields) = omega (arith, w.ends) in
        let i : 0 + length (listing fields) ≤ length z = omega (arith, w.inside, w.kept, w.ends) in
        rw (n, w.bytes, sets-eq (listing fields) z 0 i) (take-append_seam (listing fields) _)

    pub handed_answer_lem : (said : Answer) → said ≡ handed_answer (length (take end o)) (length buffer)
        → said ≡ listing_answer checked fields (length buffer)
    unfolding listing_answer
    handed_answer_lem said e = then_passed _ h said _ (rw taken at e)

    pub handed_after : (after : List ℕ) → after ≡ handed (take end o) buffer
        → after ≡ listing_after checked fields buffer
    unfolding listing_after
    handed_after after e = rw (told_passed _ h) (rw taken at e)

-- ---- the promises: Formed says that a sheet passes its checks, whose fields then tell it

module _ {S : Type 0} (Formed : S → Type 0) (fields_of : S → List Field)
    (labelled : (a : S) → Labelled (fields_of a))
    (apart : (a b : S) → Formed a → Formed b → fields_of a ≡ fields_of b → a ≡ b) where
  module _ (sheet : S) (checked : Answer) (formed : Passes checked → Formed sheet)
      (passes : Formed sheet → Passes checked) (before after : List ℕ) (a : Answer)
      (ea : a ≡ listing_answer checked (fields_of sheet) (length before))
      (eb : after ≡ listing_after checked (fields_of sheet) before)
      (Given : Type 0) (r : ℕ) (given : Given → Passes a) (back : Passes a → Given) (er : Given → r ≡ a.value) where
    abbrev fields : List Field
    fields = fields_of sheet

    enough : Given → Passes checked × (length (listing fields) ≤ length before)
    enough g = given_enough checked fields (length before) (rw ea at (given g))

    sized : Given → r ≡ length (listing fields)
    sized g =
        let p = enough g in
        er g ∙ (accepted_numbers a _ (ea ∙ enough_given checked fields (length before) p.0 p.1)).1

    whole : Given → after ≡ listing fields ++ drop (length (listing fields)) before
    whole g = let p = enough g in eb ∙ given_after checked fields before p.0 p.1

    begins : Given → take r after ≡ listing fields
    begins g = rw (sized g, whole g) (take-append_seam (listing fields) _)

    pub listing_promises : ListingPromises Formed fields_of sheet before Given r after
    listing_promises = record {
      gives = λ f l.
          back (accepted_passes a _ (ea ∙ enough_given checked fields (length before) (passes f) l));
      text = begins;
      rest = λ g. rw (sized g, whole g) (drop-append_seam (listing fields) _);
      kept = λ h. eb ∙ kept_after checked fields before (λ p. h (back (rw ea p)));
      determines = λ g other f e.
          apart other sheet f (formed (enough g).0)
          (unique_reading (fields_of other) fields (labelled other) (labelled sheet) (e ∙ begins g));
    }

-- the same told by another number r', under another word for a text that is given
pub promises_told : {S : Type 0} {Formed : S → Type 0} {fields_of : S → List Field} {sheet : S} {before after : List ℕ}
    {Given Given' : Type 0} {r r' : ℕ} → (Given' → Given) → (Given → Given') → (Given' → r' ≡ r)
    → ListingPromises Formed fields_of sheet before Given r after
    → ListingPromises Formed fields_of sheet before Given' r' after
promises_told to from e p = record {
  gives = λ f l. from (p.gives f l);
  text = λ g. rw (e g) (p.text (to g));
  rest = λ g. rw (e g) (p.rest (to g));
  kept = λ h. p.kept (λ g. h (from g));
  determines = λ g other f t. p.determines (to g) other f (t ∙ rw (e g));
}
