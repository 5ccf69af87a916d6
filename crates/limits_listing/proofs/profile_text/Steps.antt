-- The steps of the functions that put a profile's text.
use mathlib.Core.Path.{◌≡◌, refl}
use mathlib.Core.List.{List, [], ◌∷◌, ◌++◌}
use Prim.Native.Nat.{ℕ}
use native.Mathlib.Omega.{arith}
use lib.ListN.{length}
use Rattle.bounds.specs.Profiles.{InRange}
use Rattle.bounds.specs.declared.profiles.Profile.{Profile}
use Rattle.answers.specs.Answers.{says, Passes}
use Rattle.answers.specs.declared.answers.Verdict.{Verdict}
use Rattle.text.specs.Text.{ascii, Room, Written}
use Rattle.text.proofs.text.Laws.{room_first, room_then, written_then}
use Rattle.listings.specs.Fields.{fields_text, listing}
use Rattle.listings.specs.Listings.{listing_answer, listing_after, ListingPromises}
use Rattle.listings.proofs.Fields.{listing_is}
use Rattle.listings.proofs.Listings.{listing_promises}
use Rattle.limits_listing.specs.OwnChecks.{profile_answer}
use Rattle.limits_listing.specs.ProfileText.{longest, profile_fields}
use Rattle.limits_listing.proofs.own_checks.Laws.{passes_range, range_passes}
use Rattle.limits_listing.proofs.profile_text.Laws.{profile_labelled, profile_short, profile_apart}

-- ---- whole_text

module _ (π : Profile) (h : Passes (profile_answer π)) (l : List ℕ) (el : length l ≡ longest) where
  abbrev bounds : List ℕ
  bounds = fields_text (profile_fields π)

  listed : listing (profile_fields π) ≡ bounds ++ ascii "\n"
  listed = listing_is (profile_fields π)

  whole : Room l 0 (bounds ++ ascii "\n")
  whole = record { room = rw (← listed) (omega (arith, el, profile_short π (passes_range π h))) }

  pub bounds_room : Room l 0 bounds
  bounds_room = room_first _ (ascii "\n") whole

  module _ (k : List ℕ) (mid : ℕ) (w : Written l 0 bounds k mid) where
    pub feed_room : Room k mid (10 ∷ [])
    feed_room = room_then _ (ascii "\n") whole w

    pub whole_written : (o : List ℕ) (end : ℕ) → Written k mid (10 ∷ []) o end
        → Written l 0 (listing (profile_fields π)) o end
    whole_written o end u = rw listed (written_then _ (ascii "\n") w u)

-- ---- profile_text: r is the verdict, and `after` the buffer then

pub text_promises : (π : Profile) (before after : List ℕ) (r : Verdict)
    → says r ≡ listing_answer (profile_answer π) (profile_fields π) (length before)
    → after ≡ listing_after (profile_answer π) (profile_fields π) before
    → ListingPromises InRange profile_fields π before (Passes (says r)) (says r).value after
text_promises π before after r ea eb =
    listing_promises InRange profile_fields profile_labelled profile_apart π (profile_answer π) (passes_range π)
    (range_passes π) before after (says r) ea eb (Passes (says r)) (says r).value (λ p. p) (λ p. p) (λ p. refl)
