-- The steps of the functions that put a claim's text.
use mathlib.Core.Path.{◌≡◌, refl}
use mathlib.Core.List.{List, [], ◌∷◌, ◌++◌}
use Prim.Native.Nat.{ℕ, ◌+◌, ◌<◌, ◌≤◌}
use native.Mathlib.Nat.{mul-le-mul_right}
use native.Mathlib.Omega.{arith}
use lib.IntN.{ℤ}
use lib.ListN.{length}
use Rattle.integers.specs.Words.{Bytes}
use Rattle.bounds.specs.Profiles.{full_profile}
use Rattle.answers.specs.Answers.{says, Passes}
use Rattle.answers.specs.declared.answers.Verdict.{Verdict}
use Rattle.points.specs.Points.{bytes_at}
use Rattle.sheets.specs.Layout.{variables, term_count, place, ClaimRoom}
use Rattle.sheets.specs.ClaimSheet.{coefficient_of}
use Rattle.sheets.proofs.claim_sheet.Laws.{point_bytes}
use Rattle.claims.specs.ClaimChecks.{claim_answer}
use Rattle.claims.proofs.claim_checks.Laws.{claim_facts}
use Rattle.text.specs.Text.{ascii, counted, numbered, texts_to, Room, Written}
use Rattle.text.proofs.text.Laws.{room_first, room_then, written_then, texts_room}
use Rattle.listings.specs.Fields.{exponent_fields, fields_text, listing}
use Rattle.listings.specs.Listings.{listing_answer, listing_after, ListingPromises}
use Rattle.listings.proofs.Listings.{listing_promises}
use Rattle.listings.proofs.Putting.{puts_count, puts_number, after_field, field_then}
use Rattle.claim_listing.specs.ClaimText.{longest, head_fields, term_fields, terms_text, claim_fields, FormedClaim}
use Rattle.claim_listing.proofs.claim_text.Laws.{claim_pieces, claim_labelled, claim_short, claim_apart}

-- ---- term_text: `at` is where the point begins, x is the coefficient that was read, and z what the machine reads
-- back of it

module _ (c : List ℕ) (n t i at : ℕ) (ea : at ≡ place 8 i n) where
  pub point_inside : ClaimRoom c n t → i < t → at + n ≤ length c
  point_inside r l = omega (arith, r.long, mul-le-mul_right n l)

  module _ (l k m : List ℕ) (from first mid : ℕ) (z x : ℤ) (w : Written l from (counted (ascii "\nterm ") i) k first)
      (u : Written k first (numbered (ascii " coefficient ") z) m mid) (back : z ≡ x) (ex : x ≡ coefficient_of c n t i) where
    pub point_room : Room l from (fields_text (term_fields c n t i))
        → Room m mid (fields_text (exponent_fields (ascii " exponents") (bytes_at c at n)))
    unfolding term_fields
    point_room r =
        rw (ea, ← point_bytes c n i)
        (after_field k first _ _ (puts_number _ _ x z back ex) m mid u _
        (after_field l from _ _ (puts_count _ i i refl) k first w _ r))

    pub term_written : (o : List ℕ) (end : ℕ)
        → Written m mid (fields_text (exponent_fields (ascii " exponents") (bytes_at c at n))) o end
        → Written l from (fields_text (term_fields c n t i)) o end
    unfolding term_fields
    term_written o end v =
        field_then l from _ _ (puts_count _ i i refl) k first w _ o end
        (field_then k first _ _ (puts_number _ _ x z back ex) m mid u _ o end (rw (point_bytes c n i, ← ea) v))

-- ---- whole_text: n and t are what was read

module _ (c : List ℕ) (h : Passes (claim_answer c full_profile)) where
  pub header_there : 8 ≤ length c
  header_there = omega (arith, (claim_facts c full_profile h).sized)

  module _ (n t : ℕ) (en : n ≡ variables c) (et : t ≡ term_count c) where
    pub terms_there : ClaimRoom c n t
    terms_there = rw (en, et) (claim_facts c full_profile h).room

    pub some_there : 1 ≤ n
    some_there = rw en (claim_facts c full_profile h).some

  module _ (l : List ℕ) (b : Bytes c) (el : length l ≡ longest) where
    abbrev later : List ℕ
    later = terms_text c (variables c) (term_count c) ++ ascii "\n"

    whole : Room l 0 (fields_text (head_fields c) ++ later)
    whole = record {
      room = rw (← claim_pieces c) (omega (arith, el, claim_short c (record { bytes = b; passes = h })));
    }

    pub head_room : Room l 0 (fields_text (head_fields c))
    head_room = room_first _ later whole

    -- the lines of the first i terms are put
    module _ (n t i : ℕ) (en : n ≡ variables c) (et : t ≡ term_count c) (k o : List ℕ) (mid far : ℕ)
        (w : Written l 0 (fields_text (head_fields c)) k mid)
        (u : Written k mid (texts_to (λ j. fields_text (term_fields c n t j)) i) o far) where
      pub term_room : i < t → Room o far (fields_text (term_fields c n t i))
      term_room g =
          texts_room (λ j. fields_text (term_fields c n t j)) i u t
          (rw (en, et) (room_first _ (ascii "\n") (room_then _ later whole w))) g

      module _ (g : t ≤ i) (f : i ≤ t) where
        all : Written k mid (terms_text c (variables c) (term_count c)) o far
        all = let e : i ≡ t = omega arith in rw (e, en, et) at u

        pub feed_room : Room o far (10 ∷ [])
        feed_room = room_then _ (ascii "\n") (room_then _ later whole w) all

        pub whole_written : (p : List ℕ) (end : ℕ) → Written o far (10 ∷ []) p end
            → Written l 0 (listing (claim_fields c)) p end
        whole_written p end v = rw (claim_pieces c) (written_then _ later w (written_then _ (ascii "\n") all v))

-- ---- claim_text: r is its verdict, and `after` the buffer then

pub text_promises : (c before after : List ℕ) (r : Verdict) → Bytes c
    → says r ≡ listing_answer (claim_answer c full_profile) (claim_fields c) (length before)
    → after ≡ listing_after (claim_answer c full_profile) (claim_fields c) before
    → ListingPromises FormedClaim claim_fields c before (Passes (says r)) (says r).value after
text_promises c before after r b ea eb =
    listing_promises FormedClaim claim_fields claim_labelled claim_apart c (claim_answer c full_profile)
    (λ p. record { bytes = b; passes = p }) (λ f. f.passes) before after (says r) ea eb (Passes (says r))
    (says r).value (λ p. p) (λ p. p) (λ p. refl)
