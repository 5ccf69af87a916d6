-- The steps of the functions that put the text of a limits sheet.
use mathlib.Core.Path.{◌≡◌, refl}
use mathlib.Core.List.{List, [], ◌∷◌, ◌++◌}
use Prim.Native.Nat.{ℕ, ◌+◌, ◌<◌, ◌≤◌}
use native.Mathlib.Omega.{arith}
use lib.ListN.{length}
use Rattle.integers.specs.Words.{Bytes}
use Rattle.answers.specs.Answers.{says, Passes}
use Rattle.answers.specs.declared.answers.Verdict.{Verdict}
use Rattle.squares.specs.declared.limits.Limit.{Limit}
use Rattle.sheets.specs.Layout.{variables, LimitsRoom}
use Rattle.limits.specs.LimitsSheet.{limit_of}
use Rattle.text.specs.Text.{ascii, counted, Room, Written}
use Rattle.text.proofs.text.Laws.{room_first, room_then, written_then, texts_room, texts_next}
use Rattle.listings.specs.Fields.{fields_text, listing}
use Rattle.listings.specs.Listings.{listing_answer, listing_after, ListingPromises}
use Rattle.listings.proofs.Fields.{fields_none}
use Rattle.listings.proofs.Listings.{listing_promises}
use Rattle.limits_listing.specs.OwnChecks.{own_answer}
use Rattle.limits_listing.specs.LimitsText.{longest, line_fields, variable_fields, limit_fields, limits_fields, lines_text, FormedLimits}
use Rattle.limits_listing.proofs.own_checks.Laws.{own_facts}
use Rattle.limits_listing.proofs.limits_text.Laws.{limits_pieces, unlimited_none, limited_some, limits_labelled, limits_short, limits_apart}

-- ---- variable_text

module _ (i : ℕ) (a : Limit) (l : List ℕ) (from : ℕ) where
  pub unlimited_written : a.power ≡ 0 → Room l from (fields_text (variable_fields i a))
      → Written l from (fields_text (variable_fields i a)) l from
  unlimited_written z r =
      rw (unlimited_none i a z, fields_none)
      (record { bytes = refl; ends = omega arith; kept = refl; inside = omega (arith, r.room) })

  module _ (d : a.power ≡ 0 → ⊥) where
    pub limited_room : Room l from (fields_text (variable_fields i a)) → Room l from (fields_text (line_fields i a))
    limited_room r = rw (limited_some i a d) at r

    pub limited_written : (o : List ℕ) (end : ℕ) → Written l from (fields_text (line_fields i a)) o end
        → Written l from (fields_text (variable_fields i a)) o end
    limited_written o end w = rw (limited_some i a d) w

-- ---- whole_text: n is what was read

module _ (s : List ℕ) (h : Passes (own_answer s)) (n : ℕ) (en : n ≡ variables s) where
  pub lines_there : LimitsRoom s n
  lines_there = rw en (own_facts s h).room

  module _ (l : List ℕ) (b : Bytes s) (el : length l ≡ longest) where
    abbrev head : List ℕ
    head = counted (ascii "limits\nvariables ") n

    abbrev later : List ℕ
    later = lines_text s n n ++ ascii "\n"

    pieces : listing (limits_fields s) ≡ head ++ later
    pieces = rw en (limits_pieces s)

    whole : Room l 0 (head ++ later)
    whole = record {
      room = rw (← pieces) (omega (arith, el, limits_short s (record { bytes = b; passes = h })));
    }

    pub head_room : Room l 0 head
    head_room = room_first _ later whole

    -- the lines of the first i variables are put, and a is the limit that was read
    module _ (i : ℕ) (k o : List ℕ) (mid far : ℕ) (w : Written l 0 head k mid)
        (u : Written k mid (lines_text s n i) o far) where
      pub line_room : (a : Limit) → a ≡ limit_of s n i → i < n → Room o far (fields_text (variable_fields i a))
      unfolding limit_fields
      line_room a ea g =
          rw ea
          (texts_room (λ j. fields_text (limit_fields s n j)) i u n
          (room_first _ (ascii "\n") (room_then _ later whole w)) g)

      module _ (g : n ≤ i) (f : i ≤ n) where
        all : Written k mid (lines_text s n n) o far
        all = let e : i ≡ n = omega arith in rw e at u

        pub feed_room : Room o far (10 ∷ [])
        feed_room = room_then _ (ascii "\n") (room_then _ later whole w) all

        pub whole_written : (p : List ℕ) (end : ℕ) → Written o far (10 ∷ []) p end
            → Written l 0 (listing (limits_fields s)) p end
        whole_written p end v = rw pieces (written_then _ later w (written_then _ (ascii "\n") all v))

pub line_next : (s k o p : List ℕ) (n i mid far end : ℕ) (a : Limit) → Written k mid (lines_text s n i) o far
    → a ≡ limit_of s n i → Written o far (fields_text (variable_fields i a)) p end
    → Written k mid (lines_text s n (i + 1)) p end
unfolding limit_fields
line_next s k o p n i mid far end a w ea u = texts_next (λ j. fields_text (limit_fields s n j)) i w (rw ea at u)

-- ---- limits_text: r is the verdict, and `after` the buffer then

pub text_promises : (s before after : List ℕ) (r : Verdict) → Bytes s
    → says r ≡ listing_answer (own_answer s) (limits_fields s) (length before)
    → after ≡ listing_after (own_answer s) (limits_fields s) before
    → ListingPromises FormedLimits limits_fields s before (Passes (says r)) (says r).value after
text_promises s before after r b ea eb =
    listing_promises FormedLimits limits_fields limits_labelled limits_apart s (own_answer s)
    (λ p. record { bytes = b; passes = p }) (λ f. f.passes) before after (says r) ea eb (Passes (says r))
    (says r).value (λ p. p) (λ p. p) (λ p. refl)
