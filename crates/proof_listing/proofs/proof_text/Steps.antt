-- The steps of the functions that put a proof's text.
use mathlib.Core.Path.{◌≡◌, refl, ap}
use mathlib.Core.Bool.{Bool, true, false}
use mathlib.Core.List.{List, [], ◌∷◌, ◌++◌}
use Prim.Native.Nat.{ℕ, ◌+◌, ◌*◌, ◌<◌, ◌≤◌}
use native.Mathlib.Nat.{mul-le-mul_right}
use native.Mathlib.Omega.{arith}
use lib.IntN.{ℤ}
use lib.ListN.{length}
use Rattle.integers.specs.Words.{Bytes}
use Rattle.answers.specs.Answers.{says, Passes}
use Rattle.answers.specs.declared.answers.Verdict.{Verdict}
use Rattle.points.specs.Points.{bytes_at, exponents, point_of, same_point}
use Rattle.points.specs.declared.points.Point.{Point}
use Rattle.points.proofs.points.Laws.{exponents_of}
use Rattle.sheets.specs.Layout.{shape_of, v_at, ProofRoom}
use Rattle.sheets.specs.declared.layout.Shape.{Shape}
use Rattle.rows.specs.ProofSheet.{v_of, w_of, triple_of}
use Rattle.rows.specs.declared.proof_sheet.Triple.{Triple}
use Rattle.rows.proofs.proof_sheet.Laws.{v_bytes, w_bytes}
use Rattle.text.specs.Text.{ascii, counted, numbered, texts_to, Room, Written}
use Rattle.text.specs.Lines.{weights_text}
use Rattle.text.proofs.text.Laws.{room_first, room_then, written_then, texts_room}
use Rattle.listings.specs.Fields.{number, exponent_fields, fields_text, listing}
use Rattle.listings.specs.Listings.{listing_answer, listing_after, ListingPromises}
use Rattle.listings.proofs.Listings.{listing_promises}
use Rattle.listings.proofs.Putting.{Puts, puts_count, puts_number, field_room, after_field, field_then, field_last, first_room, rest_room, both_written}
use Rattle.proof_listing.specs.OwnChecks.{own_answer}
use Rattle.proof_listing.specs.ProofText.{longest, head_fields, pair_fields, lone_fields, row_fields, rows_text, proof_fields, FormedProof, lone_begins}
use Rattle.proof_listing.proofs.own_checks.Laws.{own_facts}
use Rattle.proof_listing.proofs.proof_text.Laws.{weights_put, proof_pieces, proof_labelled, proof_short, proof_apart}

-- ---- pair_text and lone_text: `at` is where the row's points begin, x is the triple that was read

module _ (s : List ℕ) (sh : Shape) (i at : ℕ) (e : at ≡ v_at sh i) where
  module _ (r : ProofRoom s sh) (h : i < sh.k) where
    pub v_inside : at + sh.n ≤ length s
    v_inside = omega (arith, r.long, mul-le-mul_right (2 * sh.n) h)

    pub w_inside : at + sh.n + sh.n ≤ length s
    w_inside = omega (arith, r.long, mul-le-mul_right (2 * sh.n) h)

  v_put : v_of s sh i ≡ bytes_at s at sh.n
  v_put = rw e (v_bytes s sh i)

  w_put : w_of s sh i ≡ bytes_at s (at + sh.n) sh.n
  w_put = rw e (w_bytes s sh i)

  module _ (l : List ℕ) (from : ℕ) where
    pub v_room : Room l from (fields_text (pair_fields s sh i))
        → Room l from (fields_text (exponent_fields (ascii " pair v") (bytes_at s at sh.n)))
    unfolding pair_fields
    v_room r = rw (← v_put) (first_room _ _ r)

    module _ (k : List ℕ) (mid : ℕ)
        (w : Written l from (fields_text (exponent_fields (ascii " pair v") (bytes_at s at sh.n))) k mid) where
      pub w_room : Room l from (fields_text (pair_fields s sh i))
          → Room k mid (fields_text (exponent_fields (ascii " w") (bytes_at s (at + sh.n) sh.n)))
      unfolding pair_fields
      w_room r = rw (← w_put) (first_room _ _ (rest_room _ _ (rw (← v_put) at w) r))

      module _ (m : List ℕ) (far : ℕ)
          (u : Written k mid (fields_text (exponent_fields (ascii " w") (bytes_at s (at + sh.n) sh.n))) m far)
          (x : Triple) (ex : x ≡ triple_of s sh i) where
        pub weights_room : Room l from (fields_text (pair_fields s sh i)) → Room m far (weights_text x)
        unfolding pair_fields
        weights_room r =
            rw ex
            (rw (weights_put (triple_of s sh i))
            at (rest_room _ _ (rw (← w_put) at u) (rest_room _ _ (rw (← v_put) at w) r)))

        pub pair_written : (o : List ℕ) (end : ℕ) → Written m far (weights_text x) o end
            → Written l from (fields_text (pair_fields s sh i)) o end
        unfolding pair_fields
        pair_written o end z =
            both_written _ _ (rw (← v_put) at w)
            (both_written _ _ (rw (← w_put) at u) (rw (weights_put (triple_of s sh i)) (rw ex at z)))

    pub lone_room : Room l from (fields_text (lone_fields s sh i))
        → Room l from (fields_text (exponent_fields lone_begins (bytes_at s at sh.n)))
    unfolding lone_fields
    lone_room r = rw (← v_put) (first_room _ _ r)

    -- p is what the machine reads back of the triple's first number
    module _ (k : List ℕ) (mid : ℕ)
        (w : Written l from (fields_text (exponent_fields lone_begins (bytes_at s at sh.n))) k mid) (x : Triple) (p : ℤ)
        (ex : x ≡ triple_of s sh i) (back : p ≡ x.p) where
      weight : Puts (numbered (ascii " p ") p) (number (ascii " p ") (triple_of s sh i).p)
      weight = puts_number _ _ x.p p back (ap (λ (x : Triple). x.p) ex)

      pub weight_room : Room l from (fields_text (lone_fields s sh i)) → Room k mid (numbered (ascii " p ") p)
      unfolding lone_fields
      weight_room r = field_room k mid _ _ weight [] (rest_room _ _ (rw (← v_put) at w) r)

      pub lone_written : (o : List ℕ) (end : ℕ) → Written k mid (numbered (ascii " p ") p) o end
          → Written l from (fields_text (lone_fields s sh i)) o end
      unfolding lone_fields
      lone_written o end u = both_written _ _ (rw (← v_put) at w) (field_last k mid _ _ weight o end u)

-- ---- is_lone and row_text: v and w are the points that were read

pub lone_is : (s : List ℕ) (sh : Shape) (i : ℕ) (v w : Point) (r : Bool) → v ≡ point_of (v_of s sh i)
    → w ≡ point_of (w_of s sh i) → r ≡ same_point (exponents v) (exponents w)
    → r ≡ same_point (v_of s sh i) (w_of s sh i)
lone_is s sh i v w r ev ew er = rw (ev, ew, exponents_of (v_of s sh i), exponents_of (w_of s sh i)) at er

module _ (s l k : List ℕ) (sh : Shape) (i from mid : ℕ) (w : Written l from (counted (ascii "\nrow ") i) k mid)
    (r : Bool) (er : r ≡ same_point (v_of s sh i) (w_of s sh i)) where
  module _ (t : r ≡ true) where
    pub lone_next : Room l from (fields_text (row_fields s sh i)) → Room k mid (fields_text (lone_fields s sh i))
    unfolding row_fields
    lone_next h = rw (← er, t) at (after_field l from _ _ (puts_count _ i i refl) k mid w _ h)

    pub lone_row : (o : List ℕ) (end : ℕ) → Written k mid (fields_text (lone_fields s sh i)) o end
        → Written l from (fields_text (row_fields s sh i)) o end
    unfolding row_fields
    lone_row o end u = field_then l from _ _ (puts_count _ i i refl) k mid w _ o end (rw (← er, t) u)

  module _ (t : r ≡ false) where
    pub pair_next : Room l from (fields_text (row_fields s sh i)) → Room k mid (fields_text (pair_fields s sh i))
    unfolding row_fields
    pair_next h = rw (← er, t) at (after_field l from _ _ (puts_count _ i i refl) k mid w _ h)

    pub pair_row : (o : List ℕ) (end : ℕ) → Written k mid (fields_text (pair_fields s sh i)) o end
        → Written l from (fields_text (row_fields s sh i)) o end
    unfolding row_fields
    pair_row o end u = field_then l from _ _ (puts_count _ i i refl) k mid w _ o end (rw (← er, t) u)

-- ---- whole_text: sh is the shape that was read

module _ (s : List ℕ) (h : Passes (own_answer s)) where
  pub header_there : 8 ≤ length s
  header_there = omega (arith, (own_facts s h).header.sized)

  module _ (sh : Shape) (es : sh ≡ shape_of s) where
    pub rows_there : ProofRoom s sh
    rows_there = rw es (own_facts s h).header.room

    pub some_there : 1 ≤ sh.n
    some_there = rw es (own_facts s h).header.some

  module _ (l : List ℕ) (b : Bytes s) (el : length l ≡ longest) where
    abbrev later : List ℕ
    later = rows_text s (shape_of s) ++ ascii "\n"

    whole : Room l 0 (fields_text (head_fields s) ++ later)
    whole = record {
      room = rw (← proof_pieces s) (omega (arith, el, proof_short s (record { bytes = b; passes = h })));
    }

    pub head_room : Room l 0 (fields_text (head_fields s))
    head_room = room_first _ later whole

    -- the lines of the first i rows are put
    module _ (sh : Shape) (i : ℕ) (es : sh ≡ shape_of s) (k o : List ℕ) (mid far : ℕ)
        (w : Written l 0 (fields_text (head_fields s)) k mid)
        (u : Written k mid (texts_to (λ j. fields_text (row_fields s sh j)) i) o far) where
      pub row_room : i < sh.k → Room o far (fields_text (row_fields s sh i))
      row_room g =
          texts_room (λ j. fields_text (row_fields s sh j)) i u sh.k
          (rw es (room_first _ (ascii "\n") (room_then _ later whole w))) g

      module _ (g : sh.k ≤ i) (f : i ≤ sh.k) where
        all : Written k mid (rows_text s (shape_of s)) o far
        all = let e : i ≡ sh.k = omega arith in rw (e, es) at u

        pub feed_room : Room o far (10 ∷ [])
        feed_room = room_then _ (ascii "\n") (room_then _ later whole w) all

        pub whole_written : (p : List ℕ) (end : ℕ) → Written o far (10 ∷ []) p end
            → Written l 0 (listing (proof_fields s)) p end
        whole_written p end v = rw (proof_pieces s) (written_then _ later w (written_then _ (ascii "\n") all v))

-- ---- proof_text: r is its verdict, and `after` the buffer then

pub text_promises : (s before after : List ℕ) (r : Verdict) → Bytes s
    → says r ≡ listing_answer (own_answer s) (proof_fields s) (length before)
    → after ≡ listing_after (own_answer s) (proof_fields s) before
    → ListingPromises FormedProof proof_fields s before (Passes (says r)) (says r).value after
text_promises s before after r b ea eb =
    listing_promises FormedProof proof_fields proof_labelled proof_apart s (own_answer s)
    (λ p. record { bytes = b; passes = p }) (λ f. f.passes) before after (says r) ea eb (Passes (says r))
    (says r).value (λ p. p) (λ p. p) (λ p. refl)
