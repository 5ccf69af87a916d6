-- Laws of a claim's text: its labels, how long it is, and that its fields tell the claim.
use mathlib.Core.Path.{◌≡◌, refl, sym, ◌∙◌, ap}
use mathlib.Core.List.{List, [], ◌++◌, append_assoc}
use Prim.Native.Nat.{ℕ, ◌+◌, ◌*◌, ◌<◌, ◌≤◌}
use native.Mathlib.Omega.{arith}
use lib.ListN.{length, get_or, length-append}
use Rattle.integers.specs.Words.{Bytes}
use Rattle.integers.proofs.Tests.{never}
use Rattle.bounds.specs.Profiles.{full_profile}
use Rattle.answers.specs.Answers.{says, Short}
use Rattle.answers.specs.declared.answers.Verdict.{Verdict}
use Rattle.points.specs.Lists.{table}
use Rattle.sheets.specs.Layout.{variables, term_count, mask_of, point_at, coefficient_at, claim_length}
use Rattle.sheets.specs.ClaimSheet.{floor_of, term_point, coefficient_of}
use Rattle.sheets.proofs.claim_sheet.Laws.{floor_word, coefficient_word, point_bytes, floor_fits, coefficient_fits, point_length}
use Rattle.claims.specs.ClaimChecks.{claim_answer, ClaimFacts}
use Rattle.claims.proofs.claim_checks.Laws.{unused_zero, claim_facts, claim_short as claim-answer-short}
use Rattle.text.specs.Text.{ascii}
use Rattle.text.proofs.text.Laws.{texts_short}
use Rattle.text.proofs.lines.Laws.{counted_short, word_short}
use Rattle.listings.specs.Fields.{Field, together, fields_text, listing, Labelled}
use Rattle.listings.proofs.Fields.{listing_is, is_label, split_number, split_count, fields_none, fields_more, fields_append, fields_table, all_together}
use Rattle.listings.proofs.Putting.{count_put}
use Rattle.listings.specs.Listings.{listing_answer}
use Rattle.listings.proofs.Listings.{listing_short}
use Rattle.listings.proofs.Lines.{Line, entry_apart, as_many}
use Rattle.listings.proofs.Same.{Same, same_byte, same_then, same_entries, same_exponents, same_word, same_whole}
use Rattle.listings.proofs.exponents.Laws.{exponents_apart, exponents_labelled, exponents_inline, exponents_short}
use Rattle.claim_listing.specs.ClaimText.{longest, head_fields, term_fields, terms_text, claim_fields, FormedClaim}

-- ---- what is put after what

pub claim_pieces : (c : List ℕ) → listing (claim_fields c)
    ≡ fields_text (head_fields c) ++ (terms_text c (variables c) (term_count c) ++ ascii "\n")
unfolding claim_fields
claim_pieces c =
    let f = term_fields c (variables c) (term_count c) in
    rw (
      listing_is (claim_fields c),
      fields_append (head_fields c) (together (table f (term_count c))),
      fields_table f (term_count c),
    )
    (append_assoc (fields_text (head_fields c)) _ (ascii "\n"))

-- ---- labels, and lines

module _ (c : List ℕ) (n t i : ℕ) where
  term_labelled : Labelled (term_fields c n t i)
  unfolding term_fields
  term_labelled = (
    is_label _ refl,
    (
      is_label _ refl,
      exponents_labelled (ascii " exponents") (term_point c n i) (is_label (ascii " exponents") refl).plain,
    ),
  )

  term_line : Line i (term_fields c n t i)
  unfolding term_fields
  term_line = (refl, refl, (refl, exponents_inline (ascii " exponents") (term_point c n i) refl))

  term_some : term_fields c n t i ≡ [] → ⊥
  unfolding term_fields
  term_some e = never (cc)

pub claim_labelled : (c : List ℕ) → Labelled (claim_fields c)
unfolding claim_fields head_fields
claim_labelled c = (
  is_label _ refl,
  (
    is_label _ refl,
    (
      is_label _ refl,
      all_together _ (term_fields c (variables c) (term_count c)) (term_count c)
          (λ i l. term_labelled c (variables c) (term_count c) i),
    ),
  ),
)

-- ---- how long it is

module _ (c : List ℕ) (n t : ℕ) (f : ClaimFacts c n t) (b : Bytes c) where
  term_short : (i : ℕ) → i < t → length (fields_text (term_fields c n t i)) ≤ 74
  unfolding term_fields
  term_short i l =
      simp (fields_more, count_put, length-append, point_bytes) (omega (
        arith,
        f.room.terms,
        f.room.few,
        counted_short (ascii "\nterm ") 1 i (omega (arith, f.room.terms)),
        (λ (k : ℕ). word_short (ascii " coefficient ") (coefficient_of c n t k) (coefficient_fits c n t k b)),
        exponents_short (ascii " exponents") c (point_at n i) n b f.some,
      ))

head_short : (c : List ℕ) → ClaimFacts c (variables c) (term_count c) → Bytes c
    → length (fields_text (head_fields c)) ≤ 44
unfolding head_fields
head_short c f b =
    simp (fields_more, fields_none, count_put, length-append) (omega (
      arith,
      counted_short (ascii "claim\nvariables ") 0 (variables c) (omega (arith, f.room.few)),
      counted_short (ascii "\nmask ") 2 (mask_of c) (omega (arith, b 2)),
      word_short (ascii "\nfloor ") (floor_of c) (floor_fits c b),
    ))

pub claim_short : (c : List ℕ) → FormedClaim c → length (listing (claim_fields c)) ≤ longest
claim_short c h =
    let f = claim_facts c full_profile h.passes in
    let b = h.bytes in
    rw (claim_pieces c)
    (simp length-append (omega (
      arith,
      head_short c f b,
      f.room.terms,
      texts_short (λ i. fields_text (term_fields c (variables c) (term_count c) i)) 74 (term_count c)
          (term_short c (variables c) (term_count c) f b),
    )))

-- so its length is an answer of 16 bits
pub text_short : (c : List ℕ) (room : ℕ) (v : Verdict)
    → says v ≡ listing_answer (claim_answer c full_profile) (claim_fields c) room → Bytes c → Short 65536 (says v)
text_short c room v e b =
    rw e
    (listing_short (claim_answer c full_profile) (claim_fields c) room (omega arith)
    (claim-answer-short c full_profile (omega arith) b)
    (λ p. omega (arith, claim_short c (record { bytes = b; passes = p }))))

-- ---- the fields tell the claim

module _ (c d : List ℕ) (n t : ℕ) (i : ℕ) (e : term_fields c n t i ≡ term_fields d n t i) where
  term_same : (coefficient_of c n t i ≡ coefficient_of d n t i) × (term_point c n i ≡ term_point d n i)
  unfolding term_fields
  term_same =
      let p = split_number (split_count e).1 in
      let long : length (term_point c n i) ≡ length (term_point d n i) = point_length c n i ∙ sym (point_length d n i) in
      (p.0, (exponents_apart (ascii " exponents") _ _ [] [] long (ap (λ (fields : List Field). fields ++ []) p.1)).0)

-- n, t and the rest are the same in both
module _ (c d : List ℕ) (n t : ℕ) (bc : Bytes c) (bd : Bytes d) (nc : variables c ≡ n) (nd : variables d ≡ n)
    (tc : term_count c ≡ t) (td : term_count d ≡ t) (mask : mask_of c ≡ mask_of d) (zero : get_or c 3 0 ≡ get_or d 3 0)
    (floor : floor_of c ≡ floor_of d) (terms : (i : ℕ) → i < t → term_fields c n t i ≡ term_fields d n t i) where
  points_same : Same c d 8 (t * n)
  points_same =
      same_entries c d 8 n t
      (λ i l. same_exponents c d (point_at n i) n
      (sym (point_bytes c n i) ∙ (term_same c d n t i (terms i l)).1 ∙ point_bytes d n i))

  coefficients_same : Same c d (8 + t * n) (t * 4)
  coefficients_same =
      same_entries c d (8 + t * n) 4 t
      (λ i l. same_word c d bc bd (coefficient_at n t i)
      (sym (coefficient_word c n t i) ∙ (term_same c d n t i (terms i l)).0 ∙ coefficient_word d n t i))

  header_same : Same c d 0 8
  header_same =
      same_then c d 0 4 4
      (same_then c d 0 3 1
      (same_then c d 0 2 1 (same_then c d 0 1 1 (same_byte c d 0 (nc ∙ sym nd)) (same_byte c d 1 (tc ∙ sym td)))
      (same_byte c d 2 mask)) (same_byte c d 3 zero))
      (same_word c d bc bd 4 (sym (floor_word c) ∙ floor ∙ floor_word d))

  claim_same : length c ≡ claim_length n t → length d ≡ claim_length n t → c ≡ d
  claim_same lc ld =
      let e : length c ≡ 8 + t * n + t * 4 = omega (arith, lc) in
      let z : 0 + (8 + t * n) ≡ 8 + t * n = omega arith in
      same_whole c d (lc ∙ sym ld)
      (rw e
      (same_then c d 0 (8 + t * n) (t * 4) (same_then c d 0 8 (t * n) header_same points_same)
      (rw z coefficients_same)))

module _ (c d : List ℕ) (fc : FormedClaim c) (fd : FormedClaim d) (e : claim_fields c ≡ claim_fields d) where
  abbrev n : ℕ
  n = variables c

  abbrev t : ℕ
  t = term_count c

  record Heads : Type 0 where
    variables_same : n ≡ variables d
    mask_same : mask_of c ≡ mask_of d
    floor_same : floor_of c ≡ floor_of d
    lines_same : together (table (term_fields c n t) t)
        ≡ together (table (term_fields d (variables d) (term_count d)) (term_count d))

  heads : Heads
  unfolding claim_fields head_fields
  heads =
      let p = split_count e in
      let q = split_count p.1 in
      let r = split_number q.1 in
      record { variables_same = p.0; mask_same = q.0; floor_same = r.0; lines_same = r.1 }

  many : t ≡ term_count d
  many =
      as_many (term_fields c n t) (term_fields d (variables d) (term_count d)) t (term_count d)
      (λ i l. term_line c n t i) (λ i l. term_line d (variables d) (term_count d) i) heads.lines_same
      (λ i. term_some c n t i) (λ i. term_some d (variables d) (term_count d) i)

  lines : together (table (term_fields c n t) t) ≡ together (table (term_fields d n t) t)
  lines = rw (← many, ← heads.variables_same) at heads.lines_same

  pub claim_apart : c ≡ d
  claim_apart =
      let f = claim_facts c full_profile fc.passes in
      let g = claim_facts d full_profile fd.passes in
      claim_same c d n t fc.bytes fd.bytes refl (sym heads.variables_same) refl (sym many)
      heads.mask_same (unused_zero c full_profile fc.passes ∙ sym (unused_zero d full_profile fd.passes))
      heads.floor_same
      (λ i l. entry_apart (term_fields c n t) (term_fields d n t) t t (λ i l. term_line c n t i)
      (λ i l. term_line d n t i) lines i l l)
      f.sized (rw (← many, ← heads.variables_same) at g.sized)
