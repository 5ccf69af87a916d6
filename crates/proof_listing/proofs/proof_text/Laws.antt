-- Laws of a proof's text: its labels, how long it is, and that its fields tell the proof.
use mathlib.Core.Path.{◌≡◌, refl, sym, ◌∙◌, ap, subst}
use mathlib.Core.Bool.{Bool, true, false, cond}
use mathlib.Core.List.{List, [], ◌++◌, append-nil, append_assoc}
use Prim.Native.Nat.{ℕ, ◌+◌, ◌*◌, ◌<◌, ◌≤◌}
use native.Mathlib.Omega.{arith}
use lib.IntN.{pos}
use lib.ListN.{length, get_or, length-append}
use Rattle.integers.specs.Words.{Bytes}
use Rattle.integers.proofs.Tests.{never}
use Rattle.answers.specs.Answers.{says, Short}
use Rattle.answers.specs.declared.answers.Verdict.{Verdict}
use Rattle.points.specs.Lists.{table, All}
use Rattle.points.specs.Points.{same_point}
use Rattle.points.proofs.Lists.{all_append}
use Rattle.points.proofs.points.Laws.{bytes_length, same_eq}
use Rattle.sheets.specs.Layout.{variables, row_count, shape_of, v_at, w_at, triple_at, proof_length}
use Rattle.sheets.specs.declared.layout.Shape.{Shape}
use Rattle.rows.specs.ProofSheet.{scale_of, v_of, w_of, triple_of}
use Rattle.rows.specs.declared.proof_sheet.Triple.{Triple}
use Rattle.rows.proofs.proof_sheet.Laws.{scale_word, v_bytes, w_bytes, p_there, q_there, r_there, triple_narrow}
use Rattle.checks.specs.ProofChecks.{HeaderFacts, ProofFacts}
use Rattle.text.specs.Text.{ascii}
use Rattle.text.specs.Lines.{weights_text}
use Rattle.text.proofs.text.Laws.{texts_short}
use Rattle.text.proofs.lines.Laws.{weights_are, counted_short, word_short}
use Rattle.listings.specs.Fields.{Field, exponent_fields, together, fields_text, listing, Labelled}
use Rattle.listings.proofs.Fields.{listing_is, is_label, split_number, split_count, fields_none, fields_more, fields_append, fields_table, all_together}
use Rattle.listings.specs.Listings.{listing_answer}
use Rattle.listings.proofs.Listings.{listing_short}
use Rattle.listings.proofs.Lines.{Line, entry_apart, as_many}
use Rattle.listings.proofs.Putting.{count_put}
use Rattle.listings.proofs.Same.{Same, same_byte, same_then, same_entries, same_exponents, same_short, same_count, same_word, same_whole}
use Rattle.listings.proofs.exponents.Laws.{first_label, exponents_first, exponents_apart, exponents_labelled, exponents_inline, exponents_short}
use Rattle.proof_listing.specs.OwnChecks.{own_answer}
use Rattle.proof_listing.specs.ProofText.{longest, head_fields, weight_fields, pair_fields, lone_fields, row_fields, rows_text, proof_fields, FormedProof, lone_begins}
use Rattle.proof_listing.proofs.own_checks.Laws.{own_facts, own_unused, own_short}

-- ---- what is put after what

pub weights_put : (x : Triple) → fields_text (weight_fields x) ≡ weights_text x
unfolding weight_fields
weights_put x = simp (fields_more, fields_none, append-nil) (sym (weights_are x))

pub proof_pieces : (s : List ℕ) → listing (proof_fields s)
    ≡ fields_text (head_fields s) ++ (rows_text s (shape_of s) ++ ascii "\n")
unfolding proof_fields
proof_pieces s =
    let f = row_fields s (shape_of s) in
    rw (
      listing_is (proof_fields s),
      fields_append (head_fields s) (together (table f (row_count s))),
      fields_table f (row_count s),
    )
    (append_assoc (fields_text (head_fields s)) _ (ascii "\n"))

-- ---- labels, and lines

-- a lone row and a pair
abbrev kind_fields : List ℕ → Shape → ℕ → List Field
kind_fields s sh i = cond (same_point (v_of s sh i) (w_of s sh i)) (lone_fields s sh i) (pair_fields s sh i)

-- whatever holds of both
module _ (P : List Field → Type 0) (s : List ℕ) (sh : Shape) (i : ℕ) (lone : P (lone_fields s sh i))
    (pair : P (pair_fields s sh i)) where
  either : P (kind_fields s sh i)
  either = go (same_point (v_of s sh i) (w_of s sh i))
    where
      go : (b : Bool) → P (cond b (lone_fields s sh i) (pair_fields s sh i))
      go true = lone
      go false = pair

module _ (s : List ℕ) (sh : Shape) (i : ℕ) where
  -- what holds of exponents behind a label and of weights holds of a row
  kind_all : (P : Field → Type 0) → All P (exponent_fields lone_begins (v_of s sh i))
      → All P (exponent_fields (ascii " pair v") (v_of s sh i)) → All P (exponent_fields (ascii " w") (w_of s sh i))
      → All P (weight_fields (triple_of s sh i)) → All P (kind_fields s sh i)
  unfolding lone_fields pair_fields weight_fields
  kind_all P l v w x =
      either (All P) s sh i (all_append P (exponent_fields lone_begins (v_of s sh i)) _ l (x.0, tt))
      (all_append P (exponent_fields (ascii " pair v") (v_of s sh i)) _ v
      (all_append P (exponent_fields (ascii " w") (w_of s sh i)) _ w x))

  row_labelled : Labelled (row_fields s sh i)
  unfolding row_fields weight_fields
  row_labelled = (
    is_label _ refl,
    kind_all _ (exponents_labelled _ (v_of s sh i) (is_label lone_begins refl).plain)
        (exponents_labelled _ (v_of s sh i) (is_label (ascii " pair v") refl).plain)
        (exponents_labelled _ (w_of s sh i) (is_label (ascii " w") refl).plain)
        (is_label _ refl, (is_label _ refl, (is_label _ refl, tt))),
  )

  row_line : Line i (row_fields s sh i)
  unfolding row_fields weight_fields
  row_line = (
    refl,
    refl,
    kind_all _ (exponents_inline _ (v_of s sh i) refl) (exponents_inline _ (v_of s sh i) refl)
        (exponents_inline _ (w_of s sh i) refl) (refl, (refl, (refl, tt))),
  )

  row_some : row_fields s sh i ≡ [] → ⊥
  unfolding row_fields
  row_some e = never (cc)

pub proof_labelled : (s : List ℕ) → Labelled (proof_fields s)
unfolding proof_fields head_fields
proof_labelled s = (
  is_label _ refl,
  (
    is_label _ refl,
    all_together _ (row_fields s (shape_of s)) (row_count s) (λ i l. row_labelled s (shape_of s) i),
  ),
)

-- ---- how long it is

module _ (s : List ℕ) (sh : Shape) (f : HeaderFacts s sh) (b : Bytes s) (i : ℕ) where
  kind_short : length (fields_text (kind_fields s sh i)) ≤ 115
  unfolding lone_fields pair_fields weight_fields
  kind_short =
      let x = triple_narrow s sh i b in
      let u = exponents_short lone_begins s (v_at sh i) sh.n b f.some in
      let v = exponents_short (ascii " pair v") s (v_at sh i) sh.n b f.some in
      let w = exponents_short (ascii " w") s (w_at sh i) sh.n b f.some in
      let p = word_short (ascii " p ") (triple_of s sh i).p x.p_fits in
      let q = word_short (ascii " q ") (triple_of s sh i).q x.q_fits in
      let r = word_short (ascii " r ") (triple_of s sh i).r x.r_fits in
      either (λ fields. length (fields_text fields) ≤ 115) s sh i
      (simp (fields_append, fields_more, fields_none, length-append, v_bytes, w_bytes)
      (omega (arith, f.room.few, u, p)))
      (simp (fields_append, fields_more, fields_none, length-append, v_bytes, w_bytes)
      (omega (arith, f.room.few, v, w, p, q, r)))

  row_short : i < sh.k → length (fields_text (row_fields s sh i)) ≤ 123
  unfolding row_fields
  row_short l =
      simp (fields_more, count_put, length-append)
      (omega (
        arith,
        kind_short,
        counted_short (ascii "\nrow ") 2 i (omega (arith, f.room.rows)),
      ))

head_short : (s : List ℕ) → HeaderFacts s (shape_of s) → length (fields_text (head_fields s)) ≤ 31
unfolding head_fields
head_short s f =
    simp (fields_more, fields_none, count_put, length-append)
    (omega (
      arith,
      counted_short (ascii "proof\nvariables ") 0 (variables s) (omega (arith, f.room.few)),
      counted_short (ascii "\nscale ") 6 (scale_of s) (omega (arith, f.scale_within)),
    ))

pub proof_short : (s : List ℕ) → FormedProof s → length (listing (proof_fields s)) ≤ longest
proof_short s h =
    let f = (own_facts s h.passes).header in
    rw (proof_pieces s)
    (simp length-append
    (omega (
      arith,
      head_short s f,
      f.room.rows,
      texts_short (λ i. fields_text (row_fields s (shape_of s) i)) 123 (row_count s)
          (row_short s (shape_of s) f h.bytes),
    )))

-- so its length is an answer of 16 bits
pub text_short : (s : List ℕ) (room : ℕ) (v : Verdict)
    → says v ≡ listing_answer (own_answer s) (proof_fields s) room → Bytes s → Short 65536 (says v)
text_short s room v e b =
    rw e
    (listing_short (own_answer s) (proof_fields s) room (omega arith) (own_short s (omega arith) b)
    (λ p. omega (arith, proof_short s (record { bytes = b; passes = p }))))

-- ---- the fields tell the proof

-- the second character of the first label: l of a lone row, p of a pair
abbrev letter : List Field → ℕ
letter fields = get_or (first_label fields) 1 0

-- row i of two proofs of one shape
record RowSame (s z : List ℕ) (sh : Shape) (i : ℕ) : Type 0 where
  v_same : v_of s sh i ≡ v_of z sh i
  w_same : w_of s sh i ≡ w_of z sh i
  p_same : (triple_of s sh i).p ≡ (triple_of z sh i).p
  q_same : (triple_of s sh i).q ≡ (triple_of z sh i).q
  r_same : (triple_of s sh i).r ≡ (triple_of z sh i).r

module _ (s z : List ℕ) (sh : Shape) (i : ℕ) (some : 1 ≤ sh.n) where
  abbrev lone? : List ℕ → Bool
  lone? l = same_point (v_of l sh i) (w_of l sh i)

  abbrev Unused : List ℕ → Type 0
  Unused l = lone? l ≡ true → ((triple_of l sh i).q ≡ pos 0) × ((triple_of l sh i).r ≡ pos 0)

  v_counts : (l : List ℕ) → length (v_of l sh i) ≡ sh.n
  v_counts l = rw (v_bytes l sh i) (bytes_length l (v_at sh i) sh.n)

  v_long : length (v_of s sh i) ≡ length (v_of z sh i)
  v_long = v_counts s ∙ sym (v_counts z)

  w_long : length (w_of s sh i) ≡ length (w_of z sh i)
  w_long =
      rw (w_bytes s sh i, w_bytes z sh i)
      (bytes_length s (w_at sh i) sh.n ∙ sym (bytes_length z (w_at sh i) sh.n))

  lone_same : lone? s ≡ true → lone? z ≡ true → Unused s → Unused z → lone_fields s sh i ≡ lone_fields z sh i
      → RowSame s z sh i
  unfolding lone_fields
  lone_same t u us uz e =
      let both = exponents_apart lone_begins (v_of s sh i) (v_of z sh i) _ _ v_long e in
      record {
        v_same = both.0;
        w_same = sym (same_eq _ _ t) ∙ both.0 ∙ same_eq _ _ u;
        p_same = (split_number both.1).0;
        q_same = (us t).0 ∙ sym (uz u).0;
        r_same = (us t).1 ∙ sym (uz u).1;
      }

  pair_same : pair_fields s sh i ≡ pair_fields z sh i → RowSame s z sh i
  unfolding pair_fields weight_fields
  pair_same e =
      let v = exponents_apart (ascii " pair v") (v_of s sh i) (v_of z sh i) _ _ v_long e in
      let w = exponents_apart (ascii " w") (w_of s sh i) (w_of z sh i) _ _ w_long v.1 in
      let p = split_number w.1 in
      let q = split_number p.1 in
      let r = split_number q.1 in
      record { v_same = v.0; w_same = w.0; p_same = p.0; q_same = q.0; r_same = r.0 }

  lone_letter : (l : List ℕ) → letter (lone_fields l sh i) ≡ 108
  unfolding lone_fields
  lone_letter l =
      ap (λ (label : List ℕ). get_or label 1 0)
      (exponents_first lone_begins (v_of l sh i) _ (rw (v_counts l) some))

  pair_letter : (l : List ℕ) → letter (pair_fields l sh i) ≡ 112
  unfolding pair_fields
  pair_letter l =
      ap (λ (label : List ℕ). get_or label 1 0)
      (exponents_first (ascii " pair v") (v_of l sh i) _ (rw (v_counts l) some))

  row_same : Unused s → Unused z → row_fields s sh i ≡ row_fields z sh i → RowSame s z sh i
  unfolding row_fields
  row_same us uz e = go (lone? s) (lone? z) refl refl (split_count e).1
    where
      go : (a b : Bool) → lone? s ≡ a → lone? z ≡ b
          → cond a (lone_fields s sh i) (pair_fields s sh i) ≡ cond b (lone_fields z sh i) (pair_fields z sh i)
          → RowSame s z sh i
      go true true t u e = lone_same t u us uz e
      go false false t u e = pair_same e
      go true false t u e = absurd (omega (arith, sym (lone_letter s) ∙ ap letter e ∙ pair_letter z))
      go false true t u e = absurd (omega (arith, sym (lone_letter z) ∙ ap letter (sym e) ∙ pair_letter s))

-- the bytes of row i
module _ (s z : List ℕ) (bs : Bytes s) (bz : Bytes z) (sh : Shape) (i : ℕ) (r : RowSame s z sh i) where
  points_same : Same s z (v_at sh i) (2 * sh.n)
  points_same =
      let e : sh.n + sh.n ≡ 2 * sh.n = omega arith in
      subst (λ (m : ℕ). Same s z (v_at sh i) m) e
      (same_then s z (v_at sh i) sh.n sh.n
      (same_exponents s z (v_at sh i) sh.n (sym (v_bytes s sh i) ∙ r.v_same ∙ v_bytes z sh i))
      (same_exponents s z (w_at sh i) sh.n (sym (w_bytes s sh i) ∙ r.w_same ∙ w_bytes z sh i)))

  triple_same : Same s z (triple_at sh i) 12
  triple_same =
      let at = triple_at sh i in
      let p = p_there s sh i at refl ∙ r.p_same ∙ sym (p_there z sh i at refl) in
      let q = q_there s sh i at refl ∙ r.q_same ∙ sym (q_there z sh i at refl) in
      let t = r_there s sh i at refl ∙ r.r_same ∙ sym (r_there z sh i at refl) in
      same_then s z at 8 4
      (same_then s z at 4 4 (same_word s z bs bz at p) (same_word s z bs bz (at + 4) q))
      (same_word s z bs bz (at + 8) t)

-- n, k and S are the same in both, and so is every row
module _ (s z : List ℕ) (bs : Bytes s) (bz : Bytes z) (sh : Shape) (es : shape_of s ≡ sh) (ez : shape_of z ≡ sh)
    (unused : get_or s 1 0 ≡ get_or z 1 0) (scale : scale_of s ≡ scale_of z)
    (rows : (i : ℕ) → i < sh.k → RowSame s z sh i) where
  header_same : Same s z 0 8
  header_same =
      let n : variables s ≡ variables z = ap (λ (sh : Shape). sh.n) (es ∙ sym ez) in
      let k : row_count s ≡ row_count z = ap (λ (sh : Shape). sh.k) (es ∙ sym ez) in
      same_then s z 0 4 4
      (same_then s z 0 2 2 (same_then s z 0 1 1 (same_byte s z 0 n) (same_byte s z 1 unused))
      (same_short s z bs bz 2 k)) (same_count s z bs bz 4 (sym (scale_word s) ∙ scale ∙ scale_word z))

  proof_same : length s ≡ proof_length sh → length z ≡ proof_length sh → s ≡ z
  proof_same ls lz =
      let k = sh.k in
      let m = k * (2 * sh.n) in
      let e : length s ≡ 8 + m + k * 12 = omega (arith, ls) in
      let o : 0 + (8 + m) ≡ 8 + m = omega arith in
      same_whole s z (ls ∙ sym lz)
      (rw e
      (same_then s z 0 (8 + m) (k * 12)
      (same_then s z 0 8 m header_same
      (same_entries s z 8 (2 * sh.n) k (λ i l. points_same s z bs bz sh i (rows i l))))
      (rw o (same_entries s z (8 + m) 12 k (λ i l. triple_same s z bs bz sh i (rows i l))))))

module _ (s z : List ℕ) (fs : FormedProof s) (fz : FormedProof z) (e : proof_fields s ≡ proof_fields z) where
  abbrev sh : Shape
  sh = shape_of s

  record Heads : Type 0 where
    variables_same : variables s ≡ variables z
    scale_same : scale_of s ≡ scale_of z
    lines_same : together (table (row_fields s sh) sh.k) ≡ together (table (row_fields z (shape_of z)) (row_count z))

  heads : Heads
  unfolding proof_fields head_fields
  heads =
      let p = split_count e in
      let q = split_count p.1 in
      record { variables_same = p.0; scale_same = q.0; lines_same = q.1 }

  many : sh.k ≡ row_count z
  many =
      as_many (row_fields s sh) (row_fields z (shape_of z)) sh.k (row_count z) (λ i l. row_line s sh i)
      (λ i l. row_line z (shape_of z) i) heads.lines_same (λ i. row_some s sh i) (λ i. row_some z (shape_of z) i)

  shapes : shape_of z ≡ sh
  shapes = rw (heads.variables_same, many)

  lines : together (table (row_fields s sh) sh.k) ≡ together (table (row_fields z sh) sh.k)
  lines = heads.lines_same ∙ ap (λ (x : Shape). together (table (row_fields z x) x.k)) shapes

  pub proof_apart : s ≡ z
  proof_apart =
      let f = own_facts s fs.passes in
      let g = subst (λ (x : Shape). ProofFacts z x) shapes (own_facts z fz.passes) in
      proof_same s z fs.bytes fz.bytes sh refl shapes
      (own_unused s fs.passes ∙ sym (own_unused z fz.passes))
      heads.scale_same
      (λ i l. row_same s z sh i f.header.some (f.unused i l) (g.unused i l)
      (entry_apart (row_fields s sh) (row_fields z sh) sh.k sh.k (λ i l. row_line s sh i)
      (λ i l. row_line z sh i) lines i l l))
      f.header.sized g.header.sized
