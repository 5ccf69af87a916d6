-- Fields are told apart by their text: labels and numbers share no character.
use mathlib.Core.Path.{◌≡◌, refl, sym, ◌∙◌, ap, ap₂}
use mathlib.Core.Bool.{Bool, true, false, not, ◌&&◌, ◌||◌, false≢true, and-eq-true_iff}
use mathlib.Core.List.{List, [], ◌∷◌, ◌++◌, append_assoc, append-nil}
use Prim.Native.Nat.{ℕ, zero, suc, ◌+◌, ◌*◌, ◌-◌, ◌/◌, ◌%◌, ◌<◌, ◌≤◌}
use native.Mathlib.Decide.{dec_lt}
use native.Mathlib.Omega.{arith}
use lib.Dec.{ltb}
use lib.IntN.{ℤ, pos, negsuc}
use lib.ListN.{length, length-append}
use borrow.Author.Tests.{le-leb, ltb-true}
use Rattle.integers.proofs.Tests.{never}
use Rattle.points.specs.Lists.{table, All}
use Rattle.points.proofs.Lists.{all_append, all_map, table_none, table_more}
use Rattle.text.specs.Text.{ascii, natural, integer, numbered, texts_to}
use Rattle.text.proofs.text.Laws.{natural_last, natural_before, integer_count, integer_minus, numbered_is, texts_none, texts_more}
use Rattle.listings.specs.Fields.{Field, number, count, together, fields_text, listing, of_numbers, IsLabel, Labelled, UniqueReading}

-- ---- runs: where a run of one kind ends, whatever follows does not go on with it

module _ {A : Type 0} (kind : A → Bool) where
  abbrev pub Run : List A → Type 0
  Run l = All (λ a. kind a ≡ true) l

  abbrev pub Stops : List A → Type 0
  Stops [] = Unit {0}
  Stops (a ∷ l) = kind a ≡ false

  pub run_split : (a b x y : List A) → Run a → Run b → Stops x → Stops y → a ++ x ≡ b ++ y → (a ≡ b) × (x ≡ y)
  run_split [] [] x y p q s t e = (refl, e)
  run_split [] (c ∷ b) [] y p q s t e = never (cc)
  run_split [] (c ∷ b) (d ∷ x) y p q s t e =
      let h : d ≡ c = cc in
      absurd (false≢true (sym s ∙ ap kind h ∙ q.0))
  run_split (c ∷ a) [] x [] p q s t e = never (cc)
  run_split (c ∷ a) [] x (d ∷ y) p q s t e =
      let h : d ≡ c = cc in
      absurd (false≢true (sym t ∙ ap kind h ∙ p.0))
  run_split (c ∷ a) (d ∷ b) x y p q s t e =
      let h : c ≡ d = cc in
      let r : a ++ x ≡ b ++ y = cc in
      let both = run_split a b x y p.1 q.1 s t r in
      (ap₂ ◌∷◌ h both.0, both.1)

  pub stops : (l rest : List A) → 0 < length l → All (λ a. kind a ≡ false) l → Stops (l ++ rest)
  stops [] rest h p = absurd (omega arith)
  stops (a ∷ l) rest h p = p.0

-- ---- numbers: their digits, and back

abbrev IsDigit : ℕ → Type 0
IsDigit code = (48 ≤ code) × (code ≤ 57)

value_of : ℕ → List ℕ → ℕ
value_of n [] = n
value_of n (d ∷ l) = value_of (n * 10 + (d - 48)) l

value_last : (n : ℕ) (l : List ℕ) (d : ℕ) → value_of n (l ++ (d ∷ [])) ≡ value_of n l * 10 + (d - 48)
unfolding value_of
value_last n [] d = refl
value_last n (a ∷ l) d = value_last (n * 10 + (a - 48)) l d

-- what the digits of a number are, by how they are put together
module _ (P : ℕ → List ℕ → Type 0) (last : (n : ℕ) → n < 10 → P n ((48 + n % 10) ∷ []))
    (more : (n : ℕ) (l : List ℕ) → 10 ≤ n → P (n / 10) l → P n (l ++ ((48 + n % 10) ∷ []))) where
  digits_ind : (most n : ℕ) → n < most → P n (natural n)
  digits_ind zero n h = absurd (omega arith)
  digits_ind (suc most) n h = go (dec_lt n 10) (digits_ind most (n / 10))
    where
      go : Dec (n < 10) → (n / 10 < most → P (n / 10) (natural (n / 10))) → P n (natural n)
      go (yes l) before = rw (natural_last n l) (last n l)
      go (no l) before = rw (natural_before n (omega arith)) (more n _ (omega arith) (before (omega arith)))

natural_value : (n : ℕ) → value_of 0 (natural n) ≡ n
unfolding value_of
natural_value n =
    digits_ind (λ n l. value_of 0 l ≡ n) (λ n h. omega arith) (λ n l h e. rw (value_last, e) (omega arith)) (suc n) n
    (omega arith)

natural_digits : (n : ℕ) → All IsDigit (natural n)
natural_digits n =
    digits_ind (λ n l. All IsDigit l) (λ n h. ((omega arith, omega arith), tt))
    (λ n l h p. all_append IsDigit l _ p ((omega arith, omega arith), tt)) (suc n) n (omega arith)

natural_some : (n : ℕ) → 0 < length (natural n)
natural_some n =
    digits_ind (λ n l. 0 < length l) (λ n h. omega arith) (λ n l h p. rw length-append (omega arith)) (suc n) n
    (omega arith)

-- ---- numbers of either sign

integer_some : (z : ℤ) → 0 < length (integer z)
integer_some (pos n) = rw (integer_count n) (natural_some n)
integer_some (negsuc n) = rw (integer_minus n) (omega arith)

digit_numeral : (code : ℕ) → IsDigit code → of_numbers code ≡ true
digit_numeral code h = rw (le-leb 48 code h.0, le-leb code 57 h.1) (or_true _)
  where
    or_true : (b : Bool) → b || true ≡ true
    or_true true = refl
    or_true false = refl

natural_numerals : (n : ℕ) → Run of_numbers (natural n)
natural_numerals n = all_map IsDigit (λ c. of_numbers c ≡ true) (natural n) digit_numeral (natural_digits n)

integer_numerals : (z : ℤ) → Run of_numbers (integer z)
integer_numerals (pos n) = rw (integer_count n) (natural_numerals n)
integer_numerals (negsuc n) = rw (integer_minus n) (refl, natural_numerals (suc n))

natural_unique : (m n : ℕ) → natural m ≡ natural n → m ≡ n
natural_unique m n e = sym (natural_value m) ∙ ap (value_of 0) e ∙ natural_value n

-- a minus sign is no digit
sign_apart : (m : ℕ) (l : List ℕ) → natural m ≡ 45 ∷ l → ⊥
sign_apart m l e = let d : All IsDigit (45 ∷ l) = rw e at (natural_digits m) in omega (arith, d.0.0)

integer_unique : (z w : ℤ) → integer z ≡ integer w → z ≡ w
integer_unique (pos m) (pos n) e =
    ap pos (natural_unique m n (sym (integer_count m) ∙ e ∙ integer_count n))
integer_unique (pos m) (negsuc n) e =
    absurd (sign_apart m (natural (suc n)) (sym (integer_count m) ∙ e ∙ integer_minus n))
integer_unique (negsuc m) (pos n) e =
    absurd (sign_apart n (natural (suc m)) (sym (integer_count n) ∙ sym e ∙ integer_minus m))
integer_unique (negsuc m) (negsuc n) e =
    let both : 45 ∷ natural (suc m) ≡ 45 ∷ natural (suc n) = sym (integer_minus m) ∙ e ∙ integer_minus n in
    let r : natural (suc m) ≡ natural (suc n) = cc in
    let s : suc m ≡ suc n = natural_unique (suc m) (suc n) r in
    let t : m ≡ n = omega arith in
    ap negsuc t

-- ---- fields

listing_none : listing [] ≡ 10 ∷ []
unfolding listing fields_text
listing_none = refl

-- the other characters
abbrev of_labels : ℕ → Bool
of_labels code = not (of_numbers code)

module _ (f : Field) (fields : List Field) where
  -- what follows a label, and a number
  abbrev after_label : List ℕ
  after_label = integer f.number ++ listing fields

  listing_more : listing (f ∷ fields) ≡ f.label ++ after_label
  unfolding listing fields_text
  listing_more = simp (numbered_is, append_assoc)

  number_stops : Stops of_labels after_label
  number_stops =
      stops of_labels (integer f.number) (listing fields) (integer_some f.number)
      (all_map (λ c. of_numbers c ≡ true) (λ c. of_labels c ≡ false) (integer f.number) (λ c h. rw h)
      (integer_numerals f.number))

  module _ (p : IsLabel f.label) where
    label_run : Run of_labels f.label
    label_run = all_map (λ c. of_numbers c ≡ false) (λ c. of_labels c ≡ true) f.label (λ c h. rw h) p.plain

    -- a field is longer than the line feed alone
    listing_long : listing [] ≡ listing (f ∷ fields) → ⊥
    listing_long e =
        let l : 1 ≡ length (f.label ++ after_label) = ap length (sym listing_none ∙ e ∙ listing_more) in
        omega (arith, simp length-append at l, p.some, integer_some f.number)

listing_stops : (fields : List Field) → Labelled fields → Stops of_numbers (listing fields)
listing_stops [] p = rw listing_none refl
listing_stops (f ∷ fields) p =
    rw (listing_more f fields) (stops of_numbers f.label (after_label f fields) p.0.some p.0.plain)

pub unique_reading : UniqueReading
unique_reading [] [] p q e = refl
unique_reading [] (g ∷ others) p q e = absurd (listing_long g others q.0 e)
unique_reading (f ∷ fields) [] p q e = absurd (listing_long f fields p.0 (sym e))
unique_reading (f ∷ fields) (g ∷ others) p q e =
    let labels =
    run_split of_labels f.label g.label (after_label f fields) (after_label g others)
    (label_run f fields p.0) (label_run g others q.0) (number_stops f fields) (number_stops g others)
    (sym (listing_more f fields) ∙ e ∙ listing_more g others)
    in
    let numbers =
    run_split of_numbers (integer f.number) (integer g.number) (listing fields) (listing others)
    (integer_numerals f.number) (integer_numerals g.number) (listing_stops fields p.1)
    (listing_stops others q.1) labels.1
    in
    let l : f.label ≡ g.label = labels.0 in
    let z : f.number ≡ g.number = integer_unique f.number g.number numbers.0 in
    let rest : fields ≡ others = unique_reading fields others p.1 q.1 numbers.1 in
    ap₂ ◌∷◌ (ap₂ (λ (l : List ℕ) (z : ℤ). record { label = l; number = z }) l z) rest

-- ---- fields that are the same

pub split_number : {label : List ℕ} {z w : ℤ} {x y : List Field} → number label z ∷ x ≡ number label w ∷ y
    → (z ≡ w) × (x ≡ y)
split_number {label} {z} {w} {x} {y} e =
    let f : number label z ≡ number label w = cc in
    (ap (λ (f : Field). f.number) f, cc)

pub split_count : {label : List ℕ} {m n : ℕ} {x y : List Field} → count label m ∷ x ≡ count label n ∷ y
    → (m ≡ n) × (x ≡ y)
split_count e = let both = split_number e in let z : _ = both.0 in (cc, both.1)

-- ---- labels that are written out

abbrev plain_test : List ℕ → Bool
plain_test [] = true
plain_test (c ∷ label) = of_labels c && plain_test label

abbrev label_test : List ℕ → Bool
label_test label = ltb 0 (length label) && plain_test label

pub is_label : (label : List ℕ) → label_test label ≡ true → IsLabel label
is_label label h =
    let both = (and-eq-true_iff (ltb 0 (length label)) _).0 h in
    record { some = ltb-true _ _ both.0; plain = go label both.1 }
  where
    false_not : (b : Bool) → not b ≡ true → b ≡ false
    false_not true h = sym h
    false_not false h = refl

    go : (label : List ℕ) → plain_test label ≡ true → All (λ code. of_numbers code ≡ false) label
    go [] h = tt
    go (c ∷ label) h =
        let both = (and-eq-true_iff (of_labels c) (plain_test label)).0 h in
        (false_not (of_numbers c) both.0, go label both.1)

-- ---- texts of fields, one list after another

pub fields_none : fields_text [] ≡ []
unfolding fields_text
fields_none = refl

-- a sheet's text is that of its fields, and the line feed
pub listing_is : (fields : List Field) → listing fields ≡ fields_text fields ++ ascii "\n"
unfolding listing
listing_is fields = refl

pub fields_more : (f : Field) (fields : List Field)
    → fields_text (f ∷ fields) ≡ numbered f.label f.number ++ fields_text fields
unfolding fields_text
fields_more f fields = refl

pub fields_append : (a b : List Field) → fields_text (a ++ b) ≡ fields_text a ++ fields_text b
unfolding fields_text
fields_append [] b = refl
fields_append (f ∷ a) b = rw (fields_append a b) (simp append_assoc)

together_append : (a b : List (List Field)) → together (a ++ b) ≡ together a ++ together b
unfolding together
together_append [] b = refl
together_append (entry ∷ a) b = rw (together_append a b) (simp append_assoc)

together_none : together [] ≡ []
unfolding together
together_none = refl

together_one : (entry : List Field) → together (entry ∷ []) ≡ entry
unfolding together
together_one entry = append-nil entry

-- what holds of every entry's fields holds of all
pub all_together : (P : Field → Type 0) (f : ℕ → List Field) (k : ℕ) → ((i : ℕ) → i < k → All P (f i))
    → All P (together (table f k))
all_together P f zero h = rw (table_none f, together_none) tt
all_together P f (suc k) h =
    rw (table_more f k, together_append (table f k) (f k ∷ []), together_one (f k))
    (all_append P (together (table f k)) (f k) (all_together P f k (λ i l. h i (omega arith))) (h k (omega arith)))

pub fields_table : (f : ℕ → List Field) (k : ℕ)
    → fields_text (together (table f k)) ≡ texts_to (λ i. fields_text (f i)) k
fields_table f zero = rw (table_none f, together_none, fields_none) (sym (texts_none _))
fields_table f (suc k) =
    rw (
      table_more f k,
      together_append (table f k) (f k ∷ []),
      together_one (f k),
      fields_append (together (table f k)) (f k),
      fields_table f k,
      texts_more _ k,
    )
