-- Laws of a limits sheet's text: its labels, how long it is, and that its fields tell the sheet.
use mathlib.Core.Path.{◌≡◌, refl, sym, ◌∙◌}
use mathlib.Core.Bool.{Bool, true, false, cond}
use mathlib.Core.List.{List, [], ◌∷◌, ◌++◌, append_assoc}
use mathlib.Core.Logic.{inl, inr}
use Prim.Native.Nat.{ℕ, ◌+◌, ◌*◌, ◌^◌, ◌<◌, ◌≤◌}
use native.Mathlib.Omega.{arith}
use lib.Dec.{eqb}
use lib.ListN.{length, length-append}
use borrow.Author.Tests.{eq-eqb, ne_eqb}
use Rattle.integers.specs.Words.{Bytes}
use Rattle.integers.proofs.Tests.{never}
use Rattle.bounds.specs.Bounds.{most_variables, greatest_limit, greatest_multiplier}
use Rattle.answers.specs.Answers.{says, Short}
use Rattle.answers.specs.declared.answers.Verdict.{Verdict}
use Rattle.points.specs.Lists.{table}
use Rattle.squares.specs.declared.limits.Limit.{Limit}
use Rattle.sheets.specs.Layout.{variables, power_at, bound_at, multiplier_at, limits_length}
use Rattle.limits.specs.LimitsSheet.{limit_of}
use Rattle.limits.proofs.limits_sheet.Laws.{power_byte, bound_word, multiplier_word}
use Rattle.limits.specs.LimitChecks.{IsLimited, RightLimit}
use Rattle.limits.proofs.limit_checks.Laws.{power_some}
use Rattle.text.specs.Text.{ascii, counted}
use Rattle.text.proofs.text.Laws.{texts_short}
use Rattle.text.proofs.lines.Laws.{counted_short}
use Rattle.listings.specs.Fields.{Field, count, together, fields_text, listing, Labelled}
use Rattle.listings.proofs.Fields.{listing_is, is_label, split_count, fields_none, fields_more, fields_table, all_together}
use Rattle.listings.proofs.Putting.{count_put}
use Rattle.listings.specs.Listings.{listing_answer}
use Rattle.listings.proofs.Listings.{listing_short}
use Rattle.listings.proofs.Lines.{Line, entry_apart}
use Rattle.listings.proofs.Same.{Same, same_byte, same_then, same_entries, same_short, same_count, same_whole}
use Rattle.limits_listing.specs.OwnChecks.{own_answer}
use Rattle.limits_listing.specs.LimitsText.{longest, line_fields, variable_fields, limit_fields, limits_fields, lines_text, FormedLimits}
use Rattle.limits_listing.proofs.own_checks.Laws.{LimitsFacts, own_facts, own_short}

-- ---- what is put after what

pub limits_pieces : (l : List ℕ) → listing (limits_fields l)
    ≡ counted (ascii "limits\nvariables ") (variables l) ++ (lines_text l (variables l) (variables l) ++ ascii "\n")
unfolding limits_fields
limits_pieces l =
    let n = variables l in
    rw (
      listing_is (limits_fields l),
      fields_more (count (ascii "limits\nvariables ") n) (together (table (limit_fields l n) n)),
      count_put (ascii "limits\nvariables ") n,
      fields_table (limit_fields l n) n,
    )
    (append_assoc (counted (ascii "limits\nvariables ") n) _ (ascii "\n"))

-- ---- a line, or none

-- a limited variable's power is not 0
limited_power : (a : Limit) → IsLimited a → a.power ≡ 0 → ⊥
limited_power a h z = omega (arith, power_some a h)

-- 10 and 1 characters for the index, 7 and 1 for the power, 7 and 4 for L, and 12 and 5 for m
counts_short : (i power bound multiplier : ℕ) → i < 10 → power < 10 → bound < 10 ^ 4 → multiplier < 10 ^ 5
    → length (fields_text (count (ascii "\nvariable ") i ∷ count (ascii " power ") power ∷ count (ascii " limit ") bound
    ∷ count (ascii " multiplier ") multiplier ∷ [])) ≤ 47
counts_short i power bound multiplier hi hp hb hm =
    simp (fields_more, fields_none, count_put, length-append) (omega (
      arith,
      counted_short (ascii "\nvariable ") 0 i hi,
      counted_short (ascii " power ") 0 power hp,
      counted_short (ascii " limit ") 3 bound hb,
      counted_short (ascii " multiplier ") 4 multiplier hm,
    ))

module _ (i : ℕ) (a : Limit) where
  pub unlimited_none : a.power ≡ 0 → variable_fields i a ≡ []
  unfolding variable_fields
  unlimited_none z = rw (eq-eqb a.power 0 z)

  pub limited_some : (a.power ≡ 0 → ⊥) → variable_fields i a ≡ line_fields i a
  unfolding variable_fields
  limited_some d = rw (ne_eqb a.power 0 d)

  either : (P : List Field → Type 0) → P [] → P (line_fields i a) → P (variable_fields i a)
  unfolding variable_fields
  either P none some = go (eqb a.power 0)
    where
      go : (b : Bool) → P (cond b [] (line_fields i a))
      go true = none
      go false = some

  -- ---- labels, and lines

  variable_labelled : Labelled (variable_fields i a)
  unfolding line_fields
  variable_labelled =
      either (λ fields. Labelled fields) tt
      (is_label _ refl, (is_label _ refl, (is_label _ refl, (is_label _ refl, tt))))

  variable_line : Line i (variable_fields i a)
  unfolding line_fields
  variable_line = either (λ fields. Line i fields) tt (refl, refl, (refl, (refl, (refl, tt))))

  limited_line : line_fields i a ≡ [] → ⊥
  unfolding line_fields
  limited_line e = never (cc)

  -- ---- how long it is

  variable_short : i < most_variables → RightLimit a → length (fields_text (variable_fields i a)) ≤ 47
  unfolding line_fields
  variable_short k (inl u) = rw (unlimited_none u.power_none, fields_none) (omega arith)
  variable_short k (inr h) =
      let p : a.power ≤ 4 = (power_some a h).1 in
      let q : a.bound ≤ greatest_limit = h.bound_within in
      let r : a.multiplier ≤ greatest_multiplier = h.multiplier_within in
      rw (limited_some (limited_power a h))
      (counts_short i _ _ _ (omega arith) (omega arith) (omega arith) (omega arith))

-- ---- a line, or that there is none, tells the limit, where that is as said

record SameLimit (a b : Limit) : Type 0 where
  power_same : a.power ≡ b.power
  bound_same : a.bound ≡ b.bound
  multiplier_same : a.multiplier ≡ b.multiplier

module _ (i : ℕ) (a b : Limit) where
  limited_apart : line_fields i a ≡ line_fields i b → SameLimit a b
  unfolding line_fields
  limited_apart e =
      let p = split_count (split_count e).1 in
      let q = split_count p.1 in
      let r = split_count q.1 in
      record { power_same = p.0; bound_same = q.0; multiplier_same = r.0 }

  variable_apart : RightLimit a → RightLimit b → variable_fields i a ≡ variable_fields i b → SameLimit a b
  variable_apart (inl u) (inl v) e = record {
    power_same = u.power_none ∙ sym v.power_none;
    bound_same = u.bound_none ∙ sym v.bound_none;
    multiplier_same = u.multiplier_none ∙ sym v.multiplier_none;
  }
  variable_apart (inl u) (inr k) e =
      absurd (limited_line i b
      (sym (limited_some i b (limited_power b k)) ∙ sym e ∙ unlimited_none i a u.power_none))
  variable_apart (inr h) (inl v) e =
      absurd (limited_line i a (sym (limited_some i a (limited_power a h)) ∙ e ∙ unlimited_none i b v.power_none))
  variable_apart (inr h) (inr k) e =
      limited_apart (sym (limited_some i a (limited_power a h)) ∙ e ∙ limited_some i b (limited_power b k))

pub limits_labelled : (l : List ℕ) → Labelled (limits_fields l)
unfolding limits_fields limit_fields
limits_labelled l = (
  is_label _ refl,
  all_together _ (limit_fields l (variables l)) (variables l)
      (λ i k. variable_labelled i (limit_of l (variables l) i)),
)

-- ---- how long the whole is

pub limits_short : (l : List ℕ) → FormedLimits l → length (listing (limits_fields l)) ≤ longest
unfolding limit_fields
limits_short l h =
    let n = variables l in
    let f = own_facts l h.passes in
    rw (limits_pieces l)
    (simp length-append (omega (
      arith,
      f.room.few,
      counted_short (ascii "limits\nvariables ") 0 n (omega (arith, f.room.few)),
      texts_short (λ i. fields_text (limit_fields l n i)) 47 n
          (λ i k. variable_short i (limit_of l n i) (omega (arith, f.room.few)) (f.right i k)),
    )))

-- so its length is an answer of 16 bits
pub text_short : (l : List ℕ) (room : ℕ) (v : Verdict)
    → says v ≡ listing_answer (own_answer l) (limits_fields l) room → Bytes l → Short 65536 (says v)
text_short l room v e b =
    rw e
    (listing_short (own_answer l) (limits_fields l) room (omega arith) (own_short l (omega arith) b)
    (λ p. omega (arith, limits_short l (record { bytes = b; passes = p }))))

-- ---- the fields tell the sheet

-- n is the same in both
module _ (l m : List ℕ) (n : ℕ) (bl : Bytes l) (bm : Bytes m) (nl : variables l ≡ n) (nm : variables m ≡ n)
    (limits : (i : ℕ) → i < n → SameLimit (limit_of l n i) (limit_of m n i)) where
  bounds_same : Same l m 1 (n * 3)
  bounds_same =
      same_entries l m 1 3 n
      (λ i k. same_then l m (power_at i) 1 2
      (same_byte l m (power_at i) (sym (power_byte l n i) ∙ (limits i k).power_same ∙ power_byte m n i))
      (same_short l m bl bm (bound_at i) (sym (bound_word l n i) ∙ (limits i k).bound_same ∙ bound_word m n i)))

  multipliers_same : Same l m (1 + n * 3) (n * 4)
  multipliers_same =
      same_entries l m (1 + n * 3) 4 n
      (λ i k. same_count l m bl bm (multiplier_at n i)
      (sym (multiplier_word l n i) ∙ (limits i k).multiplier_same ∙ multiplier_word m n i))

  limits_same : length l ≡ limits_length n → length m ≡ limits_length n → l ≡ m
  limits_same ll lm =
      let e : length l ≡ 1 + n * 3 + n * 4 = omega (arith, ll) in
      let z : 0 + (1 + n * 3) ≡ 1 + n * 3 = omega arith in
      same_whole l m (ll ∙ sym lm)
      (rw e
      (same_then l m 0 (1 + n * 3) (n * 4)
      (same_then l m 0 1 (n * 3) (same_byte l m 0 (nl ∙ sym nm)) bounds_same)
      (rw z multipliers_same)))

module _ (l m : List ℕ) (fl : FormedLimits l) (fm : FormedLimits m) (e : limits_fields l ≡ limits_fields m) where
  abbrev n : ℕ
  n = variables l

  heads : (n ≡ variables m)
      × (together (table (limit_fields l n) n) ≡ together (table (limit_fields m (variables m)) (variables m)))
  unfolding limits_fields
  heads = split_count e

  lines : together (table (limit_fields l n) n) ≡ together (table (limit_fields m n) n)
  lines = rw (← heads.0) at heads.1

  own : LimitsFacts m n
  own = rw (← heads.0) at (own_facts m fm.passes)

  limits : (i : ℕ) → i < n → SameLimit (limit_of l n i) (limit_of m n i)
  unfolding limit_fields
  limits i k =
      variable_apart i (limit_of l n i) (limit_of m n i) ((own_facts l fl.passes).right i k) (own.right i k)
      (entry_apart (limit_fields l n) (limit_fields m n) n n (λ i k. variable_line i (limit_of l n i))
      (λ i k. variable_line i (limit_of m n i)) lines i k k)

  pub limits_apart : l ≡ m
  limits_apart =
      limits_same l m n fl.bytes fm.bytes refl (sym heads.0) limits (own_facts l fl.passes).sized
      own.sized
