-- Laws of text put over a buffer, one piece after another, and of how long numbers are.
use mathlib.Core.Path.{◌≡◌, refl, sym, ◌∙◌, ap}
use mathlib.Core.List.{List, [], ◌∷◌, ◌++◌, append-nil}
use Prim.Native.Nat.{ℕ, zero, suc, ◌+◌, ◌*◌, ◌/◌, ◌%◌, ◌^◌, ◌<◌, ◌≤◌}
use native.Mathlib.Decide.{dec_lt, le_ind}
use native.Mathlib.Nat.{pow-succ', mul-le-mul_right}
use native.Mathlib.Numerals.{add-one}
use native.Mathlib.Omega.{arith}
use lib.IntN.{ℤ, pos, negsuc, nat_abs}
use mir.Syntax.{w64}
use mir.Val.{Fits, SFits}
use Rattle.std.specs.Fmt.{decimal, signed_decimal}
use Rattle.std.proofs.lemmas.Fmt.{AppendsLastDigit, decimal_from_appends, length-decimal-le_succ}
use lib.ListN.{length, get_or, set, length-append, drop_of_length-le, get_or-append}
use lib.Seq.{sets, sets-eq, get_or-append-add}
use borrow.Author.Tests.{lt-ltb, le-ltb}
use Rattle.text.specs.Text.{digits, natural, integer, counted, numbered, texts_to, Room, Written}

-- ---- one text after another

pub sets_joined : (a b l : List ℕ) (at : ℕ) → sets (sets l at a) (at + length a) b ≡ sets l at (a ++ b)
sets_joined [] b l at = ap (λ (k : ℕ). sets l k b) (omega arith)
sets_joined (x ∷ a) b l at =
    let e : at + suc (length a) ≡ suc at + length a = omega arith in
    rw e (sets_joined a b (set l at x) (suc at))

pub written_then : {l m o : List ℕ} {at mid end : ℕ} (a b : List ℕ) → Written l at a m mid → Written m mid b o end
    → Written l at (a ++ b) o end
written_then {l} {m} {o} {at} {mid} {end} a b p q = record {
  bytes = q.bytes ∙ rw (p.bytes, p.ends) (sets_joined a b l at);
  ends = q.ends ∙ rw (p.ends, length-append a b) (omega arith);
  kept = q.kept ∙ p.kept;
  inside = q.inside;
}

-- a text over all of a buffer
pub written_all : {l m : List ℕ} {end : ℕ} (t : List ℕ) → Written l 0 t m end → end ≡ length l → m ≡ t
written_all {l} {m} {end} t w e =
    let n : length l ≡ length t = omega (arith, w.ends) in
    w.bytes ∙ sets-eq t l 0 (omega (arith, n))
    ∙ rw (drop_of_length-le l {i = 0 + length t} (omega (arith, n))) (append-nil t)

-- room for both is room for the first, and then for the second
pub room_first : {l : List ℕ} {at : ℕ} (a b : List ℕ) → Room l at (a ++ b) → Room l at a
room_first a b h = record { room = omega (arith, h.room, length-append a b) }

pub room_then : {l m : List ℕ} {at mid : ℕ} (a b : List ℕ) → Room l at (a ++ b) → Written l at a m mid → Room m mid b
room_then a b h w = record { room = omega (arith, h.room, length-append a b, w.ends, w.kept) }

-- ---- many texts, one after another: l has room for the first k of them, and m has the first i, which end at mid

pub texts_none : (text : ℕ → List ℕ) → texts_to text 0 ≡ []
unfolding texts_to
texts_none text = refl

pub texts_more : (text : ℕ → List ℕ) (i : ℕ) → texts_to text (suc i) ≡ texts_to text i ++ text i
unfolding texts_to
texts_more text i = refl

texts_grow : (text : ℕ → List ℕ) (i k : ℕ) → i < k → length (texts_to text i ++ text i) ≤ length (texts_to text k)
texts_grow text i =
    le_ind (λ k. length (texts_to text i ++ text i) ≤ length (texts_to text k)) (rw texts_more (omega arith))
    (λ k _ g. rw (texts_more text k, length-append (texts_to text k)) (omega arith))

pub texts_start : (text : ℕ → List ℕ) (l : List ℕ) (at : ℕ) → at ≤ length l → Written l at (texts_to text 0) l at
texts_start text l at h =
    rw (texts_none text) (record { bytes = refl; ends = omega arith; kept = refl; inside = h })

module _ {l m : List ℕ} {at mid : ℕ} (text : ℕ → List ℕ) (i : ℕ) (w : Written l at (texts_to text i) m mid) where
  pub texts_room : (k : ℕ) → Room l at (texts_to text k) → i < k → Room m mid (text i)
  texts_room k r h =
      room_then (texts_to text i) (text i) (record { room = omega (arith, r.room, texts_grow text i k h) }) w

  pub texts_next : {o : List ℕ} {end : ℕ} → Written m mid (text i) o end → Written l at (texts_to text (i + 1)) o end
  texts_next u = rw (add-one, texts_more text i) (written_then (texts_to text i) (text i) w u)

pub texts_same : (a b : ℕ → List ℕ) (k : ℕ) → ((i : ℕ) → i < k → a i ≡ b i) → texts_to a k ≡ texts_to b k
texts_same a b zero h = rw (texts_none a, texts_none b)
texts_same a b (suc k) h =
    rw (texts_more a k, texts_more b k, texts_same a b k (λ i l. h i (omega arith)), h k (omega arith))

-- texts of so many bytes each, and of at most so many
pub texts_length : (text : ℕ → List ℕ) (n k : ℕ) → ((i : ℕ) → length (text i) ≡ n) → length (texts_to text k) ≡ k * n
texts_length text n zero h = rw (texts_none text) (omega arith)
texts_length text n (suc k) h =
    rw (texts_more text k, length-append (texts_to text k) (text k)) (omega (arith, texts_length text n k h, h k))

pub texts_short : (text : ℕ → List ℕ) (n k : ℕ) → ((i : ℕ) → i < k → length (text i) ≤ n)
    → length (texts_to text k) ≤ k * n
texts_short text n zero h = rw (texts_none text) (omega arith)
texts_short text n (suc k) h =
    rw (texts_more text k, length-append (texts_to text k) (text k))
    (omega (arith, texts_short text n k (λ i l. h i (omega arith)), h k (omega arith)))

-- byte m of text i
pub texts_byte : (text : ℕ → List ℕ) (n k i m : ℕ) → ((i : ℕ) → length (text i) ≡ n) → i < k → m < n
    → get_or (texts_to text k) (i * n + m) 0 ≡ get_or (text i) m 0
texts_byte text n zero i m h l b = absurd (omega arith)
texts_byte text n (suc k) i m h l b = rw (texts_more text k) (go (dec_lt i k) (texts_byte text n k i m h))
  where
    long : length (texts_to text k) ≡ k * n
    long = texts_length text n k h

    go : Dec (i < k) → (i < k → m < n → get_or (texts_to text k) (i * n + m) 0 ≡ get_or (text i) m 0)
        → get_or (texts_to text k ++ text k) (i * n + m) 0 ≡ get_or (text i) m 0
    go (yes q) before =
        get_or-append (texts_to text k) (text k) 0 (i * n + m) (omega (arith, long, mul-le-mul_right n q))
        ∙ before q b
    go (no q) before =
        let e : i ≡ k = omega arith in
        rw (e, ← long) (get_or-append-add (texts_to text k) (text k) m 0)

-- ---- a label and a number

pub counted_is : (label : List ℕ) (n : ℕ) → counted label n ≡ label ++ natural n
unfolding counted
counted_is label n = refl

pub numbered_is : (label : List ℕ) (z : ℤ) → numbered label z ≡ label ++ integer z
unfolding numbered
numbered_is label z = refl

pub integer_count : (n : ℕ) → integer (pos n) ≡ natural n
unfolding integer
integer_count n = refl

pub integer_minus : (n : ℕ) → integer (negsuc n) ≡ 45 ∷ natural (suc n)
unfolding integer
integer_minus n = refl

-- ---- the digits of a number

digits_last : (most n : ℕ) → n < 10 → digits (suc most) n ≡ (48 + n % 10) ∷ []
unfolding digits
digits_last most n h = simp (digits, lt-ltb n 10 h)

digits_before : (most n : ℕ) → 10 ≤ n → digits (suc most) n ≡ digits most (n / 10) ++ ((48 + n % 10) ∷ [])
unfolding digits
digits_before most n h = simp (digits, le-ltb n 10 h)

-- a bound above the number changes nothing
digits_enough : (f g n : ℕ) → n < f → n < g → digits f n ≡ digits g n
digits_enough zero g n h k = absurd (omega arith)
digits_enough (suc f) zero n h k = absurd (omega arith)
digits_enough (suc f) (suc g) n h k = go (dec_lt n 10) (digits_enough f g (n / 10))
  where
    go : Dec (n < 10) → (n / 10 < f → n / 10 < g → digits f (n / 10) ≡ digits g (n / 10))
        → digits (suc f) n ≡ digits (suc g) n
    go (yes l) before = digits_last f n l ∙ sym (digits_last g n l)
    go (no l) before =
        let m : 10 ≤ n = omega arith in
        digits_before f n m ∙ rw (before (omega arith) (omega arith)) (sym (digits_before g n m))

pub natural_last : (n : ℕ) → n < 10 → natural n ≡ (48 + n % 10) ∷ []
unfolding natural
natural_last n h = digits_last n n h

pub natural_before : (n : ℕ) → 10 ≤ n → natural n ≡ natural (n / 10) ++ ((48 + n % 10) ∷ [])
unfolding natural
natural_before n h = digits_before n n h ∙ rw (digits_enough n (suc (n / 10)) (n / 10) (omega arith) (omega arith))

-- a number below 10^k has at most k digits
pub natural_short : (k n : ℕ) → n < 10 ^ suc k → length (natural n) ≤ suc k
natural_short zero n h = rw (natural_last n h) (omega arith)
natural_short (suc k) n h = go (dec_lt n 10) (natural_short k (n / 10))
  where
    go : Dec (n < 10) → (n / 10 < 10 ^ suc k → length (natural (n / 10)) ≤ suc k) → length (natural n) ≤ suc (suc k)
    go (yes l) before = rw (natural_last n l) (omega arith)
    go (no l) before =
        let e = pow-succ' 10 (suc k) in
        rw (natural_before n (omega arith), length-append (natural (n / 10)) ((48 + n % 10) ∷ []))
        (omega (arith, before (omega arith)))

pub integer_short : (k : ℕ) (z : ℤ) → nat_abs z < 10 ^ suc k → length (integer z) ≤ suc (suc k)
unfolding integer
integer_short k (pos n) h = omega (arith, natural_short k n h)
integer_short k (negsuc n) h = omega (arith, natural_short k (suc n) h)

-- std's text of a number of 64 bits is ours
natural_appends : AppendsLastDigit digits
natural_appends = record {
  one = λ k n h. digits_last k n h ∙ ap (λ (d : ℕ). (48 + d) ∷ []) (omega arith);
  more = digits_before;
}

natural_decimal : (n : ℕ) → n < 2 ^ 64 → natural n ≡ decimal n
unfolding natural
natural_decimal n h =
    let e = length-decimal-le_succ n h in
    decimal_from_appends digits natural_appends (suc n) n h (omega arith)

pub integer_decimal : (z : ℤ) → SFits w64 z → integer z ≡ signed_decimal z
unfolding integer
integer_decimal (pos n) f = natural_decimal n (omega (arith, f))
integer_decimal (negsuc n) f = ap (λ (t : List ℕ). 45 ∷ t) (natural_decimal (suc n) (omega (arith, f)))

pub counted_decimal : (label : List ℕ) (n : ℕ) → Fits w64 n → counted label n ≡ label ++ decimal n
unfolding counted
counted_decimal label n f = ap (λ (t : List ℕ). label ++ t) (natural_decimal n (omega (arith, f.fits)))

pub numbered_decimal : (label : List ℕ) (z : ℤ) → SFits w64 z → numbered label z ≡ label ++ signed_decimal z
unfolding numbered
numbered_decimal label z f = ap (λ (t : List ℕ). label ++ t) (integer_decimal z f)

-- a label and a number as the machine reads it back, and the text after it
module _ {l m : List ℕ} {at mid : ℕ} (label : List ℕ) (z z' : ℤ) (w : Written l at (numbered label z') m mid)
    (e : z' ≡ z) where
  pub numbered_back : Written l at (numbered label z) m mid
  numbered_back = rw e at w

  pub numbered_room : (b : List ℕ) → Room l at (numbered label z ++ b) → Room m mid b
  numbered_room b r = room_then (numbered label z) b r numbered_back

  pub numbered_then : {o : List ℕ} {end : ℕ} (b : List ℕ) → Written m mid b o end
      → Written l at (numbered label z ++ b) o end
  numbered_then b u = written_then (numbered label z) b numbered_back u
