-- Laws of lists by an index, and of what holds of every element.
use mathlib.Core.Path.{◌≡◌, refl, ◌∙◌}
use mathlib.Core.List.{List, [], ◌∷◌, ◌++◌, append-nil, append_assoc}
use Prim.Native.Nat.{ℕ, zero, suc, ◌+◌, ◌<◌, ◌≤◌}
use native.Mathlib.Nat.{add-zero, add-suc}
use native.Mathlib.Decide.{dec_lt}
use native.Mathlib.Omega.{arith}
use lib.ListN.{length, get_or, length-append, get_or-append}
use lib.Seq.{get_or_at}
use Rattle.points.specs.Lists.{table, All}

pub all_append : {A : Type 0} (P : A → Type 0) (L M : List A) → All P L → All P M → All P (L ++ M)
all_append P [] M s t = t
all_append P (a ∷ L) M s t = (s.0, all_append P L M s.1 t)

pub all_map : {A : Type 0} (P Q : A → Type 0) (L : List A) → ((a : A) → P a → Q a) → All P L → All Q L
all_map P Q [] f h = tt
all_map P Q (a ∷ L) f h = (f a h.0, all_map P Q L f h.1)

pub all_both : {A : Type 0} (P Q R : A → Type 0) (L : List A) → ((a : A) → P a → Q a → R a) → All P L → All Q L
    → All R L
all_both P Q R [] f h k = tt
all_both P Q R (a ∷ L) f h k = (f a h.0 k.0, all_both P Q R L f h.1 k.1)

pub append_all : {A : Type 0} (P : A → Type 0) (L M : List A) → All P (L ++ M) → All P L × All P M
append_all P [] M h = (tt, h)
append_all P (a ∷ L) M h = let k = append_all P L M h.1 in ((h.0, k.0), k.1)

module _ {A : Type 0} (f : ℕ → A) where
  pub table_none : table f 0 ≡ []
  unfolding table
  table_none = refl

  pub table_more : (n : ℕ) → table f (suc n) ≡ table f n ++ (f n ∷ [])
  unfolding table
  table_more n = refl

  pub table_length : (n : ℕ) → length (table f n) ≡ n
  unfolding table
  table_length zero = refl
  table_length (suc n) = length-append (table f n) (f n ∷ []) ∙ rw (table_length n) (omega arith)

  -- an index and its entry
  pub table_get : (d : A) (n i : ℕ) → i < n → get_or (table f n) i d ≡ f i
  unfolding table
  table_get d zero i h = absurd (omega arith)
  table_get d (suc n) i h = go (dec_lt i n) (table_get d n i)
    where
      go : Dec (i < n) → (i < n → get_or (table f n) i d ≡ f i) → get_or (table f n ++ (f n ∷ [])) i d ≡ f i
      go (yes l) below = get_or-append (table f n) (f n ∷ []) d i (rw table_length l) ∙ below l
      go (no l) below = let q : i ≡ n = omega arith in rw q (get_or_at (table f n) (f n) [] d n (table_length n))

  -- past the last entry
  pub table_past : (d : A) (n i : ℕ) → n ≤ i → get_or (table f n) i d ≡ d
  table_past d n i h = go (table f n) i (rw table_length h)
    where
      go : (L : List A) (i : ℕ) → length L ≤ i → get_or L i d ≡ d
      go [] i h = refl
      go (a ∷ L) zero h = absurd (omega arith)
      go (a ∷ L) (suc i) h = go L i (omega arith)

  -- the first m entries, and those after them
  pub table_split : (m n : ℕ) → table f (m + n) ≡ table f m ++ table (λ i. f (m + i)) n
  unfolding table
  table_split m zero = rw (add-zero, append-nil)
  table_split m (suc n) = rw (add-suc, table_split m n)
      (append_assoc (table f m) (table (λ i. f (m + i)) n) (f (m + n) ∷ []))

  -- what holds at every index holds of every element
  pub all_table : (P : A → Type 0) (n : ℕ) → ((i : ℕ) → i < n → P (f i)) → All P (table f n)
  unfolding table
  all_table P zero h = tt
  all_table P (suc n) h =
      all_append P (table f n) (f n ∷ []) (all_table P n (λ i l. h i (omega arith))) (h n (omega arith), tt)

  -- and the other way
  pub table_all : (P : A → Type 0) (n : ℕ) → All P (table f n) → (i : ℕ) → i < n → P (f i)
  unfolding table
  table_all P zero h i l = absurd (omega arith)
  table_all P (suc n) h i l =
      let k = append_all P (table f n) (f n ∷ []) h in
      go (dec_lt i n) (table_all P n k.0 i) k.1.0
    where
      go : Dec (i < n) → (i < n → P (f i)) → P (f n) → P (f i)
      go (yes m) before last = before m
      go (no m) before last = let q : i ≡ n = omega arith in rw q last

  -- lists with equal entries are equal
  pub table_same : (g : ℕ → A) (n : ℕ) → ((i : ℕ) → i < n → f i ≡ g i) → table f n ≡ table g n
  unfolding table
  table_same g zero h = refl
  table_same g (suc n) h = rw (table_same g n (λ i l. h i (omega arith)), h n (omega arith))
