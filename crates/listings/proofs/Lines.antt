-- Entries of a line each are told apart by their fields: a line's first label begins with a line feed, its first number
-- is the entry's index, and some indices may have no line.
use mathlib.Core.Path.{◌≡◌, refl, sym, ◌∙◌, ap, ap₂}
use mathlib.Core.Bool.{Bool, true, false, not}
use mathlib.Core.List.{List, [], ◌∷◌, ◌++◌}
use Prim.Native.Nat.{ℕ, zero, suc, ◌+◌, ◌<◌, ◌≤◌}
use native.Mathlib.Nat.{add-zero}
use native.Mathlib.Decide.{dec_lt}
use native.Mathlib.Omega.{arith}
use lib.Dec.{eqb}
use lib.IntN.{pos}
use lib.ListN.{get_or}
use Rattle.integers.proofs.Tests.{never}
use Rattle.points.specs.Lists.{table, All}
use Rattle.points.proofs.Lists.{all_map, table_get, table_past}
use Rattle.listings.specs.Fields.{Field, together}
use Rattle.listings.proofs.Fields.{Run, Stops, run_split}

-- 10 is the code of a line feed
abbrev pub starts_line : Field → Bool
starts_line f = eqb (get_or f.label 0 0) 10

-- the line of index i, or none
abbrev pub Line : ℕ → List Field → Type 0
Line i [] = Unit {0}
Line i (f ∷ rest) = (starts_line f ≡ true) × (f.number ≡ pos i) × All (λ g. starts_line g ≡ false) rest

-- the lines of the indices from i on
abbrev Lines : ℕ → List (List Field) → Type 0
Lines i entries = (j : ℕ) → Line (i + j) (get_or entries j [])

-- the entries after the first
rest : List (List Field) → List (List Field)
rest [] = []
rest (entry ∷ entries) = entries

rest_get : (entries : List (List Field)) (j : ℕ) → get_or (rest entries) j [] ≡ get_or entries (suc j) []
unfolding rest
rest_get [] j = refl
rest_get (entry ∷ entries) j = refl

rest_together : (entries : List (List Field)) → together entries ≡ get_or entries 0 [] ++ together (rest entries)
unfolding rest together
rest_together [] = refl
rest_together (entry ∷ entries) = refl

rest_lines : (i : ℕ) (entries : List (List Field)) → Lines i entries → Lines (suc i) (rest entries)
rest_lines i entries h j =
    let e : i + suc j ≡ suc i + j = omega arith in
    rw (rest_get entries j) (rw e at (h (suc j)))

-- what comes after a line is a line of a later index, or nothing
abbrev Later : ℕ → List Field → Type 0
Later i [] = Unit {0}
Later i (f ∷ fields) = (starts_line f ≡ true) × ((j : ℕ) → f.number ≡ pos j → i ≤ j)

later : (i : ℕ) (entries : List (List Field)) → Lines i entries → Later i (together entries)
unfolding together
later i [] h = tt
later i (entry ∷ entries) h = go entry (rw add-zero at (h 0)) (together entries)
    (later (suc i) entries (λ j. let e : i + suc j ≡ suc i + j = omega arith in rw e at (h (suc j))))
  where
    go : (entry : List Field) → Line i entry → (x : List Field) → Later (suc i) x → Later i (entry ++ x)
    go [] l [] m = tt
    go [] l (f ∷ x) m = (m.0, λ j e. omega (arith, m.1 j e))
    go (f ∷ entry) l x m =
        (l.0, λ j e. let p : pos i ≡ pos j = sym l.1 ∙ e in let q : i ≡ j = cc in omega arith)

-- the fields of a line but its first
abbrev in_line : Field → Bool
in_line f = not (starts_line f)

module _ (i : ℕ) where
  later_stops : (x : List Field) → Later (suc i) x → Stops in_line x
  later_stops [] m = tt
  later_stops (f ∷ x) m = rw m.0

  -- a line, and no line
  missing : (f : Field) (x y : List Field) → f.number ≡ pos i → Later (suc i) x → x ≡ f ∷ y → ⊥
  missing f [] y n m e = never (cc)
  missing f (g ∷ x) y n m e =
      let h : g ≡ f = cc in
      omega (arith, m.1 i (ap (λ (f : Field). f.number) h ∙ n))

  line_split : (a b x y : List Field) → Line i a → Line i b → Later (suc i) x → Later (suc i) y → a ++ x ≡ b ++ y
      → (a ≡ b) × (x ≡ y)
  line_split [] [] x y l m p q e = (refl, e)
  line_split [] (g ∷ b) x y l m p q e = absurd (missing g x (b ++ y) m.1 p e)
  line_split (f ∷ a) [] x y l m p q e = absurd (missing f y (a ++ x) l.1 q (sym e))
  line_split (f ∷ a) (g ∷ b) x y l m p q e =
      let h : f ≡ g = cc in
      let t : a ++ x ≡ b ++ y = cc in
      let both = run_split in_line a b x y (run a l.2) (run b m.2) (later_stops x p) (later_stops y q) t in
      (ap₂ ◌∷◌ h both.0, both.1)
    where
      run : (a : List Field) → All (λ g. starts_line g ≡ false) a → Run in_line a
      run a h = all_map (λ g. starts_line g ≡ false) (λ g. in_line g ≡ true) a (λ g e. rw e) h

module _ (i : ℕ) (a b : List (List Field)) (h : Lines i a) (k : Lines i b) (e : together a ≡ together b) where
  first_apart : (get_or a 0 [] ≡ get_or b 0 []) × (together (rest a) ≡ together (rest b))
  first_apart =
      line_split i (get_or a 0 []) (get_or b 0 []) (together (rest a)) (together (rest b)) (rw add-zero at (h 0))
      (rw add-zero at (k 0)) (later (suc i) (rest a) (rest_lines i a h)) (later (suc i) (rest b) (rest_lines i b k))
      (sym (rest_together a) ∙ e ∙ rest_together b)

lines_apart : (j i : ℕ) (a b : List (List Field)) → Lines i a → Lines i b → together a ≡ together b
    → get_or a j [] ≡ get_or b j []
lines_apart zero i a b h k e = (first_apart i a b h k e).0
lines_apart (suc j) i a b h k e =
    sym (rest_get a j)
    ∙ lines_apart j (suc i) (rest a) (rest b) (rest_lines i a h) (rest_lines i b k) (first_apart i a b h k e).1
    ∙ rest_get b j

-- entries by their index: f i below m, and g i below n
module _ (f g : ℕ → List Field) (m n : ℕ) (h : (i : ℕ) → i < m → Line i (f i)) (k : (i : ℕ) → i < n → Line i (g i))
    (e : together (table f m) ≡ together (table g n)) where
  lines_table : (f : ℕ → List Field) (m : ℕ) → ((i : ℕ) → i < m → Line i (f i)) → Lines 0 (table f m)
  lines_table f m h j = go (dec_lt j m)
    where
      go : Dec (j < m) → Line (0 + j) (get_or (table f m) j [])
      go (yes l) = let z : 0 + j ≡ j = omega arith in rw (table_get f [] m j l, z) (h j l)
      go (no l) = rw (table_past f [] m j (omega arith)) tt

  entries_apart : (i : ℕ) → get_or (table f m) i [] ≡ get_or (table g n) i []
  entries_apart i = lines_apart i 0 (table f m) (table g n) (lines_table f m h) (lines_table g n k) e

  pub entry_apart : (i : ℕ) → i < m → i < n → f i ≡ g i
  entry_apart i l o = sym (table_get f [] m i l) ∙ entries_apart i ∙ table_get g [] n i o

  -- where no index is missing, both have as many
  pub as_many : ((i : ℕ) → f i ≡ [] → ⊥) → ((i : ℕ) → g i ≡ [] → ⊥) → m ≡ n
  as_many some others = go (dec_lt m n) (dec_lt n m)
    where
      go : Dec (m < n) → Dec (n < m) → m ≡ n
      go (yes l) q =
          absurd (others m (sym (table_get g [] n m l) ∙ sym (entries_apart m) ∙ table_past f [] m m (omega arith)))
      go (no p) (yes l) =
          absurd (some n (sym (table_get f [] m n l) ∙ entries_apart n ∙ table_past g [] n n (omega arith)))
      go (no p) (no q) = omega arith
