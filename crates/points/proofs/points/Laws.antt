-- Laws of points: the same point, the order, midpoints, points by value, bytes as exponents, numbers in the eight
-- places, pure powers, one variable more, and masks.
use mathlib.Core.Path.{◌≡◌, refl, sym, ◌∙◌, ap, ap₂}
use mathlib.Core.Logic.{◌⊎◌, inl, inr, ◌↔◌}
use mathlib.Core.Bool.{Bool, true, false, cond, ◌&&◌, and-eq-true_iff, false≢true}
use mathlib.Core.List.{List, [], ◌∷◌, ◌++◌, append_assoc}
use Prim.Native.Nat.{ℕ, zero, suc, ◌+◌, ◌-◌, ◌/◌, ◌%◌, ◌^◌, ◌<◌, ◌≤◌, min}
use native.Mathlib.Nat.{add_assoc, zero-div}
use native.Mathlib.Decide.{ℕ_discrete}
use native.Mathlib.Numerals.{add-one}
use native.Mathlib.Omega.{arith}
use lib.Dec.{eqb, ltb, leb}
use lib.ListN.{length, get_or, set, take, drop, replicate, length-replicate, length-set, length-append, length-take, length-drop, replicate-append-replicate, get_or-append}
use lib.Pow.{shr-shr}
use lib.Seq.{take-append_seam, get_or-append-add, set_at, set-append_left, get_or-set_other, ext_get_or, get_or-take, get_or-drop}
use borrow.Author.Tests.{lt-ltb, le-ltb, ltb-true, ltb-false, le-leb, lt-leb, leb-true, eq-eqb, ne_eqb, eqb-true}
use Rattle.bounds.specs.Bounds.{most_variables}
use Rattle.points.specs.Lists.{table}
use Rattle.std.specs.List.{list_all}
use Rattle.std.specs.Cmp.Lexicographic.{pointwise}
use Rattle.points.specs.Points.{Exponents, exponents, padded, point_of, bytes_at, same_point, rises_to, even_sum, has_midpoint, midpoint_of, Masked, OddsMasked, keeps_sign, pure_at, exponents_within}
use Rattle.points.specs.declared.points.Point.{Point}
use Rattle.points.proofs.Lists.{table_length, table_get, table_split, table_same}

-- ---- points by value

-- as many places as there can be variables
abbrev pub Places : List ℕ → Type 0
Places x = length x ≡ most_variables

-- the exponents, by their number
pub exponents_counted : (p : Point) (n : ℕ) → n ≡ length (exponents p) → take n p.exps ≡ exponents p
unfolding exponents
exponents_counted p n e = rw e (take_again p.n p.exps)
  where
    take_again : (k : ℕ) (l : List ℕ) → take (length (take k l)) l ≡ take k l
    take_again zero l = refl
    take_again (suc k) [] = refl
    take_again (suc k) (a ∷ l) = ap (◌∷◌ a) (take_again k l)

-- ---- the same point

pub same_eq : (v w : Exponents) → same_point v w ≡ true → v ≡ w
unfolding same_point
same_eq [] [] e = refl
same_eq [] (b ∷ w) e = absurd (false≢true e)
same_eq (a ∷ v) [] e = absurd (false≢true e)
same_eq (a ∷ v) (b ∷ w) e =
    let q = (and-eq-true_iff (eqb a b) (pointwise eqb v w)).0 e in
    ap₂ ◌∷◌ (eqb-true a b q.0) (same_eq v w q.1)

pub same_refl : (v : Exponents) → same_point v v ≡ true
unfolding same_point
same_refl [] = refl
same_refl (a ∷ v) = rw (eq-eqb a a refl, same_refl v)

pub apart_sym : (v w : Exponents) → same_point v w ≡ false → same_point w v ≡ false
apart_sym v w h = go (same_point w v) (same_eq w v)
  where
    go : (b : Bool) → (b ≡ true → w ≡ v) → b ≡ false
    go true f = absurd (false≢true (sym (rw (f refl) at h) ∙ same_refl v))
    go false f = refl

-- ---- the order

-- a point is not above itself
pub rises_self : (v : Exponents) → rises_to v v ≡ false
unfolding rises_to
rises_self [] = refl
rises_self (a ∷ v) = rw (le-ltb a a (omega arith)) (rises_self v)

-- the first exponent decides, or the others do
rises_first : (a b : ℕ) (v w : Exponents) → rises_to (a ∷ v) (b ∷ w) ≡ true
    → (a < b) ⊎ ((a ≡ b) × (rises_to v w ≡ true))
unfolding rises_to
rises_first a b v w = go (ltb a b) refl (ltb b a) refl
  where
    go : (l : Bool) → ltb a b ≡ l → (g : Bool) → ltb b a ≡ g → cond l true (cond g false (rises_to v w)) ≡ true
        → (a < b) ⊎ ((a ≡ b) × (rises_to v w ≡ true))
    go true e g f h = inl (ltb-true a b e)
    go false e true f h = absurd (false≢true h)
    go false e false f h = let p = ltb-false a b e in let q = ltb-false b a f in inr (omega arith, h)

rises_cons : (a b : ℕ) (v w : Exponents) → (a < b) ⊎ ((a ≡ b) × (rises_to v w ≡ true)) → rises_to (a ∷ v) (b ∷ w) ≡ true
unfolding rises_to
rises_cons a b v w (inl l) = rw (lt-ltb a b l)
rises_cons a b v w (inr h) = let e = h.0 in rw (le-ltb a b (omega arith), le-ltb b a (omega arith)) h.1

-- what is above a point above another is above that other
pub rises_trans : (u v w : Exponents) → rises_to u v ≡ true → rises_to v w ≡ true → rises_to u w ≡ true
unfolding rises_to
rises_trans [] v w h k = absurd (false≢true h)
rises_trans (a ∷ u) [] w h k = absurd (false≢true h)
rises_trans (a ∷ u) (b ∷ v) [] h k = absurd (false≢true k)
rises_trans (a ∷ u) (b ∷ v) (c ∷ w) h k =
    rises_cons a c u w (go (rises_first a b u v h) (rises_first b c v w k) (rises_trans u v w))
  where
    go : (a < b) ⊎ ((a ≡ b) × (rises_to u v ≡ true)) → (b < c) ⊎ ((b ≡ c) × (rises_to v w ≡ true))
        → (rises_to u v ≡ true → rises_to v w ≡ true → rises_to u w ≡ true)
        → (a < c) ⊎ ((a ≡ c) × (rises_to u w ≡ true))
    go (inl l) (inl m) f = inl (omega arith)
    go (inl l) (inr m) f = let e = m.0 in inl (omega arith)
    go (inr l) (inl m) f = let e = l.0 in inl (omega arith)
    go (inr l) (inr m) f = inr (l.0 ∙ m.0, f l.1 m.1)

-- ---- bytes as exponents, and points by value that hold given exponents

pub bytes_length : (s : List ℕ) (at n : ℕ) → length (bytes_at s at n) ≡ n
unfolding bytes_at
bytes_length s at n = table_length (λ i. get_or s (at + i) 0) n

pub bytes_table : (s : List ℕ) (at n : ℕ) → bytes_at s at n ≡ table (λ i. get_or s (at + i) 0) n
unfolding bytes_at
bytes_table s at n = refl

pub bytes_get : (s : List ℕ) (at n i : ℕ) → i < n → get_or (bytes_at s at n) i 0 ≡ get_or s (at + i) 0
unfolding bytes_at
bytes_get s at n i h = table_get (λ j. get_or s (at + j) 0) 0 n i h

-- they are that part of the list
pub bytes_cut : (s : List ℕ) (at n : ℕ) → at + n ≤ length s → take (at + n - at) (drop at s) ≡ bytes_at s at n
bytes_cut s at n l =
    ext_get_or 0 (take (at + n - at) (drop at s)) (bytes_at s at n)
    (omega (arith, length-take (at + n - at) (drop at s), length-drop at s, bytes_length s at n))
    (λ i k. let j : i < n = omega (arith, length-take (at + n - at) (drop at s)) in
    get_or-take (at + n - at) (drop at s) i 0 (omega arith) ∙ get_or-drop at s i 0 ∙ sym (bytes_get s at n i j))

-- equal bytes are equal exponents
pub bytes_same : (s t : List ℕ) (at n : ℕ) → ((i : ℕ) → i < n → get_or s (at + i) 0 ≡ get_or t (at + i) 0)
    → bytes_at s at n ≡ bytes_at t at n
unfolding bytes_at
bytes_same s t at n h = table_same (λ i. get_or s (at + i) 0) (λ i. get_or t (at + i) 0) n h

-- the first m bytes, and those after them
pub bytes_split : (s : List ℕ) (at m n : ℕ) → bytes_at s at (m + n) ≡ bytes_at s at m ++ bytes_at s (at + m) n
unfolding bytes_at
bytes_split s at m n =
    table_split (λ i. get_or s (at + i) 0) m n
    ∙ ap (◌++◌ (table (λ i. get_or s (at + i) 0) m))
    (table_same _ (λ i. get_or s (at + m + i) 0) n (λ i l. rw (add_assoc at m i)))

pub bytes_eight : (s : List ℕ) (at : ℕ) → bytes_at s at 8
    ≡ get_or s (at + 0) 0 ∷ get_or s (at + 1) 0 ∷ get_or s (at + 2) 0 ∷ get_or s (at + 3) 0
    ∷ get_or s (at + 4) 0 ∷ get_or s (at + 5) 0 ∷ get_or s (at + 6) 0 ∷ get_or s (at + 7) 0 ∷ []
unfolding bytes_at table
bytes_eight s at = refl

pub exponents_of : (α : Exponents) → exponents (point_of α) ≡ α
unfolding exponents point_of padded
exponents_of α = take-append_seam α (replicate (most_variables - length α) 0)

pub zeros_get : (n j : ℕ) → get_or {A = ℕ} (replicate n 0) j 0 ≡ 0
zeros_get zero j = refl
zeros_get (suc n) zero = refl
zeros_get (suc n) (suc j) = zeros_get n j

-- numbers by an index, in the eight places: what is read back, and zeros after them
module _ (f : ℕ → ℕ) (n i : ℕ) where
  pub padded_get : i < n → get_or (padded (table f n)) i 0 ≡ f i
  unfolding padded
  padded_get l = get_or-append (table f n) _ 0 i (rw table_length l) ∙ table_get f 0 n i l

  pub padded_past : n ≤ i → get_or (padded (table f n)) i 0 ≡ 0
  unfolding padded
  padded_past l =
      let e : i ≡ length (table f n) + (i - n) = rw table_length (omega arith) in
      ap (λ (j : ℕ). get_or (padded (table f n)) j 0) e
      ∙ get_or-append-add (table f n) _ (i - n) 0 ∙ zeros_get (most_variables - length (table f n)) (i - n)

pub padded_set : (L : List ℕ) (v : ℕ) → length L < most_variables → set (padded L) (length L) v ≡ padded (L ++ (v ∷ []))
unfolding padded
padded_set L v h =
    let left : most_variables - length L ≡ suc (most_variables - suc (length L)) = omega arith in
    let more : length (L ++ (v ∷ [])) ≡ suc (length L) = length-append L (v ∷ []) ∙ omega arith in
    rw (left, more) (set_at L 0 (replicate (most_variables - suc (length L)) 0) v (length L) refl ∙ simp append_assoc)

module _ (f : ℕ → ℕ) where
  -- the loop `while i < n { e[i] = f(i); i += 1; }` over eight zeros
  pub filled_start : replicate most_variables 0 ≡ padded (table f 0)
  unfolding padded table
  filled_start = refl

  pub filled_next : (n i : ℕ) (e : List ℕ) (v : ℕ) → e ≡ padded (table f i) → i < n → n ≤ most_variables → v ≡ f i
      → set e i v ≡ padded (table f (i + 1))
  unfolding table
  filled_next n i e v h l m q =
      rw (h, q, add-one)
      (ap (λ (j : ℕ). set (padded (table f i)) j (f i)) (sym (table_length f i))
      ∙ padded_set (table f i) (f i) (rw table_length (omega arith)))

-- the constant's point
pub zeros_point : (n : ℕ) → n ≤ most_variables
    → record { exps = replicate most_variables 0; n = n } ≡ point_of (replicate n 0)
unfolding point_of padded
zeros_point n h =
    let e : n + (most_variables - n) ≡ most_variables = omega arith in
    rw (length-replicate {A = ℕ} n 0, replicate-append-replicate {A = ℕ} n (most_variables - n) 0, e)

-- its exponents are within any limit
pub zeros_within : (limit n : ℕ) → exponents_within limit (replicate n 0) ≡ true
unfolding exponents_within
zeros_within limit zero = refl
zeros_within limit (suc n) = rw (le-leb 0 limit (omega arith), zeros_within limit n)

-- ---- pure powers

module _ (n i e : ℕ) where
  pub pure_length : length (pure_at n i e) ≡ n
  unfolding pure_at
  pure_length = length-set (replicate n 0) i e ∙ length-replicate {A = ℕ} n 0

  pub pure_point : i < n → n ≤ most_variables
      → record { exps = set (replicate most_variables 0) i e; n = n } ≡ point_of (pure_at n i e)
  unfolding point_of padded pure_at
  pure_point l h =
      let k : n + (most_variables - n) ≡ most_variables = omega arith in
      let more : List ℕ = replicate (most_variables - n) 0 in
      let parts : replicate {A = ℕ} most_variables 0 ≡ replicate n 0 ++ more =
      rw (replicate-append-replicate {A = ℕ} n (most_variables - n) 0, k) in
      let inside : i < length (replicate {A = ℕ} n 0) = rw (length-replicate {A = ℕ} n 0) l in
      rw (length-set {A = ℕ} (replicate n 0) i e, length-replicate {A = ℕ} n 0)
      (ap (λ (x : List ℕ). record { exps = x; n = n })
      (ap (λ (x : List ℕ). set x i e) parts ∙ set-append_left (replicate n 0) more i e inside))

  pub pure_elsewhere : (j : ℕ) → (j ≡ i → ⊥) → get_or (pure_at n i e) j 0 ≡ 0
  unfolding pure_at
  pure_elsewhere j d = get_or-set_other (replicate n 0) i j e 0 d ∙ zeros_get n j

-- of the first variable, and of a later one
pub pure_first : (n e : ℕ) → pure_at (suc n) 0 e ≡ e ∷ replicate n 0
unfolding pure_at
pure_first n e = refl

pub pure_later : (n i e : ℕ) → pure_at (suc n) (suc i) e ≡ 0 ∷ pure_at n i e
unfolding pure_at
pure_later n i e = refl

-- with exponent 0 it is the constant
pub pure_none : (n i : ℕ) → pure_at n i 0 ≡ replicate n 0
unfolding pure_at
pure_none zero i = refl
pure_none (suc n) zero = refl
pure_none (suc n) (suc i) = ap (◌∷◌ 0) (pure_none n i)

pub pure_within : (limit n i e : ℕ) → e ≤ limit → exponents_within limit (pure_at n i e) ≡ true
unfolding exponents_within pure_at
pure_within limit zero i e h = refl
pure_within limit (suc n) zero e h = rw (le-leb e limit h) (zeros_within limit n)
pure_within limit (suc n) (suc i) e h = rw (le-leb 0 limit (omega arith)) (pure_within limit n i e h)

-- ---- one variable more

pub midpoint_none : (w : Exponents) → midpoint_of [] w ≡ []
unfolding midpoint_of
midpoint_none w = refl

pub within_more : (limit a : ℕ) (α : Exponents) → exponents_within limit (a ∷ α) ≡ true
    → (a ≤ limit) × (exponents_within limit α ≡ true)
unfolding exponents_within
within_more limit a α h =
    let q = (and-eq-true_iff (leb a limit) (list_all (λ b. leb b limit) α)).0 h in
    (leb-true a limit q.0, q.1)

-- what is within a limit is within a larger one
pub within_larger : (limit larger : ℕ) → limit ≤ larger → (α : Exponents) → exponents_within limit α ≡ true
    → exponents_within larger α ≡ true
unfolding exponents_within
within_larger limit larger l [] h = refl
within_larger limit larger l (a ∷ α) h =
    let q = within_more limit a α h in
    rw (le-leb a larger (omega (arith, q.0, l)), within_larger limit larger l α q.1)

module _ (a b : ℕ) (v w : Exponents) where
  pub midpoint_more : midpoint_of (a ∷ v) (b ∷ w) ≡ (a + b) / 2 ∷ midpoint_of v w
  unfolding midpoint_of
  midpoint_more = refl

  pub whole_more : has_midpoint (a ∷ v) (b ∷ w) ≡ true → ((a + b) % 2 ≡ 0) × (has_midpoint v w ≡ true)
  unfolding has_midpoint even_sum
  whole_more h =
      let q = (and-eq-true_iff (eqb ((a + b) % 2) 0) (pointwise even_sum v w)).0 h in
      (eqb-true ((a + b) % 2) 0 q.0, q.1)

-- points with a whole midpoint have as many variables
pub whole_sized : (v w : Exponents) → has_midpoint v w ≡ true → length v ≡ length w
unfolding has_midpoint
whole_sized [] [] h = refl
whole_sized [] (b ∷ w) h = absurd (false≢true h)
whole_sized (a ∷ v) [] h = absurd (false≢true h)
whole_sized (a ∷ v) (b ∷ w) h = ap suc (whole_sized v w (whole_more a b v w h).1)

-- ---- midpoints

pub midpoint_length : (v w : Exponents) → length (midpoint_of v w) ≡ min (length v) (length w)
unfolding midpoint_of
midpoint_length [] w = omega arith
midpoint_length (a ∷ v) [] = omega arith
midpoint_length (a ∷ v) (b ∷ w) = omega (arith, midpoint_length v w)

-- a midpoint has as many exponents as its ends
pub midpoint_sized : (v w : Exponents) (n : ℕ) → length v ≡ n → length w ≡ n → length (midpoint_of v w) ≡ n
midpoint_sized v w n h k = omega (arith, midpoint_length v w)

-- and no exponent over the limit of theirs
pub midpoint_within : (limit : ℕ) (v w : Exponents) → exponents_within limit v ≡ true → exponents_within limit w ≡ true
    → exponents_within limit (midpoint_of v w) ≡ true
unfolding exponents_within midpoint_of
midpoint_within limit [] w h k = refl
midpoint_within limit (a ∷ v) [] h k = refl
midpoint_within limit (a ∷ v) (b ∷ w) h k =
    let p = (and-eq-true_iff (leb a limit) (list_all (λ e. leb e limit) v)).0 h in
    let q = (and-eq-true_iff (leb b limit) (list_all (λ e. leb e limit) w)).0 k in
    let m : (a + b) / 2 ≤ limit = omega (arith, leb-true a limit p.0, leb-true b limit q.0) in
    rw (le-leb ((a + b) / 2) limit m, midpoint_within limit v w p.1 q.1)

-- where it is the constant's point, so are both
pub middle_constant : (n : ℕ) (v w : Exponents) → has_midpoint v w ≡ true → midpoint_of v w ≡ replicate n 0 → v ≡ w
unfolding has_midpoint midpoint_of
middle_constant n [] [] h e = refl
middle_constant n [] (b ∷ w) h e = absurd (false≢true h)
middle_constant n (a ∷ v) [] h e = absurd (false≢true h)
middle_constant zero (a ∷ v) (b ∷ w) h e = let k = ap (length {A = ℕ}) e in absurd (omega (arith, k))
middle_constant (suc n) (a ∷ v) (b ∷ w) h e =
    let q = whole_more a b v w h in
    let first : (a + b) / 2 ≡ 0 = ap (λ (l : List ℕ). get_or l 0 0) e in
    let rest : midpoint_of v w ≡ replicate n 0 = ap (λ (l : List ℕ). drop 1 l) e in
    ap₂ ◌∷◌ (omega (arith, q.0, first)) (middle_constant n v w q.1 rest)

-- ---- masks

-- bit i of what is left of a mask after its lowest bit
pub masked_more : (mask i : ℕ) → mask / 2 / 2 ^ i ≡ mask / 2 ^ suc i
masked_more mask i = let k : suc i ≡ 1 + i = omega arith in rw k (shr-shr mask 1 i)

-- the constant keeps its sign
pub constant_kept : (mask n : ℕ) → keeps_sign mask (replicate n 0) ≡ true
unfolding keeps_sign
constant_kept mask zero = refl
constant_kept mask (suc n) = rw (le-leb 0 (mask % 2) (omega arith), constant_kept (mask / 2) n)

-- without a mask: "every exponent is even"
pub keeps_even : (α : Exponents) → keeps_sign 0 α ≡ list_all (λ e. eqb (e % 2) 0) α
unfolding keeps_sign
keeps_even [] = refl
keeps_even (e ∷ α) = ap₂ ◌&&◌ (go (ℕ_discrete (e % 2) 0)) (keeps_even α)
  where
    go : Dec (e % 2 ≡ 0) → leb (e % 2) 0 ≡ eqb (e % 2) 0
    go (yes z) = rw z
    go (no d) = rw (lt-leb (e % 2) 0 (omega arith), ne_eqb (e % 2) 0 d)

-- one variable more, in words
module _ (mask e : ℕ) (α : Exponents) where
  pub odds_more : OddsMasked mask (e ∷ α) → (e % 2 ≤ mask % 2) × OddsMasked (mask / 2) α
  odds_more f = (go (ℕ_discrete (e % 2) 1), λ i l h. rw (masked_more mask i) (f (suc i) (omega arith) h))
    where
      go : Dec (e % 2 ≡ 1) → e % 2 ≤ mask % 2
      go (yes h) = let k = f 0 (omega arith) h in omega arith
      go (no h) = omega arith

  odds_cons : e % 2 ≤ mask % 2 → OddsMasked (mask / 2) α → OddsMasked mask (e ∷ α)
  odds_cons b f zero l h = omega arith
  odds_cons b f (suc i) l h = rw (← (masked_more mask i)) (f i (omega arith) h)

-- the test holds exactly where the words do
pub keeps_means : (mask : ℕ) (α : Exponents) → (keeps_sign mask α ≡ true) ↔ OddsMasked mask α
unfolding keeps_sign
keeps_means mask [] = (λ t i l h. absurd (omega arith), λ f. refl)
keeps_means mask (e ∷ α) =
    let both = and-eq-true_iff (leb (e % 2) (mask % 2)) (keeps_sign (mask / 2) α) in
    let rest = keeps_means (mask / 2) α in (
      λ t. odds_cons mask e α (leb-true (e % 2) (mask % 2) (both.0 t).0) (rest.0 (both.0 t).1),
      λ f. let q = odds_more mask e α f in both.1 (le-leb (e % 2) (mask % 2) q.0, rest.1 q.1),
    )

-- a number without bits is 0
no_bits : (m k : ℕ) → m ≤ k → ((i : ℕ) → Masked m i → ⊥) → m ≡ 0
no_bits m zero l f = omega arith
no_bits m (suc k) l f =
    let half = no_bits (m / 2) k (omega arith) (λ i h. f (suc i) (rw (masked_more m i) at h)) in
    go (ℕ_discrete (m % 2) 1) half
  where
    go : Dec (m % 2 ≡ 1) → m / 2 ≡ 0 → m ≡ 0
    go (yes h) e = absurd (f 0 (omega arith))
    go (no h) e = omega arith

-- above n bits nothing is left exactly where there is no bit
module _ (m n : ℕ) where
  none_above : m / 2 ^ n ≡ 0 → (i : ℕ) → n ≤ i → Masked m i → ⊥
  none_above h i l t =
      let e : i ≡ n + (i - n) = omega arith in
      let k = rw (e, ← (shr-shr m n (i - n)), h, zero-div (2 ^ (i - n))) at t in
      omega arith

  above_none : ((i : ℕ) → n ≤ i → Masked m i → ⊥) → m / 2 ^ n ≡ 0
  above_none f =
      no_bits (m / 2 ^ n) (m / 2 ^ n) (omega arith) (λ i h. f (n + i) (omega arith) (rw (shr-shr m n i) at h))

  pub rest_means : (m / 2 ^ n ≡ 0) ↔ ((i : ℕ) → n ≤ i → Masked m i → ⊥)
  rest_means = (none_above, above_none)
