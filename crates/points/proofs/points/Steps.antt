-- The steps of the functions over points: what the library's walks over slices say of exponents, the loop along a mask,
-- and those that fill eight places.
use mathlib.Core.Path.{◌≡◌, refl, sym, ◌∙◌, ap}
use mathlib.Core.Logic.{◌↔◌}
use mathlib.Core.Bool.{Bool, true, false, cond, ◌&&◌}
use mathlib.Core.List.{List, [], ◌∷◌, ◌++◌}
use Prim.Native.Nat.{ℕ, zero, suc, ◌+◌, ◌-◌, ◌/◌, ◌%◌, ◌<◌, ◌≤◌, min}
use native.Mathlib.Omega.{arith}
use native.Mathlib.Numerals.{add-one}
use lib.Dec.{ltb}
use lib.ListN.{length, get_or, take, drop, replicate, set, length-take, drop_of_length-le}
use lib.Seq.{drop-cons}
use borrow.Author.Tests.{le-leb, lt-leb}
use Rattle.std.proofs.lemmas.List.{drop-replicate, length-take-le}
use Rattle.std.proofs.lemmas.Bool.Decides.{nat_tests}
use Rattle.std.specs.List.{list_all, zip}
use Rattle.std.proofs.Common.{Ordering}
use Rattle.std.specs.Ordering.{nat_cmp, is_lt, ordering_then}
use Rattle.std.specs.Cmp.Lexicographic.{slice_cmp}
use Rattle.bounds.specs.Bounds.{most_variables}
use Rattle.points.specs.Points.{even_sum, Exponents, exponents, padded, point_of, bytes_at, rises_to, midpoint_of, OddsMasked, keeps_sign, has_midpoint}
use Rattle.points.specs.declared.points.Point.{Point}
use Rattle.points.proofs.points.Laws.{Places, keeps_means, whole_sized, padded_set, midpoint_length, midpoint_sized, bytes_length, bytes_cut}

-- ---- points by value

pub exponents_length : (p : Point) → Places p.exps → length (exponents p) ≡ min p.n most_variables
unfolding exponents
exponents_length p eight = omega (arith, length-take p.n p.exps)

-- ---- tests over exponents

-- points with as many variables, and others
pub all_whole : (v w : Exponents) → length v ≡ length w → has_midpoint v w ≡ list_all (λ p. even_sum p.0 p.1) (zip v w)
unfolding has_midpoint
all_whole [] [] h = refl
all_whole [] (b ∷ w) h = absurd (omega arith)
all_whole (a ∷ v) [] h = absurd (omega arith)
all_whole (a ∷ v) (b ∷ w) h = ap (◌&&◌ (even_sum a b)) (all_whole v w (omega arith))

pub unlike_whole : (v w : Exponents) → (length v ≡ length w → ⊥) → has_midpoint v w ≡ false
unlike_whole v w d = go (has_midpoint v w) (whole_sized v w)
  where
    go : (b : Bool) → (b ≡ true → length v ≡ length w) → b ≡ false
    go true f = absurd (d (f refl))
    go false f = refl

pub ruleset whole = (all_whole, unlike_whole)

-- the code compares as far as both go
pub cut_rises : (v w : Exponents) (n : ℕ) → n ≡ min (length v) (length w)
    → is_lt (slice_cmp nat_cmp (take n v) (take n w)) ≡ rises_to v w
unfolding rises_to
cut_rises [] w n h = let e : n ≡ 0 = omega arith in rw e
cut_rises (a ∷ v) [] n h = let e : n ≡ 0 = omega arith in rw e
cut_rises (a ∷ v) (b ∷ w) zero h = absurd (omega arith)
cut_rises (a ∷ v) (b ∷ w) (suc n) h =
    rw (← (cut_rises v w n (omega arith))) (first (slice_cmp nat_cmp (take n v) (take n w)))
  where
    first : (o : Ordering)
        → is_lt (ordering_then (nat_cmp a b) o) ≡ cond (ltb a b) true (cond (ltb b a) false (is_lt o))
    first o = grind (arith, nat_tests)

-- ---- masks

-- r is what the loop answers, as a test and in words
module _ (mask : ℕ) (α : Exponents) where
  abbrev Signs : Bool → Type 0
  Signs r = (r ≡ keeps_sign mask α) × ((r ≡ true) ↔ OddsMasked mask α)

  answered : (r : Bool) → r ≡ keeps_sign mask α → Signs r
  answered r e = (e, rw e (keeps_means mask α))

  -- the ways through the loop: x is the exponents, and `rest` what is left of the mask at place i
  module _ (x : List ℕ) (rest i : ℕ) (ex : x ≡ α) (e : keeps_sign mask α ≡ keeps_sign rest (drop i x)) where
    pub sign_on : i < length x → get_or x i 0 % 2 ≤ rest % 2
        → keeps_sign mask α ≡ keeps_sign (rest / 2) (drop (i + 1) x)
    unfolding keeps_sign
    sign_on h t = e ∙ rw (drop-cons x i 0 h, add-one, le-leb _ _ t)

    pub sign_lost : i < length x → rest % 2 < get_or x i 0 % 2 → Signs false
    unfolding keeps_sign
    sign_lost h t = answered false (sym (e ∙ rw (drop-cons x i 0 h, lt-leb _ _ t)))

    pub sign_kept : length x ≤ i → Signs true
    unfolding keeps_sign
    sign_kept h = answered true (sym (e ∙ rw (drop_of_length-le x {i = i} h)))

pub ruleset signs = (sign_on, sign_lost, sign_kept)

-- ---- stores into the eight places

-- n bytes copied over the first of eight zeros
pub copied : (s : List ℕ) (at n : ℕ) (x : List ℕ) → x ≡ take (at + n - at) (drop at s) → at + n ≤ length s
    → record { exps = x ++ drop n (replicate most_variables 0); n = n } ≡ point_of (bytes_at s at n)
unfolding point_of padded
copied s at n x e l = rw (e, bytes_cut s at n l, drop-replicate {X = ℕ} n most_variables 0, bytes_length s at n)

-- ---- midpoints

midpoint_on : (v w : Exponents) (i : ℕ) → i < length v → i < length w
    → midpoint_of (take (suc i) v) (take (suc i) w)
    ≡ midpoint_of (take i v) (take i w) ++ ((get_or v i 0 + get_or w i 0) / 2 ∷ [])
unfolding midpoint_of
midpoint_on [] w i h k = absurd (omega arith)
midpoint_on (a ∷ v) [] i h k = absurd (omega arith)
midpoint_on (a ∷ v) (b ∷ w) zero h k = refl
midpoint_on (a ∷ v) (b ∷ w) (suc i) h k = ap (◌∷◌ ((a + b) / 2)) (midpoint_on v w i (omega arith) (omega arith))

midpoint_cut : (v w : Exponents) (n : ℕ) → n ≡ min (length v) (length w)
    → midpoint_of (take n v) (take n w) ≡ midpoint_of v w
unfolding midpoint_of
midpoint_cut [] w n h = let e : n ≡ 0 = omega arith in rw e
midpoint_cut (a ∷ v) [] n h = let e : n ≡ 0 = omega arith in rw e
midpoint_cut (a ∷ v) (b ∷ w) zero h = absurd (omega arith)
midpoint_cut (a ∷ v) (b ∷ w) (suc n) h = ap (◌∷◌ ((a + b) / 2)) (midpoint_cut v w n (omega arith))

-- before the first place of the loop over both, from place i to the next, and past the last
pub halves_start : padded (midpoint_of [] []) ≡ replicate most_variables 0
unfolding padded midpoint_of
halves_start = refl

module _ (v w : Exponents) where
  pub halves_next : (i : ℕ) → i < length v → i < length w → i < most_variables
      → set (padded (midpoint_of (take i v) (take i w))) i ((get_or v i 0 + get_or w i 0) / 2)
      ≡ padded (midpoint_of (take (i + 1) v) (take (i + 1) w))
  halves_next i h k l =
      let n : length (midpoint_of (take i v) (take i w)) ≡ i =
      midpoint_sized (take i v) (take i w) i (length-take-le i v (omega arith)) (length-take-le i w (omega arith))
      in
      rw (add-one, midpoint_on v w i h k)
      (ap (λ (j : ℕ). set (padded (midpoint_of (take i v) (take i w))) j ((get_or v i 0 + get_or w i 0) / 2)) (sym n)
      ∙ padded_set (midpoint_of (take i v) (take i w)) ((get_or v i 0 + get_or w i 0) / 2) (omega arith))

  pub halves_end : point_of (midpoint_of v w)
      ≡ record {
        exps = padded (midpoint_of (take (min (length v) (length w)) v) (take (min (length v) (length w)) w));
        n = min (length v) (length w);
      }
  unfolding point_of
  halves_end = rw (midpoint_cut v w (min (length v) (length w)) refl, midpoint_length)

pub ruleset halves = (halves_start, halves_next, halves_end)
