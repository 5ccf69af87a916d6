-- Laws of searches: the loop that looks for the first index at which something is wrong,
-- and what it says of every index.
use Rattle.std.proofs.Common.{Option, Some, None}
use mathlib.Core.Path.{◌≡◌, refl, sym, ◌∙◌}
use mathlib.Core.Bool.{Bool, true, false}
use mathlib.Core.Logic.{⊎_elim}
use Prim.Native.Nat.{ℕ, zero, suc, ◌+◌, ◌<◌, ◌≤◌}
use native.Mathlib.Decide.{le_ind}
use native.Mathlib.Nat.{eq-or-lt_of_le, le_of_suc-le-suc}
use native.Mathlib.Numerals.{add-one}
use native.Mathlib.Omega.{arith}
use Rattle.integers.proofs.Tests.{never}
use Rattle.answers.specs.Searches.{kept, first}

-- one index more: what was found is kept
kept_at : (j : ℕ) (b : Bool) (i : ℕ) → kept (Some j) b i ≡ Some j
unfolding kept
kept_at j b i = refl

pub kept_past : (f : Option ℕ) (i : ℕ) → kept f false i ≡ f
unfolding kept
kept_past (Some j) i = refl
kept_past None i = refl

module _ (wrong : ℕ → Bool) where
  pub first_start : first wrong 0 ≡ None
  unfolding first
  first_start = refl

  pub first_more : (i : ℕ) → first wrong (suc i) ≡ kept (first wrong i) (wrong i) i
  unfolding first
  first_more i = refl

  pub first_here : (i : ℕ) → first wrong i ≡ None → wrong i ≡ true → first wrong (suc i) ≡ Some i
  unfolding kept
  first_here i h k = rw (first_more, h, k)

  pub first_stays : (n i : ℕ) → first wrong n ≡ Some i → first wrong (suc n) ≡ Some i
  unfolding kept
  first_stays n i h = rw (first_more, h)

  first_later : (m n i : ℕ) → m ≤ n → first wrong m ≡ Some i → first wrong n ≡ Some i
  first_later m n i l h = le_ind (λ m. first wrong m ≡ Some i) h (λ m _. first_stays m i) n l

  pub first_found : (n i : ℕ) → i < n → first wrong i ≡ None → wrong i ≡ true → first wrong n ≡ Some i
  first_found n i l h k = first_later (suc i) n i l (first_here i h k)

  -- indices after n at which nothing is wrong, where nothing was wrong before, add nothing
  pub first_past : (n k : ℕ) → ((i : ℕ) → first wrong n ≡ None → n ≤ i → wrong i ≡ false)
      → first wrong (n + k) ≡ first wrong n
  first_past n zero f = let e : n + 0 ≡ n = omega arith in rw e
  first_past n (suc k) f =
      let e : n + suc k ≡ suc (n + k) = omega arith in
      rw e (first_more (n + k) ∙ rw (first_past n k f) (go (first wrong n) refl))
    where
      go : (x : Option ℕ) → first wrong n ≡ x → kept x (wrong (n + k)) (n + k) ≡ x
      go (Some j) e = kept_at j (wrong (n + k)) (n + k)
      go None e = rw (f (n + k) e (omega arith)) (kept_past None (n + k))

  -- a loop over the indices that stops at the first one, where r is what the test of index i answered
  pub first_stop : (n i : ℕ) (r : Bool) → i < n → first wrong i ≡ None → r ≡ wrong i → r ≡ true
      → Some i ≡ first wrong n
  first_stop n i r l h e k = sym (first_found n i l h (sym e ∙ k))

  pub first_next : (i : ℕ) (r : Bool) → first wrong i ≡ None → r ≡ wrong i → r ≡ false
      → first wrong (i + 1) ≡ None
  unfolding kept
  first_next i r h e k = rw (add-one, first_more, h, sym e ∙ k)

-- two tests that agree below n find the same
pub first_same : (f g : ℕ → Bool) (n : ℕ) → ((i : ℕ) → i < n → f i ≡ g i) → first f n ≡ first g n
unfolding first
first_same f g zero h = refl
first_same f g (suc n) h = rw (first_same f g n (λ i l. h i (omega arith)), h n (omega arith))

-- where nothing is wrong at any index below n there is none
pub all_right : (wrong : ℕ → Bool) (n : ℕ) → ((i : ℕ) → i < n → wrong i ≡ false) → None ≡ first wrong n
unfolding first kept
all_right wrong zero h = refl
all_right wrong (suc n) h = rw (← all_right wrong n (λ i l. h i (omega arith)), h n (omega arith))

-- and where there is none, nothing is wrong at any index
none_before : (wrong : ℕ → Bool) (n : ℕ) → first wrong (suc n) ≡ None → (first wrong n ≡ None) × (wrong n ≡ false)
none_before wrong n h = go (first wrong n) (wrong n) refl refl
  where
    go : (f : Option ℕ) (b : Bool) → first wrong n ≡ f → wrong n ≡ b → (first wrong n ≡ None) × (wrong n ≡ false)
    go (Some i) b e k = let s = first_stays wrong n i e in never (cc)
    go None true e k = let s = first_here wrong n e k in never (cc)
    go None false e k = (e, k)

pub none_wrong : (wrong : ℕ → Bool) (n : ℕ) → first wrong n ≡ None → (i : ℕ) → i < n → wrong i ≡ false
none_wrong wrong zero h i l = absurd (omega arith)
none_wrong wrong (suc n) h i l =
    ⊎_elim
    (λ e. rw e (none_before wrong n h).1)
    (λ m. none_wrong wrong n (none_before wrong n h).0 i m)
    (eq-or-lt_of_le (le_of_suc-le-suc l))

-- what is found is below n, and something is wrong there
pub first_inside : (wrong : ℕ → Bool) (n i : ℕ) → first wrong n ≡ Some i → (i < n) × (wrong i ≡ true)
unfolding first
first_inside wrong zero i h = never (cc)
first_inside wrong (suc n) i h = go (first wrong n) (wrong n) refl refl (first_inside wrong n i)
  where
    go : (f : Option ℕ) (b : Bool) → first wrong n ≡ f → wrong n ≡ b
        → (first wrong n ≡ Some i → (i < n) × (wrong i ≡ true))
        → (i < suc n) × (wrong i ≡ true)
    go (Some j) b e k below =
        let s = first_stays wrong n j e in
        let q : j ≡ i = cc in
        let r = below (rw q at e) in (omega arith, r.1)
    go None true e k below =
        let s = first_here wrong n e k in
        let q : n ≡ i = cc in
        (omega arith, rw (← q) k)
    go None false e k below =
        let s : first wrong (suc n) ≡ None = rw add-one at (first_next wrong n false e (sym k) refl) in
        never (cc)

-- and nothing is wrong before it
pub first_before : (wrong : ℕ → Bool) (n i : ℕ) → first wrong n ≡ Some i → first wrong i ≡ None
first_before wrong n i h = go (first wrong i) refl
  where
    go : (f : Option ℕ) → first wrong i ≡ f → f ≡ None
    go None e = refl
    go (Some j) e =
        let i_below : i < n = (first_inside wrong n i h).0 in
        let j_below : j < i = (first_inside wrong i j e).0 in
        let later = first_later wrong i n j (omega arith) e in
        let q : j ≡ i = cc in
        absurd (omega arith)
