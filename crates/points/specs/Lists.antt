-- Lists of anything: by an index, what holds of every element, and in another order.
use Rattle.std.specs.Prelude.{◌≡◌, List, [], ◌∷◌, ◌++◌, ℕ, zero, suc}

-- f 0, f 1, .. below n
unfoldable pub table : {A : Type 0} → (ℕ → A) → ℕ → List A
table f zero = []
table f (suc n) = table f n ++ (f n ∷ [])

-- P holds of every element
abbrev pub All : {A : Type 0} → (A → Type 0) → List A → Type 0
All P [] = Unit {0}
All P (a ∷ l) = P a × All P l

-- a permutation, the same elements in some order: the first stands somewhere in the other list, and the rest are a
-- reordering of what stands before and after it there
abbrev pub Reordered : {A : Type 0} → List A → List A → Type 0
Reordered [] others = others ≡ []
Reordered {A} (a ∷ rest) others =
    (before : List A) × (after : List A) × (others ≡ before ++ (a ∷ after)) × Reordered rest (before ++ after)
