-- Rows in another order: at every point their slots weigh the same together, and are as many. Shares are another
-- matter, since they go by rank: H with two rows exchanged stands in the worked list, and is refused.
use Rattle.std.specs.Prelude.{◌≡◌, List, ℕ, ℤ}
use Rattle.points.specs.Lists.{Reordered}
use Rattle.points.specs.Points.{Exponents}
use Rattle.squares.specs.Sums.{Sum, gathered, coefficient}
use Rattle.squares.specs.Rows.{slots}
use Rattle.rows.specs.ProofSheet.{rows_of}
use Rattle.sharing.specs.Sharing.{count, error_at}

-- what does not go by the order of rows
pub record AnyOrder : Type 1 where
  -- "a point's sum is the same in whatever order the rows stand", whatever a row is: `own` gives the slots of one
  pub sums : (A : Type 0) (own : A → Sum) (rows others : List A) → Reordered rows others
      → (α : Exponents) → coefficient α (gathered own rows) ≡ coefficient α (gathered own others)
  -- and so is the number of slots there
  pub counts : (A : Type 0) (own : A → Sum) (rows others : List A) → Reordered rows others
      → (α : Exponents) → count α (gathered own rows) ≡ count α (gathered own others)
  -- so two proof sheets with the same rows in another order have the same error at every point, under one target
  pub errors : (s s' : List ℕ) → Reordered (rows_of s) (rows_of s')
      → (τ : Exponents → ℤ) (α : Exponents) → error_at τ (slots (rows_of s)) α ≡ error_at τ (slots (rows_of s')) α
