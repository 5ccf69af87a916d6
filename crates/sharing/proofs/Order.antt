-- Sums and numbers of slots are the same in any order of rows, since both add up over slots.
use mathlib.Core.Path.{◌≡◌, ap}
use mathlib.Core.List.{List, ◌++◌}
use lib.IntN.{pos, nat_abs, ◌+ℤ◌}
use Rattle.points.specs.Lists.{Reordered}
use Rattle.points.specs.Points.{Exponents}
use Rattle.squares.specs.Sums.{Sum, gathered, coefficient}
use Rattle.squares.specs.Rows.{Row, slots_of}
use Rattle.squares.proofs.Sums.{coefficient_append, gathered_reordered}
use Rattle.rows.specs.ProofSheet.{rows_of}
use Rattle.sharing.specs.Sharing.{count, error_at}
use Rattle.sharing.specs.Order.{AnyOrder}
use Rattle.sharing.proofs.Sharing.{count_append}

count_adds : (α : Exponents) (L M : Sum) → pos (count α (L ++ M)) ≡ pos (count α L) +ℤ pos (count α M)
count_adds α L M = rw (count_append α L M)

module _ (A : Type 0) (own : A → Sum) (rows others : List A) (h : Reordered rows others) (α : Exponents) where
  same_sum : coefficient α (gathered own rows) ≡ coefficient α (gathered own others)
  same_sum = gathered_reordered own (coefficient α) (coefficient_append α) rows others h

  same_count : count α (gathered own rows) ≡ count α (gathered own others)
  same_count = ap nat_abs (gathered_reordered own (λ L. pos (count α L)) (count_adds α) rows others h)

pub any_order : AnyOrder
unfolding error_at
any_order = record {
  sums = same_sum;
  counts = same_count;
  errors = λ s s' h τ α. rw (same_sum Row slots_of (rows_of s) (rows_of s') h α);
}
