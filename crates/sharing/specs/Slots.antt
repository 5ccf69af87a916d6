-- The slots of a proof sheet, and those at one point tallied.
use Rattle.std.specs.Prelude.{Bool, cond, ◌≡◌, List, [], ◌∷◌, ℕ, ◌+◌, ◌^◌, ◌≤◌, eqb, ltb, ℤ, pos, nat_abs, ◌+ℤ◌}
use Rattle.points.specs.Lists.{table}
use Rattle.points.specs.Points.{Exponents}
use Rattle.keys.specs.Keys.{key_of}
use Rattle.squares.specs.Sums.{Sum}
use Rattle.squares.specs.Rows.{slots_of, slots}
use Rattle.sheets.specs.declared.layout.Shape.{Shape}
use Rattle.rows.specs.ProofSheet.{row_of}
use Rattle.targets.specs.Carried.{Carried}
use Rattle.sharing.specs.Sharing.{count}
use Rattle.sharing.specs.declared.slots.Holding.{Holding}
use Rattle.sharing.specs.declared.slots.Tally.{Tally}

-- the slots of the first i rows
unfoldable pub slots_to : List ℕ → Shape → ℕ → Sum
slots_to s shape i = slots (table (row_of s shape) i)

-- row i has a slot at a point
unfoldable pub holds_point : List ℕ → Shape → Exponents → ℕ → Bool
holds_point s shape α i = ltb 0 (count α (slots_of (row_of s shape i)))

-- the answer that row i gives for a key: whether it has a slot at the point with that key
pub record HoldsKey (s : List ℕ) (shape : Shape) (key i : ℕ) (answer : Bool) : Type 0 where
  pub holds : (α : Exponents) → Carried shape.n α → key ≡ key_of α → answer ≡ holds_point s shape α i

-- the number that is answered for a key: how many slots there are at the point with that key
pub record CountsKey (s : List ℕ) (shape : Shape) (key answer : ℕ) : Type 0 where
  pub counts : (α : Exponents) → Carried shape.n α → key ≡ key_of α → answer ≡ count α (slots_to s shape shape.k)

-- ---- tallies by keys, as the code counts: `held_at` of proofs/slots/Laws.antt shows that they are those at the point

-- a tally that leaves room for more: 768 slots of the greatest weight stay far below
pub record Small (a : Tally) : Type 0 where
  pub sum_small : nat_abs a.sum ≤ 2 ^ 42
  pub count_small : a.count ≤ 2 ^ 20

-- one slot more, of weight x
unfoldable pub more : ℤ → Tally → Tally
more x a = record { sum = a.sum +ℤ x; count = a.count + 1 }

-- the same, where the slot is at the point
unfoldable pub added : Bool → ℤ → Tally → Tally
added hit x a = cond hit (more x a) a

-- how many bytes after a row's first weight the one at its second end stands, or else the one at its midpoint
abbrev pub step_to : Bool → ℕ
step_to second = cond second 4 8

-- what was tallied, and the slots whose point has the key
unfoldable pub tally_from : ℕ → Tally → Sum → Tally
tally_from key a [] = a
tally_from key a (t ∷ L) = tally_from key (added (eqb key (key_of t.0)) t.1 a) L

unfoldable pub tally_of : ℕ → Sum → Tally
tally_of key L = tally_from key (record { sum = pos 0; count = 0 }) L

-- the tally of all slots L, and a slot's rank: those before its row, and so many of its own row
unfoldable pub holding_of : ℕ → Sum → Sum → ℕ → Holding
holding_of key L before own = record {
  sum = (tally_of key L).sum;
  count = (tally_of key L).count;
  rank = (tally_of key before).count + own;
}
