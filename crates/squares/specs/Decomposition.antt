-- Decomposition: rows that hold, and whose weights add up to the target at every point.
use Rattle.std.specs.Prelude.{◌≡◌, List, true, ℕ, ◌<◌, ℤ, length}
use Rattle.points.specs.Lists.{All}
use Rattle.points.specs.Points.{Exponents, has_midpoint}
use Rattle.squares.specs.Sums.{Sum, coefficient}
use Rattle.squares.specs.Rows.{Row, slots, Holds}
use Rattle.squares.specs.Domains.{Domain}
use Rattle.squares.specs.Targets.{lowered, target}
use Rattle.squares.specs.declared.rows.Weights.{Weights}
use Rattle.squares.specs.declared.rows.Weights.TheVariants.{Pair, Lone}

-- every point of a sum has n exponents
abbrev pub Sized : ℕ → Sum → Type 0
Sized n L = All (λ t. length t.0 ≡ n) L

-- a pair's ends have a whole midpoint
abbrev pub Whole : Exponents → Exponents → Weights → Type 0
Whole v w (Pair p q r) = has_midpoint v w ≡ true
Whole v w (Lone p) = Unit {0}

-- a row's two points have n exponents, and a pair's a whole midpoint
pub record Placed (n : ℕ) (a : Row) : Type 0 where
  pub v_length : length a.v ≡ n
  pub w_length : length a.w ≡ n
  pub whole : Whole a.v a.w a.weights

-- "at each point of n exponents, held or not, the sum over its slots (0 where there is none) equals the target there";
-- τ gives each point's target
abbrev pub AddsUp : ℕ → (Exponents → ℤ) → Sum → Type 0
AddsUp n τ L = (α : Exponents) → length α ≡ n → coefficient α L ≡ τ α

-- "every row holds and the weights add up to the target at every point"
pub record Decomposition (D : Domain) (S : ℕ) (b : ℤ) (f : Sum) (rows : List Row) : Type 0 where
  pub scale : 0 < S
  pub sized : Sized D.n f
  pub placed : All (Placed D.n) rows
  pub hold : All (λ a. Holds a.weights) rows
  pub adds_up : AddsUp D.n (target D S (lowered D.n b f)) (slots rows)
