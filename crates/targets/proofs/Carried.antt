-- Points that a sheet can hold: the terms', the constant and low pure powers; two of them are the same where their keys
-- are.
use mathlib.Core.Path.{◌≡◌, sym, ◌∙◌}
use mathlib.Core.List.{List}
use Prim.Native.Nat.{ℕ, ◌*◌, ◌^◌, ◌<◌, ◌≤◌}
use lib.Dec.{eqb, lit<}
use lib.ListN.{replicate, length-replicate}
use Rattle.bounds.specs.Bounds.{greatest_exponent, most_variables}
use Rattle.points.specs.Points.{Exponents, same_point, pure_at}
use Rattle.points.proofs.points.Laws.{zeros_within, pure_length, pure_within}
use Rattle.keys.specs.Keys.{key_of}
use Rattle.keys.proofs.keys.Laws.{Below, within_below, key_same, key_low}
use Rattle.sheets.specs.ClaimSheet.{term_point}
use Rattle.sheets.proofs.claim_sheet.Laws.{point_length}
use Rattle.claims.specs.ClaimChecks.{ClaimFacts}
use Rattle.targets.specs.Carried.{Carried}

-- ---- which they are

pub term_carried : (c : List ℕ) (n t i : ℕ) → ClaimFacts c n t → i < t → Carried n (term_point c n i)
term_carried c n t i f l = record { sized = point_length c n i; within = f.exponent_within i l }

pub pure_carried : (n i e : ℕ) → e ≤ greatest_exponent → Carried n (pure_at n i e)
pure_carried n i e h = record { sized = pure_length n i e; within = pure_within greatest_exponent n i e h }

pub constant_carried : (n : ℕ) → Carried n (replicate n 0)
constant_carried n = record { sized = length-replicate {A = ℕ} n 0; within = zeros_within greatest_exponent n }

-- ---- compared by their keys

below : (n bound : ℕ) (α : Exponents) → greatest_exponent < bound → Carried n α → Below bound α
below n bound α h c = within_below greatest_exponent bound α h c.within

-- every exponent is a byte
pub carried_below : (n : ℕ) (α : Exponents) → Carried n α → Below 256 α
carried_below n α h = below n 256 α (lit< tt) h

pub carried_same : (n : ℕ) (α β : Exponents) → Carried n α → Carried n β → eqb (key_of α) (key_of β) ≡ same_point α β
carried_same n α β h k =
    key_same α β (h.sized ∙ sym k.sized) (carried_below n α h) (carried_below n β k)

-- the sum of two keys has 64 bits
pub carried_low : (n : ℕ) (α : Exponents) → n ≤ most_variables → Carried n α → key_of α * 2 < 2 ^ 64
carried_low n α few h = key_low α (rw h.sized few) (below n 128 α (lit< tt) h)
