-- The trial of one floor: the tests of 16 to 19 in cyclic order, begun at any of them. `cycle_passed` and
-- `cycle_failed` of proofs/trials/Laws.antt show that none fails exactly where 16 to 19 are passed.
use Rattle.std.specs.Prelude.{Bool, cond, not, List, ℕ, ◌+◌, ◌-◌, ltb}
use Rattle.sheets.specs.Layout.{variables, term_count, row_count}
use Rattle.targets.specs.Targets.{target_of}
use Rattle.targets.specs.declared.targets.Aim.{Aim}
use Rattle.sharing.specs.Shifts.{shifted_row}
use Rattle.judgements.specs.Judgements.{judged_as}
use Rattle.weighing.specs.Unheld.{point_count, unheld}

-- the points that 16 looks at
abbrev pub points : List ℕ → ℕ
points c = point_count (variables c) (term_count c)

unfoldable pub test_count : List ℕ → List ℕ → ℕ
test_count c s = points c + row_count s

-- test i fails: point i is unheld, or after the points a row is not judged to hold; the limit is that of 17
unfoldable pub fails : ℕ → List ℕ → List ℕ → Aim → ℕ → Bool
fails limit c s a i =
    cond (ltb i (points c)) (unheld c s a i)
    (not (judged_as 0 limit (shifted_row (target_of c a) s) (i - points c)))

-- the i-th of n tests from one on; after the last comes the first
unfoldable pub rotated : ℕ → ℕ → ℕ → ℕ
rotated n from i = cond (ltb (from + i) n) (from + i) (from + i - n)

unfoldable pub fails_from : ℕ → List ℕ → List ℕ → Aim → ℕ → ℕ → Bool
fails_from limit c s a from i = fails limit c s a (rotated (test_count c s) from i)
