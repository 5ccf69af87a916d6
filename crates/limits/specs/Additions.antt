-- What the limits add to the target at a point, by its key, as the code finds it: `additions_are` of
-- proofs/additions/Laws.antt shows that it is what `limit_sum` weighs there.
use Rattle.std.specs.Prelude.{cond, ℕ, zero, suc, ◌*◌, ◌^◌, eqb, ℤ, pos, neg_ℤ, ◌+ℤ◌}
use Rattle.squares.specs.declared.limits.Limit.{Limit}
use Rattle.limits.specs.LimitsSheet.{limit_in}
use Rattle.limits.specs.declared.limits_sheet.Limits.{Limits}

-- the limit of variable i: "The constant target falls by m × L^power; the target at that pure power rises by m"
unfoldable pub limit_adds : Limit → ℕ → ℕ → ℤ
limit_adds l i key =
    cond (eqb l.power 0) (pos 0)
    (cond (eqb key 0) (neg_ℤ (pos (l.multiplier * l.bound ^ l.power)))
    (cond (eqb key (l.power * 2 ^ (8 * i))) (pos l.multiplier) (pos 0)))

-- the limits of the first k variables
unfoldable pub limits_add : Limits → ℕ → ℕ → ℤ
limits_add limits key zero = pos 0
limits_add limits key (suc k) = limits_add limits key k +ℤ limit_adds (limit_in limits k) k key
