-- The step of is_indefinite: products of weights fit.
use mathlib.Core.Path.{◌≡◌, ◌∙◌}
use Prim.Native.Nat.{ℕ, ◌*◌, ◌^◌, ◌≤◌}
use native.Mathlib.Nat.{mul-le-mul}
use lib.Dec.{lit<}
use lib.IntN.{ℤ, pos, nat_abs, ◌*ℤ◌}
use lib.Signed.{lt_z}
use mir.Syntax.{w64}
use mir.Val.{SFits}
use mir.Facts.{to_z-of_z}
use Rattle.integers.proofs.Integers.{back, abs_mul, fits_within}
use Rattle.bounds.specs.Bounds.{greatest_weight}
use Rattle.rows.specs.declared.proof_sheet.Triple.{Triple}
use Rattle.checks.specs.ProofChecks.{Within}

module _ (x : Triple) (w : Within greatest_weight x) where
  weight_back : (z : ℤ) → nat_abs z ≤ greatest_weight → back z ≡ z
  weight_back z h = to_z-of_z {w = w64} (fits_within z greatest_weight h (lit< (tt {0})))

  product_small : (y z : ℤ) → nat_abs y ≤ greatest_weight → nat_abs z ≤ greatest_weight → nat_abs (y *ℤ z) ≤ 2 ^ 60
  product_small y z hy hz = rw (abs_mul y z) (mul-le-mul {n₂ = greatest_weight} hy hz)

  product_fits : (y z : ℤ) → nat_abs y ≤ greatest_weight → nat_abs z ≤ greatest_weight → SFits w64 (back y *ℤ back z)
  product_fits y z hy hz =
      rw (weight_back y hy, weight_back z hz) (fits_within (y *ℤ z) (2 ^ 60) (product_small y z hy hz) (lit< (tt {0})))

  pq_fits : SFits w64 (back x.p *ℤ back x.q)
  pq_fits = product_fits x.p x.q w.p_within w.q_within

  pq_is : back (back x.p *ℤ back x.q) ≡ x.p *ℤ x.q
  pq_is = to_z-of_z pq_fits ∙ rw (weight_back x.p w.p_within, weight_back x.q w.q_within)

  rr_fits : SFits w64 (back x.r *ℤ back x.r)
  rr_fits = product_fits x.r x.r w.r_within w.r_within

  -- p × q times any number up to 7
  module _ (m : ℕ) (few : m ≤ 7) where
    times_fits : SFits w64 (back (back x.p *ℤ back x.q) *ℤ pos m)
    times_fits =
        rw pq_is
        (fits_within (x.p *ℤ x.q *ℤ pos m) (2 ^ 60 * 7)
        (rw (abs_mul (x.p *ℤ x.q) (pos m))
        (mul-le-mul {n₂ = 2 ^ 60} (product_small x.p x.q w.p_within w.q_within) few))
        (lit< (tt {0})))

    pub compared : lt_z (back (back (back x.p *ℤ back x.q) *ℤ pos m)) (back (back x.r *ℤ back x.r))
        ≡ lt_z (x.p *ℤ x.q *ℤ pos m) (x.r *ℤ x.r)
    compared = rw (to_z-of_z times_fits, pq_is, to_z-of_z rr_fits, weight_back x.r w.r_within)
