-- Checks of the proof: refusals 8 to 10 of its header, and 12 to 15 of its rows.
use Rattle.std.specs.Prelude.{◌≡◌, Bool, true, not, ◌&&◌, ◌||◌, List, ℕ, ◌<◌, ◌≤◌, eqb, ltb, leb, pos, nat_abs, length, get_or}
use Rattle.bounds.specs.Bounds.{greatest_exponent, greatest_weight, greatest_scale, beyond}
use Rattle.bounds.specs.declared.profiles.Profile.{Profile}
use Rattle.answers.specs.Answers.{Answer, accepted, refuse_if, refuse_at}
use Rattle.answers.specs.Searches.{first}
use Rattle.points.specs.Points.{same_point, has_midpoint, exponents_within}
use Rattle.sheets.specs.Layout.{variables, row_count, shape_of, proof_length, ProofRoom}
use Rattle.sheets.specs.declared.layout.Shape.{Shape}
use Rattle.rows.specs.ProofSheet.{scale_of, v_of, w_of, triple_of}
use Rattle.rows.specs.declared.proof_sheet.Triple.{Triple}

-- "Byte 0: n, as in the claim. Byte 1: zero. Bytes 2 and 3: k, rows", 0 to the limit. "Bytes 4 to 7: the scale S, 1 to
-- 2^20"
unfoldable pub proof_header_right : ℕ → ℕ → List ℕ → Bool
proof_header_right limit n s =
    eqb (variables s) n && eqb (get_or s 1 0) 0 && leb (row_count s) limit
    && leb 1 (scale_of s) && leb (scale_of s) greatest_scale

-- 8 to 10, where n is the claim's; the limit is that of 9
unfoldable pub header_answer : ℕ → ℕ → List ℕ → Answer
header_answer limit n s =
    refuse_if (ltb (length s) 8) 8
    (refuse_if (not (proof_header_right limit n s)) 9
    (refuse_if (not (eqb (length s) (proof_length (shape_of s)))) 10
    (accepted 0)))

-- "q or r not zero"
unfoldable pub q_or_r : Triple → Bool
q_or_r x = not (eqb (nat_abs x.q) 0) || not (eqb (nat_abs x.r) 0)

-- one of three numbers beyond ± a limit
unfoldable pub any_beyond : ℕ → Triple → Bool
any_beyond limit x = beyond limit x.p || beyond limit x.q || beyond limit x.r

-- 12: "exponent over" the limit, of row i
unfoldable pub exponent_breaks : ℕ → List ℕ → Shape → ℕ → Bool
exponent_breaks limit s shape i =
    not (exponents_within limit (v_of s shape i)) || not (exponents_within limit (w_of s shape i))

-- 13: "no whole midpoint"
unfoldable pub midpoint_breaks : List ℕ → Shape → ℕ → Bool
midpoint_breaks s shape i = not (has_midpoint (v_of s shape i) (w_of s shape i))

-- 14: "lone row, q or r not zero"
unfoldable pub unused_breaks : List ℕ → Shape → ℕ → Bool
unused_breaks s shape i = same_point (v_of s shape i) (w_of s shape i) && q_or_r (triple_of s shape i)

-- 15: "proposed weight beyond" the limit
unfoldable pub weight_breaks : ℕ → List ℕ → Shape → ℕ → Bool
weight_breaks limit s shape i = any_beyond limit (triple_of s shape i)

-- 12 to 15, of which 12 and 15 read the profile
unfoldable pub rows_answer : List ℕ → Profile → Shape → Answer
rows_answer s π shape =
    refuse_at (first (exponent_breaks π.exponent s shape) shape.k) 12
    (refuse_at (first (midpoint_breaks s shape) shape.k) 13
    (refuse_at (first (unused_breaks s shape) shape.k) 14
    (refuse_at (first (weight_breaks π.weight s shape) shape.k) 15
    (accepted 0))))

-- three numbers within ± a limit
pub record Within (limit : ℕ) (x : Triple) : Type 0 where
  pub p_within : nat_abs x.p ≤ limit
  pub q_within : nat_abs x.q ≤ limit
  pub r_within : nat_abs x.r ≤ limit

-- a proof that passes 8 to 10, beside a claim that passes 1 to 7, under some profile
pub record HeaderFacts (s : List ℕ) (shape : Shape) : Type 0 where
  pub some : 1 ≤ shape.n
  pub room : ProofRoom s shape
  pub sized : length s ≡ proof_length shape
  pub scale_positive : 1 ≤ scale_of s
  pub scale_within : scale_of s ≤ greatest_scale

-- and 12 to 15 too
pub record ProofFacts (s : List ℕ) (shape : Shape) : Type 0 where
  pub header : HeaderFacts s shape
  pub v_within : (i : ℕ) → i < shape.k → exponents_within greatest_exponent (v_of s shape i) ≡ true
  pub w_within : (i : ℕ) → i < shape.k → exponents_within greatest_exponent (w_of s shape i) ≡ true
  pub whole : (i : ℕ) → i < shape.k → has_midpoint (v_of s shape i) (w_of s shape i) ≡ true
  pub unused : (i : ℕ) → i < shape.k → same_point (v_of s shape i) (w_of s shape i) ≡ true
      → ((triple_of s shape i).q ≡ pos 0) × ((triple_of s shape i).r ≡ pos 0)
  pub weights_within : (i : ℕ) → i < shape.k → Within greatest_weight (triple_of s shape i)
