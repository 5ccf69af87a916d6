-- The checks 1 to 15, 24 and 25 of the time before profiles, with document 01's own 256, 120 and 2^30.
use Rattle.std.specs.Prelude.{◌≡◌, not, List, ℕ, eqb, ltb, length}
use Rattle.bounds.specs.Bounds.{greatest_exponent, greatest_weight, most_rows}
use Rattle.bounds.specs.Profiles.{full_profile}
use Rattle.answers.specs.Answers.{Answer, accepted, refuse_if, refuse_at, and_then}
use Rattle.answers.specs.Searches.{first}
use Rattle.sheets.specs.Layout.{variables, shape_of, proof_length}
use Rattle.sheets.specs.declared.layout.Shape.{Shape}
use Rattle.limits.specs.LimitChecks.{limits_answer}
use Rattle.claims.specs.Full.{full_claim}
use Rattle.checks.specs.ProofChecks.{proof_header_right, exponent_breaks, midpoint_breaks, unused_breaks, weight_breaks}
use Rattle.checks.specs.Input.{room_answer, input_answer, formed_answer}

-- 8 to 10, where n is the claim's
unfoldable pub full_header : ℕ → List ℕ → Answer
full_header n s =
    refuse_if (ltb (length s) 8) 8
    (refuse_if (not (proof_header_right most_rows n s)) 9
    (refuse_if (not (eqb (length s) (proof_length (shape_of s)))) 10
    (accepted 0)))

-- 12 to 15
unfoldable pub full_rows : List ℕ → Shape → Answer
full_rows s shape =
    refuse_at (first (exponent_breaks greatest_exponent s shape) shape.k) 12
    (refuse_at (first (midpoint_breaks s shape) shape.k) 13
    (refuse_at (first (unused_breaks s shape) shape.k) 14
    (refuse_at (first (weight_breaks greatest_weight s shape) shape.k) 15
    (accepted 0))))

-- 1 to 10
unfoldable pub full_head : List ℕ → List ℕ → Answer
full_head c s = and_then (full_claim c) (full_header (variables c) s)

-- 1 to 10, 24, 25, 11 to 15; the room is the output's length
unfoldable pub full_input : List ℕ → List ℕ → List ℕ → ℕ → Answer
full_input c s l room =
    and_then (full_head c s)
    (and_then (limits_answer (variables c) l) (and_then (room_answer (length s) room) (full_rows s (shape_of s))))

-- well-formed sheets
unfoldable pub full_formed : List ℕ → List ℕ → List ℕ → Answer
full_formed c s l = and_then (full_head c s) (and_then (limits_answer (variables c) l) (full_rows s (shape_of s)))

pub record InputFull (c s l : List ℕ) : Type 0 where
  pub input : (room : ℕ) → input_answer c s l full_profile room ≡ full_input c s l room
  pub formed : formed_answer c s l full_profile ≡ full_formed c s l
