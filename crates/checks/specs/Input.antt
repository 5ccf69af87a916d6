-- The checks 27, 1 to 15 with 24 and 25 among them, in their order, and well-formed sheets.
use Rattle.std.specs.Prelude.{List, ◌≡◌, ℕ, ltb, length}
use Rattle.bounds.specs.declared.profiles.Profile.{Profile}
use Rattle.answers.specs.Answers.{Answer, accepted, refuse_if, and_then, Passes}
use Rattle.sheets.specs.Layout.{variables, shape_of}
use Rattle.limits.specs.LimitChecks.{limits_answer}
use Rattle.claims.specs.ClaimChecks.{claim_answer}
use Rattle.checks.specs.ProofChecks.{header_answer, rows_answer}

-- 27, 1 to 10: the profile, the claim, and the proof's header
unfoldable pub head_answer : List ℕ → List ℕ → Profile → Answer
head_answer c s π = and_then (claim_answer c π) (header_answer π.rows (variables c) s)

-- 11: "output shorter than proof"
unfoldable pub room_answer : ℕ → ℕ → Answer
room_answer asked room = refuse_if (ltb room asked) 11 (accepted 0)

-- 11 to 15; the room is the output's length
unfoldable pub body_answer : List ℕ → Profile → ℕ → Answer
body_answer s π room = and_then (room_answer (length s) room) (rows_answer s π (shape_of s))

-- "24 after 10", "25 next", then 11 to 15; n is the claim's
unfoldable pub rest_answer : ℕ → List ℕ → List ℕ → Profile → ℕ → Answer
rest_answer n s l π room = and_then (limits_answer n l) (body_answer s π room)

-- all of them
unfoldable pub input_answer : List ℕ → List ℕ → List ℕ → Profile → ℕ → Answer
input_answer c s l π room = and_then (head_answer c s π) (rest_answer (variables c) s l π room)

-- "Sheets are well-formed when they pass 1 to 10 and 12 to 15", and 24, 25 and 27
unfoldable pub formed_answer : List ℕ → List ℕ → List ℕ → Profile → Answer
formed_answer c s l π =
    and_then (head_answer c s π) (and_then (limits_answer (variables c) l) (rows_answer s π (shape_of s)))

abbrev pub WellFormed : List ℕ → List ℕ → List ℕ → Profile → Type 0
WellFormed c s l π = Passes (formed_answer c s l π)

-- with limits that pass 24 and 25 the checks are 27 and 1 to 15 alone, in the order of document 01
pub record InputUnlimited (c s l : List ℕ) (π : Profile) : Type 0 where
  pub input : (room : ℕ) → input_answer c s l π room ≡ and_then (head_answer c s π) (body_answer s π room)
  pub formed : formed_answer c s l π ≡ and_then (head_answer c s π) (rows_answer s π (shape_of s))
