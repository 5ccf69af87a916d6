-- A text handed over in a lent buffer: refusal 30.
use Rattle.std.specs.Prelude.{cond, List, ◌++◌, ℕ, ltb, length, drop}
use Rattle.answers.specs.Answers.{Answer, accepted, refuse_if}

-- 30: "buffer too short"; else the answer is the length
unfoldable pub handed_answer : ℕ → ℕ → Answer
handed_answer long room = refuse_if (ltb room long) 30 (accepted long)

-- the text, and "a longer one's later bytes keep their values"
unfoldable pub handed : List ℕ → List ℕ → List ℕ
handed text buffer = cond (ltb (length buffer) (length text)) buffer (text ++ drop (length text) buffer)
