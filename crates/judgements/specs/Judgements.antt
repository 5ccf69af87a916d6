-- Judgements: the rules 17 to 19 for a row, and over all rows in the order of their numbers.
use Rattle.std.specs.Prelude.{Bool, cond, ◌||◌, ℕ, eqb, ℤ, pos, ◌*ℤ◌}
use Rattle.std.specs.Int.Signed.{lt_z}
use Rattle.bounds.specs.Bounds.{beyond}
use Rattle.answers.specs.Answers.{Answer, accepted, refuse_at}
use Rattle.answers.specs.Searches.{kept, first}
use Rattle.squares.specs.Rows.{Row}
use Rattle.squares.specs.declared.rows.Weights.{Weights}
use Rattle.squares.specs.declared.rows.Weights.TheVariants.{Pair, Lone}
use Rattle.rows.specs.declared.proof_sheet.Triple.{Triple}
use Rattle.checks.specs.ProofChecks.{any_beyond}
use Rattle.judgements.specs.declared.judgements.Firsts.{Firsts}
use Rattle.judgements.specs.declared.judgements.Judgement.{Judgement}
use Rattle.judgements.specs.declared.judgements.Judgement.TheVariants.{Holds, Beyond, Negative, Indefinite}

-- ---- one row, by the first rule that it breaks

unfoldable pub negative : ℤ → Bool
negative x = lt_z x (pos 0)

-- "r × r over 4 × p × q"
unfoldable pub indefinite : Triple → Bool
indefinite x = lt_z (x.p *ℤ x.q *ℤ pos 4) (x.r *ℤ x.r)

-- "Each shifted weight is within" the limit, "p and q are at least 0, and r × r is at most 4 × p × q"
unfoldable pub judge_pair : ℕ → Triple → Judgement
judge_pair limit x =
    cond (any_beyond limit x) Beyond
    (cond (negative x.p || negative x.q) Negative (cond (indefinite x) Indefinite Holds))

-- the same of a lone row's one weight
unfoldable pub judge_lone : ℕ → ℤ → Judgement
judge_lone limit p = cond (beyond limit p) Beyond (cond (negative p) Negative Holds)

unfoldable pub judgement_of : ℕ → Weights → Judgement
judgement_of limit (Pair p q r) = judge_pair limit (record { p = p; q = q; r = r })
judgement_of limit (Lone p) = judge_lone limit p

-- document 01's number of each judgement: 17 "shifted weight beyond", 18 "shifted p or q negative", 19 "r × r over
-- 4 × p × q"; 0 where the row holds
unfoldable pub number_of : Judgement → ℕ
number_of Holds = 0
number_of Beyond = 17
number_of Negative = 18
number_of Indefinite = 19

-- ---- all rows, given by an index. A row counts under the first rule that it breaks: 17 over any row comes before
-- 18 over any, and 18 before 19, so that changes no answer.

-- row i is judged by the rule of a number
unfoldable pub judged_as : ℕ → ℕ → (ℕ → Row) → ℕ → Bool
judged_as number limit row i = eqb (number_of (judgement_of limit (row i).weights)) number

-- the first row of each judgement that refuses, of the first i rows
unfoldable pub firsts_to : ℕ → (ℕ → Row) → ℕ → Firsts
firsts_to limit row i = record {
  beyond = first (judged_as 17 limit row) i;
  negative = first (judged_as 18 limit row) i;
  indefinite = first (judged_as 19 limit row) i;
}

-- 17 to 19, "each over all .. rows before the next"; "The verdict carries k"
unfoldable pub judged_answer : Firsts → ℕ → Answer
judged_answer f k = refuse_at f.beyond 17 (refuse_at f.negative 18 (refuse_at f.indefinite 19 (accepted k)))

-- ---- one row more, as the code goes over them

unfoldable pub noted : Firsts → Judgement → ℕ → Firsts
noted f j i = record {
  beyond = kept f.beyond (eqb (number_of j) 17) i;
  negative = kept f.negative (eqb (number_of j) 18) i;
  indefinite = kept f.indefinite (eqb (number_of j) 19) i;
}
