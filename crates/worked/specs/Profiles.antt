-- Cases: profiles out of range, and at, below and above what a sheet needs.
use Rattle.std.specs.Prelude.{◌≡◌, List, [], ◌∷◌, ◌++◌, map, ℕ, ◌+◌, ◌^◌, pos, negsuc, length, replicate}
use Rattle.bounds.specs.Profiles.{full_profile}
use Rattle.bounds.specs.declared.profiles.Profile.{Profile}
use Rattle.answers.specs.Answers.{Answer, profile, accepted, refused}
use Rattle.limits.specs.LimitsSheet.{no_limits}
use Rattle.judging.specs.Check.{check_answer, output_of}
use Rattle.evaluation.specs.Evaluations as Evaluations
use Rattle.floors.specs.Search as Floors
use Rattle.paging.specs.PageCheck.{page_answer}
use Rattle.worked.specs.Sheets.{claim_of, square_with, square, square_proof, one_row, bare, no_rows, one_term, one_limit}
use Rattle.worked.specs.Judging.{spare}
use Rattle.worked.specs.Searches.{lone_zero}

unfoldable pub within : ℕ → ℕ → ℕ → Profile
within exponent weight rows = record { exponent = exponent; weight = weight; rows = rows }

-- "Exponent 121, weight 0, weight 2^30 + 1, rows 257"
unfoldable pub wrong : List Profile
wrong = within 121 1 0 ∷ within 0 0 0 ∷ within 0 (2 ^ 30 + 1) 0 ∷ within 0 1 257 ∷ []

-- 27 of a check, an evaluation and a search; "also where the claim is empty"; before it 26 alone
unfoldable pub refusals : Profile → List Answer
refusals π =
    check_answer square square_proof (no_limits 1) π 22
    ∷ check_answer [] [] [] π 0
    ∷ Evaluations.evaluation_answer square π (pos 0 ∷ [])
    ∷ Evaluations.evaluation_answer [] π []
    ∷ Floors.answer_of (Floors.search_of square square_proof (no_limits 1) π (pos 1) (pos 0) 22)
    ∷ page_answer square square_proof (no_limits 1) π 22 2920
    ∷ page_answer square square_proof (no_limits 1) π 22 2919
    ∷ []

unfoldable pub refused_by : List Answer
refused_by = replicate 6 (record { number = 27; blamed = profile; value = 0 }) ++ (refused 26 0 ∷ [])

-- ---- checks of one variable under a profile, with their outputs afterwards

pub record Case : Type 0 where
  pub profile : Profile
  pub claim : List ℕ
  pub proof : List ℕ
  pub limits : List ℕ
  pub answer : Answer
  pub written : List ℕ

unfoldable pub accepts : Profile → List ℕ → List ℕ → List ℕ → ℕ → List ℕ → Case
accepts π c s l k exact = record {
  profile = π;
  claim = c;
  proof = s;
  limits = l;
  answer = accepted k;
  written = exact ++ 7 ∷ 7 ∷ [];
}

unfoldable pub refuses : Profile → List ℕ → List ℕ → List ℕ → Answer → Case
refuses π c s l answer = record {
  profile = π;
  claim = c;
  proof = s;
  limits = l;
  answer = answer;
  written = spare s;
}

-- C's claim, and its proof with r −1
unfoldable pub lowered : List ℕ
lowered = square_with (negsuc 0) (negsuc 1)

unfoldable pub lighter : List ℕ
lighter = one_row 0 2 (pos 1) (pos 1) (negsuc 0)

-- 2^30 with floor 2^30
unfoldable pub heavy : List ℕ
heavy = claim_of 1 (pos (2 ^ 30)) ((0 ∷ []) ∷ []) (pos (2 ^ 30) ∷ [])

unfoldable pub cases : List Case
cases =
    -- the least of all: exponent 0 with a constant claim, rows 0 with k 0
    accepts (within 0 1 1) (one_term 0 (pos 1)) (one_row 0 0 (pos 1) (pos 0) (pos 0)) (no_limits 1) 1
    (one_row 0 0 (pos 1) (pos 0) (pos 0))
    ∷ accepts (within 0 1 0) (bare (pos 0)) no_rows (no_limits 1) 0 no_rows
    -- Square: at what it needs, above it, and one below it in each number
    ∷ accepts (within 2 2 1) square square_proof (no_limits 1) 1 square_proof
    ∷ accepts (within 3 3 2) square square_proof (no_limits 1) 1 square_proof
    ∷ refuses (within 1 2 1) square square_proof (no_limits 1) (refused 6 2)
    ∷ refuses (within 2 1 1) square square_proof (no_limits 1) (refused 15 0)
    ∷ refuses (within 2 2 0) square square_proof (no_limits 1) (refused 9 0)
    -- 12: Square's row beside a claim without terms
    ∷ refuses (within 1 2 1) (bare (pos 0)) square_proof (no_limits 1) (refused 12 0)
    -- C: p becomes 2, and r −2
    ∷ refuses (within 2 1 1) lowered lighter (no_limits 1) (refused 17 0)
    ∷ accepts (within 2 2 1) lowered lighter (no_limits 1) 1 (one_row 0 2 (pos 2) (pos 1) (negsuc 1))
    -- 4 and 5 keep 2^30
    ∷ accepts (within 0 1 0) heavy no_rows (no_limits 1) 0 no_rows
    -- 0 is at least −9 within ±3, by 9 − x²: a point that the limits add may be above the profile's exponent, and then
    -- no row can hold it
    ∷ accepts (within 2 1 1) (bare (negsuc 8)) (one_row 2 2 (pos 1) (pos 0) (pos 0)) (one_limit 2 3 1) 1
    (one_row 2 2 (pos 1) (pos 0) (pos 0))
    ∷ refuses (within 1 1 1) (bare (negsuc 8)) (one_row 2 2 (pos 1) (pos 0) (pos 0)) (one_limit 2 3 1) (refused 12 0)
    ∷ refuses (within 1 1 1) (bare (negsuc 8)) no_rows (one_limit 2 3 1) (refused 16 1)
    ∷ []

unfoldable pub worked : Case → Case
worked a = record {
  profile = a.profile;
  claim = a.claim;
  proof = a.proof;
  limits = a.limits;
  answer = check_answer a.claim a.proof a.limits a.profile (length (spare a.proof));
  written = output_of a.claim a.proof a.limits a.profile (spare a.proof);
}

-- ---- searches and evaluations

-- 5 with a lone row of its own: the floor 0 needs the weight 5; 22 keeps 2^30
unfoldable pub searches : List Floors.Told
searches =
    Floors.search_of (one_term 0 (pos 5)) lone_zero (no_limits 1) (within 0 4 1) (pos 0) (pos 0) 22
    ∷ Floors.search_of (one_term 0 (pos 5)) lone_zero (no_limits 1) (within 0 5 1) (pos 0) (pos 0) 22
    ∷ Floors.search_of heavy no_rows (no_limits 1) (within 0 1 0) (pos (2 ^ 30)) (pos (2 ^ 30)) 8
    ∷ []

unfoldable pub found : List Floors.Told
found = Floors.refusal (refused 23 0) ∷ Floors.found (pos 0) 1 1 ∷ Floors.found (pos (2 ^ 30)) 1 0 ∷ []

-- Square at −3: an evaluation reads the exponent alone
unfoldable pub evaluations : List Evaluations.Told
evaluations =
    Evaluations.evaluation_of square (within 2 1 0) (negsuc 2 ∷ [])
    ∷ Evaluations.evaluation_of square (within 1 2 1) (negsuc 2 ∷ [])
    ∷ []

unfoldable pub values : List Evaluations.Told
values = Evaluations.value (pos 16) ∷ Evaluations.refusal (refused 6 2) ∷ []

-- the definitions give every answer and byte, and the full profile is 120, 2^30, 256
abbrev pub Worked : Type 0
Worked =
    (map refusals wrong ≡ replicate 4 refused_by)
    × (map worked cases ≡ cases)
    × (searches ≡ found)
    × (evaluations ≡ values)
    × (full_profile ≡ within 120 (2 ^ 30) 256)
