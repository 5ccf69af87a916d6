-- Cases: whole pages of worked sheets, as they stand on paper; lines of pages with few rows and with many.
use Rattle.std.specs.Prelude.{◌≡◌, List, [], ◌∷◌, ◌++◌, map, ℕ, ◌-◌, ◌*◌, ◌^◌, pos, negsuc, length, drop, replicate}
use Prim.Native.String.{String}
use Rattle.bounds.specs.Profiles.{full_profile}
use Rattle.answers.specs.Answers.{Answer, page, accepted, refused}
use Rattle.sheets.specs.Layout.{variables}
use Rattle.rows.specs.declared.proof_sheet.Triple.{Triple}
use Rattle.limits.specs.LimitsSheet.{no_limits}
use Rattle.text.specs.Text.{ascii}
use Rattle.pages.specs.Pages.{page_of}
use Rattle.paging.specs.PageCheck.{page_answer, page_output, page_after}
use Rattle.worked.specs.Sheets.{joined, square_with, square, square_proof, one_row, bare, no_rows, motzkin_bytes, motzkin_proof_bytes}
use Rattle.worked.specs.Judging.{spare}

-- lines, each with its line feed
unfoldable pub paper : List String → List ℕ
paper lines = joined (map (λ (line : String). ascii line ++ ascii "\n") lines)

abbrev pub blank : String
blank = "                                                                        "

-- two sheets, an output and a page, no variable limited; the answer, and output and page afterwards
pub record Case : Type 0 where
  pub claim : List ℕ
  pub proof : List ℕ
  pub output : List ℕ
  pub page : List ℕ
  pub answer : Answer
  pub written : List ℕ
  pub after : List ℕ

-- a check of two sheets whose page has these lines first, and blank ones after them
unfoldable pub shows : List ℕ → List ℕ → List ℕ → Answer → List ℕ → List String → Case
shows c s out answer written lines = record {
  claim = c;
  proof = s;
  output = out;
  page = replicate 2920 7;
  answer = answer;
  written = written;
  after = paper (lines ++ replicate (40 - length lines) blank);
}

-- a page buffer of so many bytes: 26, and nothing is written
unfoldable pub refuses_page : List ℕ → ℕ → Case
refuses_page c size = record {
  claim = c;
  proof = square_proof;
  output = spare square_proof;
  page = replicate size 7;
  answer = record { number = 26; blamed = page; value = 0 };
  written = spare square_proof;
  after = replicate size 7;
}

unfoldable pub cases : List Case
cases =
    -- G; D; the table's example for 11; E
    shows motzkin_bytes motzkin_proof_bytes (spare motzkin_proof_bytes) (accepted 3) (motzkin_proof_bytes ++ 7 ∷ 7 ∷ [])
    (
    "accepted rows 3 scale 1 floor 0                                         "
    ∷ "   0           1           1          -2                                "
    ∷ "   1           2           2          -4                                "
    ∷ "   2           1           1          -2                                "
    ∷ []
    )
    ∷ shows (square_with (pos 1) (negsuc 1)) square_proof (spare square_proof) (refused 19 0) (spare square_proof)
    ("refused 19 at 0                                                         " ∷ [])
    ∷ shows square square_proof (replicate 21 7) (refused 11 0) (replicate 21 7)
    ("refused 11 at 0                                                         " ∷ [])
    ∷ shows (bare (pos 0)) no_rows (spare no_rows) (accepted 0) (no_rows ++ 7 ∷ 7 ∷ [])
    ("accepted rows 0 scale 1 floor 0                                         " ∷ [])
    -- C: the shifted weights, and no others
    ∷ shows (square_with (negsuc 0) (negsuc 1)) square_proof (spare square_proof) (accepted 1)
    (one_row 0 2 (pos 2) (pos 1) (negsuc 1) ++ 7 ∷ 7 ∷ [])
    (
    "accepted rows 1 scale 1 floor -1                                        "
    ∷ "   0           2           1          -2                                "
    ∷ []
    )
    -- "the page buffer is not 2,920 bytes", "checked before 1"
    ∷ refuses_page square 2919
    ∷ refuses_page square 2921
    ∷ refuses_page [] 0
    ∷ shows [] square_proof (spare square_proof) (refused 1 0) (spare square_proof)
    ("refused 1 at 0                                                          " ∷ [])
    ∷ []

-- the definitions give every answer and byte, under the full profile
unfoldable pub worked : Case → Case
worked a = record {
  claim = a.claim;
  proof = a.proof;
  output = a.output;
  page = a.page;
  answer =
      page_answer a.claim a.proof (no_limits (variables a.claim)) full_profile (length a.output)
      (length a.page);
  written =
      page_output a.claim a.proof (no_limits (variables a.claim)) full_profile a.output (length a.page);
  after = page_after a.claim a.proof (no_limits (variables a.claim)) full_profile (length a.output) a.page;
}

abbrev pub Worked : Type 0
Worked = map worked cases ≡ cases

-- ---- single lines

-- weights as long as can be
unfoldable pub heavy : ℕ → Triple
heavy i = record { p = pos (2 ^ 30); q = pos i; r = negsuc (2 ^ 30 - 1) }

-- lines 38 to 40 of a page of k rows
unfoldable pub last_lines : ℕ → List ℕ
last_lines k = drop (37 * 73) (page_of (ascii "accepted") heavy k)

-- "`more` if k exceeds 38"; row 37 is the last on a page
abbrev pub Lines : Type 0
Lines =
    (last_lines 37 ≡ paper ("  36  1073741824          36 -1073741824                                "
    ∷ blank ∷ blank ∷ []))
    × (last_lines 38 ≡ paper ("  36  1073741824          36 -1073741824                                "
    ∷ "  37  1073741824          37 -1073741824                                "
    ∷ blank ∷ []))
    × (last_lines 39 ≡ paper ("  36  1073741824          36 -1073741824                                "
    ∷ "  37  1073741824          37 -1073741824                                "
    ∷ "more                                                                    " ∷ []))
    × (last_lines 256 ≡ last_lines 39)
