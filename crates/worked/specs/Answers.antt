-- Cases: each sheet's own number and the numbers that blame it, as document 01 tells them sheet by sheet.
use Rattle.std.specs.Prelude.{◌≡◌, List, [], ◌∷◌, map, ℕ}
use Rattle.answers.specs.Answers.{Blamed, claim, proof, output, offsets, range, limits, page, profile, buffer, table, site, sheet_number, blames}

pub record Case : Type 0 where
  pub blamed : Blamed
  pub sheet : ℕ
  pub numbers : List ℕ

unfoldable pub cases : List Case
cases =
    -- "1 to 7 and 21 the claim, 8 to 10 and 12 to 19 the proof, 11 the output, 20 the offsets"
    record { blamed = claim; sheet = 1; numbers = 1 ∷ 2 ∷ 3 ∷ 4 ∷ 5 ∷ 6 ∷ 7 ∷ 21 ∷ [] }
    ∷ record { blamed = proof; sheet = 2; numbers = 8 ∷ 9 ∷ 10 ∷ 12 ∷ 13 ∷ 14 ∷ 15 ∷ 16 ∷ 17 ∷ 18 ∷ 19 ∷ [] }
    ∷ record { blamed = output; sheet = 3; numbers = 11 ∷ [] }
    ∷ record { blamed = offsets; sheet = 4; numbers = 20 ∷ [] }
    -- "22, 23, 28, 29, 35 and 37 a range, 24 and 25 the limits, 26 the page, 27 the profile, 30 the buffer, 31 the
    -- table, 32 to 34 and 36 the proof, 38 and 39 the site"
    ∷ record { blamed = range; sheet = 5; numbers = 22 ∷ 23 ∷ 28 ∷ 29 ∷ 35 ∷ 37 ∷ [] }
    ∷ record { blamed = limits; sheet = 6; numbers = 24 ∷ 25 ∷ [] }
    ∷ record { blamed = page; sheet = 7; numbers = 26 ∷ [] }
    ∷ record { blamed = profile; sheet = 8; numbers = 27 ∷ [] }
    ∷ record { blamed = buffer; sheet = 9; numbers = 30 ∷ [] }
    ∷ record { blamed = table; sheet = 10; numbers = 31 ∷ [] }
    ∷ record { blamed = proof; sheet = 2; numbers = 32 ∷ 33 ∷ 34 ∷ 36 ∷ [] }
    ∷ record { blamed = site; sheet = 11; numbers = 38 ∷ 39 ∷ [] }
    ∷ []

-- each sheet has its number, and the table gives each number its sheet
abbrev pub Worked : Type 0
Worked =
    (map (λ (c : Case). sheet_number c.blamed) cases ≡ map (λ (c : Case). c.sheet) cases)
    × (map (λ (c : Case). map blames c.numbers) cases
    ≡ map (λ (c : Case). map (λ (n : ℕ). c.blamed) c.numbers) cases)
