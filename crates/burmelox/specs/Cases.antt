-- Cases: answers and the one number that a caller in another language gets for each.
use Rattle.std.specs.Prelude.{◌≡◌, List, [], ◌∷◌, map, ℕ}
use Rattle.answers.specs.Answers.{Answer, accepted, refused}
use Rattle.burmelox.specs.Exports.{code_of}

pub record Case : Type 0 where
  pub answer : Answer
  pub code : ℕ

unfoldable pub cases : List Case
cases =
    -- E, and the most rows
    record { answer = accepted 0; code = 0 }
    ∷ record { answer = accepted 256; code = 256 }
    -- a claim's last point, D, an output that is too short, a wrong count of offsets, a wrong range
    ∷ record { answer = refused 7 63; code = 4295426111 }
    ∷ record { answer = refused 19 0; code = 8591179776 }
    ∷ record { answer = refused 11 0; code = 12885622784 }
    ∷ record { answer = refused 20 0; code = 17181179904 }
    ∷ record { answer = refused 22 0; code = 21476278272 }
    -- a limit of the last of eight variables, a page of another length, a profile out of range
    ∷ record { answer = refused 25 7; code = 25771442183 }
    ∷ record { answer = refused 26 0; code = 30066475008 }
    ∷ record { answer = refused 27 0; code = 34361507840 }
    -- the length of a text, and a buffer that is too short for one
    ∷ record { answer = accepted 31410; code = 31410 }
    ∷ record { answer = refused 30 0; code = 38656671744 }
    ∷ []

-- the definition gives every number
abbrev pub Worked : Type 0
Worked = map (λ (c : Case). code_of c.answer) cases ≡ map (λ (c : Case). c.code) cases
