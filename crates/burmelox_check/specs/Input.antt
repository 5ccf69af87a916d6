-- The program's input: a claim and directly after it a proof.
use Rattle.std.specs.Prelude.{Bool, cond, ◌&&◌, List, ℕ, leb, length, take, drop}
use Rattle.sheets.specs.Layout.{variables, term_count, claim_length}
use Rattle.claims.specs.ClaimChecks.{claim_header_right}

-- "A program reads at most 8,192 bytes of standard input"
abbrev pub greatest_input : ℕ
greatest_input = 8192

-- "as long as its header says"
unfoldable pub said_length : List ℕ → ℕ
said_length input = claim_length (variables input) (term_count input)

-- "the whole input is the claim if it is refused by 1 or 2 or is too short": it is neither
unfoldable pub splits : List ℕ → Bool
splits input = leb 8 (length input) && claim_header_right input && leb (said_length input) (length input)

-- "the claim, as long as its header says, and directly after it the proof"
unfoldable pub claim_end : List ℕ → ℕ
claim_end input = cond (splits input) (said_length input) (length input)

unfoldable pub claim_part : List ℕ → List ℕ
claim_part input = take (claim_end input) input

unfoldable pub proof_part : List ℕ → List ℕ
proof_part input = drop (claim_end input) input
