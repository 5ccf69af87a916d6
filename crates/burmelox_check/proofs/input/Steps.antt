-- The steps of the function that splits the input into its two sheets.
use mathlib.Core.Path.{◌≡◌, sym, ◌∙◌}
use mathlib.Core.Bool.{Bool, true, false, not, cond}
use mathlib.Core.List.{List}
use Prim.Native.Nat.{ℕ, ◌+◌, ◌<◌, ◌≤◌, min}
use native.Mathlib.Decide.{dec_lt}
use native.Mathlib.Omega.{arith}
use lib.Dec.{leb}
use lib.ListN.{length}
use borrow.Author.Tests.{le-leb, lt-leb, not-true, not-false}
use Rattle.sheets.specs.Layout.{variables, term_count, place}
use Rattle.claims.specs.ClaimChecks.{claim_header_right}
use Rattle.burmelox_check.specs.Input.{said_length, splits, claim_end}

module _ (input : List ℕ) where
  pub end_short : length input < 8 → length input ≡ claim_end input
  unfolding claim_end splits
  end_short h = rw (lt-leb 8 (length input) h)

  module _ (long : 8 ≤ length input) (wrong : Bool) (e : wrong ≡ not (claim_header_right input)) where
    pub end_wrong : wrong ≡ true → length input ≡ claim_end input
    unfolding claim_end splits
    end_wrong h = rw (le-leb 8 (length input) long, not-true (claim_header_right input) (sym e ∙ h))

    pub end_said : wrong ≡ false → (end n t m : ℕ) → m ≡ min end (length input) → end ≡ place 8 t (n + 4)
        → t ≡ term_count input → n ≡ variables input → m ≡ claim_end input
    unfolding claim_end splits said_length
    end_said h end n t m em ee et en =
        let right = not-false (claim_header_right input) (sym e ∙ h) in
        let said : place 8 (term_count input) (variables input + 4) ≡ end = sym (ee ∙ rw (et, en)) in
        em ∙ rw (le-leb 8 (length input) long, right, said) (go (dec_lt (length input) end))
      where
        go : Dec (length input < end)
            → min end (length input) ≡ cond (leb end (length input)) end (length input)
        go (yes l) = rw (lt-leb end (length input) l) (omega arith)
        go (no l) = let f : end ≤ length input = omega arith in rw (le-leb end (length input) f) (omega arith)
