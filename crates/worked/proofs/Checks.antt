-- The cases, computed; of 256 rows the weights, which stand far back in the sheet, by a law.
use Rattle.std.proofs.Common.{None}
use mathlib.Core.Path.{◌≡◌, refl, sym, ◌∙◌, ap₂}
use mathlib.Core.Bool.{false}
use mathlib.Core.List.{List, ◌∷◌, map}
use Prim.Native.Nat.{ℕ, ◌+◌, ◌-◌, ◌<◌, ◌≤◌}
use native.Mathlib.Decide.{dec_lt}
use native.Mathlib.Omega.{arith}
use lib.IntN.{pos}
use lib.ListN.{length, get_or, replicate, get_or-replicate, length-replicate, get_or-eq_default}
use lib.Seq.{get_or-append-add}
use Rattle.integers.specs.Words.{u32_at, i32_at}
use Rattle.bounds.specs.Bounds.{greatest_exponent, greatest_weight, beyond}
use Rattle.bounds.specs.Profiles.{in_range, full_profile}
use Rattle.answers.specs.Answers.{accepted, blameless, and_then}
use Rattle.answers.specs.Searches.{kept, first}
use Rattle.answers.proofs.answers.Laws.{passed_at, then_passed}
use Rattle.answers.proofs.searches.Laws.{all_right}
use Rattle.points.specs.Lists.{table}
use Rattle.points.specs.Points.{bytes_at, same_point, rises_to, even_sum, has_midpoint, exponents_within}
use Rattle.sheets.specs.Layout.{triple_at}
use Rattle.sheets.specs.declared.layout.Shape.{Shape}
use Rattle.claims.specs.ClaimChecks as C
use Rattle.limits.specs.LimitChecks.{limits_shaped, power_right, limit_right, limit_breaks, limits_answer}
use Rattle.checks.specs.ProofChecks as P
use Rattle.checks.specs.Input.{head_answer, formed_answer}
use Rattle.worked.specs.Sheets.{joined, word, words, claim_of, proof_of, square_with, square, square_proof, two_terms, one_row, masked, limit, unlimited, limits_with, one_limit}
use Rattle.worked.specs.Checks.{Case, claims, proves, limits, eight, full, many_points, many_rows, small, cases, Worked}

small_worked : map (λ (c : Case). formed_answer c.claim c.proof c.limits full_profile) small
    ≡ map (λ (c : Case). c.answer) small
unfolding
    u32_at i32_at table bytes_at same_point rises_to even_sum has_midpoint exponents_within accepted blameless
    and_then kept first beyond C.counts_right C.mask_right C.claim_header_right C.coefficient_breaks C.exponent_breaks
    C.order_breaks C.terms_answer C.claim_answer P.proof_header_right P.header_answer P.q_or_r P.any_beyond
    P.exponent_breaks P.midpoint_breaks P.unused_breaks P.weight_breaks P.rows_answer head_answer formed_answer
    limits_shaped power_right limit_right limit_breaks limits_answer limit unlimited limits_with one_limit limits
    eight joined word words claim_of proof_of square_with square square_proof claims proves two_terms one_row full
    many_points many_rows masked small in_range
small_worked = refl

-- ---- 256 rows

many : List ℕ
many = many_rows 120

abbrev shape : Shape
shape = record { n = 1; k = 256 }

points_length : length (many_points 120) ≡ 520
unfolding joined word many_points
points_length = refl

zeros : (m j : ℕ) → ◌≡◌ {A = ℕ} (get_or (replicate m 0) j 0) 0
zeros m j = go (dec_lt j m)
  where
    go : Dec (j < m) → ◌≡◌ {A = ℕ} (get_or (replicate m 0) j 0) 0
    go (yes l) = get_or-replicate m j 0 0 l
    go (no l) = get_or-eq_default (replicate m 0) 0 (rw length-replicate (omega arith))

far : (j : ℕ) → 520 ≤ j → get_or many j 0 ≡ 0
unfolding many many_rows
far j h =
    let e : j ≡ length (many_points 120) + (j - 520) = omega (arith, points_length) in
    rw e (get_or-append-add (many_points 120) (replicate 3072 0) (j - 520) 0 ∙ zeros 3072 (j - 520))

word_zero : (at : ℕ) → 520 ≤ at → i32_at many at ≡ pos 0
unfolding u32_at i32_at
word_zero at h = rw (far at h, far (at + 1) (omega arith), far (at + 2) (omega arith), far (at + 3) (omega arith))

weights_light : (i : ℕ) → P.weight_breaks greatest_weight many shape i ≡ false
unfolding P.weight_breaks P.any_beyond beyond
weights_light i =
    rw (
      word_zero (triple_at shape i) (omega arith),
      word_zero (triple_at shape i + 4) (omega arith),
      word_zero (triple_at shape i + 8) (omega arith),
    )

exponents_low : None ≡ first (P.exponent_breaks greatest_exponent many shape) 256
unfolding first kept P.exponent_breaks exponents_within bytes_at table many many_rows many_points joined word
exponents_low = refl

midpoints_whole : None ≡ first (P.midpoint_breaks many shape) 256
unfolding
    first kept P.midpoint_breaks has_midpoint even_sum bytes_at table many many_rows many_points joined word
midpoints_whole = refl

none_lone : None ≡ first (P.unused_breaks many shape) 256
unfolding first kept P.unused_breaks same_point bytes_at table many many_rows many_points joined word
none_lone = refl

rows_right : accepted 0 ≡ P.rows_answer many full_profile shape
unfolding P.rows_answer
rows_right =
    passed_at (accepted 0) None _ 12 _ exponents_low refl
    (passed_at (accepted 0) None _ 13 _ midpoints_whole refl
    (passed_at (accepted 0) None _ 14 _ none_lone refl
    (passed_at (accepted 0) None _ 15 _ (all_right _ 256 (λ i l. weights_light i)) refl refl)))

claim_right : accepted 0 ≡ C.claim_answer square full_profile
unfolding
    accepted kept first C.claim_answer C.terms_answer C.counts_right C.mask_right C.claim_header_right
    C.coefficient_breaks C.exponent_breaks C.order_breaks i32_at u32_at bytes_at table beyond exponents_within
    rises_to square_with square claim_of joined word words in_range
claim_right = refl

header_right : accepted 0 ≡ P.header_answer full_profile.rows 1 many
unfolding accepted P.header_answer P.proof_header_right u32_at many many_rows many_points joined word
header_right = refl

head_right : accepted 0 ≡ head_answer square many full_profile
unfolding head_answer square_with square claim_of joined word
head_right = then_passed (C.claim_answer square full_profile) claim_right (accepted 0) _ header_right

limits_right : accepted 0 ≡ limits_answer 1 (one_limit 0 0 0)
unfolding
    accepted kept first limits_answer limits_shaped limit_breaks limit_right power_right u32_at one_limit
    limits_with limit joined word
limits_right = refl

many_accepted : formed_answer square many (one_limit 0 0 0) full_profile ≡ accepted 0
unfolding formed_answer many many_rows many_points joined word square square_with claim_of
many_accepted =
    sym (then_passed (head_answer square many full_profile) head_right (accepted 0) _
    (then_passed (limits_answer 1 (one_limit 0 0 0)) limits_right (accepted 0) _ rows_right))

pub worked : Worked
unfolding cases proves many
worked = ap₂ ◌∷◌ many_accepted small_worked
