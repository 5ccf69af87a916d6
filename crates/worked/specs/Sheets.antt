-- Sheets that the cases are about.
use Rattle.std.specs.Prelude.{List, [], ◌∷◌, ◌++◌, map, ℕ, ◌/◌, ◌%◌, ℤ, pos, negsuc, length, take, drop, replicate}
use Rattle.std.specs.Int.{w32}
use Rattle.std.proofs.Common.{of_z}
use Rattle.integers.specs.Words.{bytes_of}
use Rattle.squares.specs.declared.limits.Limit.{Limit}

-- ---- sheets from their numbers

unfoldable pub joined : List (List ℕ) → List ℕ
joined [] = []
joined (l ∷ ls) = l ++ joined ls

unfoldable pub word : ℤ → List ℕ
word z = bytes_of (of_z w32 z)

unfoldable pub words : List ℤ → List ℕ
words zs = joined (map word zs)

-- n, the floor, the points and the coefficients; no mask
unfoldable pub claim_of : ℕ → ℤ → List (List ℕ) → List ℤ → List ℕ
claim_of n b points coefficients = n ∷ length points ∷ 0 ∷ 0 ∷ word b ++ (joined points ++ words coefficients)

-- n, the scale, the number of rows (up to 255), their points (v, w, v, w, ..) and weights (p, q, r, p, ..)
unfoldable pub proof_of : ℕ → ℤ → ℕ → List (List ℕ) → List ℤ → List ℕ
proof_of n S k points weights = n ∷ 0 ∷ k ∷ 0 ∷ word S ++ (joined points ++ words weights)

-- "the claim n 1, points 0, 1, 2, coefficients 1, −2, 1, b 0, with S 1 and one row 0, 2 weighted 1, 1, −2"; its worked
-- variants have another floor, or another coefficient at point 1
unfoldable pub square_with : ℤ → ℤ → List ℕ
square_with b x = claim_of 1 b ((0 ∷ []) ∷ (1 ∷ []) ∷ (2 ∷ []) ∷ []) (pos 1 ∷ x ∷ pos 1 ∷ [])

unfoldable pub square : List ℕ
square = square_with (pos 0) (negsuc 1)

unfoldable pub square_proof : List ℕ
square_proof = proof_of 1 (pos 1) 1 ((0 ∷ []) ∷ (2 ∷ []) ∷ []) (pos 1 ∷ pos 1 ∷ negsuc 1 ∷ [])

-- two terms in one variable, by their exponents and coefficients; one row in one variable, by its exponents and weights
unfoldable pub two_terms : ℕ → ℕ → ℤ → ℤ → List ℕ
two_terms a b x y = claim_of 1 (pos 0) ((a ∷ []) ∷ (b ∷ []) ∷ []) (x ∷ y ∷ [])

unfoldable pub one_row : ℕ → ℕ → ℤ → ℤ → ℤ → List ℕ
one_row v w p q r = proof_of 1 (pos 1) 1 ((v ∷ []) ∷ (w ∷ []) ∷ []) (p ∷ q ∷ r ∷ [])

-- "t 0, k 0", with a floor
unfoldable pub bare : ℤ → List ℕ
bare b = claim_of 1 b [] []

unfoldable pub no_rows : List ℕ
no_rows = proof_of 1 (pos 1) 0 [] []

-- "Motzkin (Example 20): points (0,0), (2,2), (2,4), (4,2), coefficients 1, −3, 1, 1, b 0"
unfoldable pub motzkin : List ℕ
motzkin =
    claim_of 2 (pos 0) ((0 ∷ 0 ∷ []) ∷ (2 ∷ 2 ∷ []) ∷ (2 ∷ 4 ∷ []) ∷ (4 ∷ 2 ∷ []) ∷ [])
    (pos 1 ∷ negsuc 2 ∷ pos 1 ∷ pos 1 ∷ [])

-- "Rows (0,0)(2,4) with 1, 1, −2; (1,2)(3,2) with 2, 2, −4; (2,2)(4,2) with 1, 1, −2": with any first r
unfoldable pub motzkin_proof : ℤ → List ℕ
motzkin_proof r =
    proof_of 2 (pos 1) 3
    ((0 ∷ 0 ∷ []) ∷ (2 ∷ 4 ∷ []) ∷ (1 ∷ 2 ∷ []) ∷ (3 ∷ 2 ∷ []) ∷ (2 ∷ 2 ∷ []) ∷ (4 ∷ 2 ∷ []) ∷ [])
    (pos 1 ∷ pos 1 ∷ r ∷ pos 2 ∷ pos 2 ∷ negsuc 3 ∷ pos 1 ∷ pos 1 ∷ negsuc 1 ∷ [])

-- the same with its first two rows exchanged
unfoldable pub motzkin_exchanged : ℤ → List ℕ
motzkin_exchanged r =
    proof_of 2 (pos 1) 3
    ((1 ∷ 2 ∷ []) ∷ (3 ∷ 2 ∷ []) ∷ (0 ∷ 0 ∷ []) ∷ (2 ∷ 4 ∷ []) ∷ (2 ∷ 2 ∷ []) ∷ (4 ∷ 2 ∷ []) ∷ [])
    (pos 2 ∷ pos 2 ∷ negsuc 3 ∷ pos 1 ∷ pos 1 ∷ r ∷ pos 1 ∷ pos 1 ∷ negsuc 1 ∷ [])

-- one term in one variable
unfoldable pub one_term : ℕ → ℤ → List ℕ
one_term e x = claim_of 1 (pos 0) ((e ∷ []) ∷ []) (x ∷ [])

-- ---- sheets with a mask

-- a claim with a mask in byte 2
unfoldable pub masked : ℕ → List ℕ → List ℕ
masked mask c = take 2 c ++ (mask ∷ drop 3 c)

-- "Sheet B", with a mask
unfoldable pub masked_square : ℕ → List ℕ
masked_square mask = masked mask (square_with (pos 0) (pos 2))

-- the product of n variables with a mask, and one lone row at its point
unfoldable pub masked_product : ℕ → ℕ → List ℕ
masked_product n mask = masked mask (claim_of n (pos 0) (replicate n 1 ∷ []) (pos 1 ∷ []))

unfoldable pub product_proof : ℕ → List ℕ
product_proof n = proof_of n (pos 1) 1 (replicate n 1 ∷ replicate n 1 ∷ []) (pos 1 ∷ pos 0 ∷ pos 0 ∷ [])

-- x³ with a mask, and one lone row at its point
unfoldable pub masked_cube : ℕ → List ℕ
masked_cube mask = masked mask (one_term 3 (pos 1))

unfoldable pub cube_proof : List ℕ
cube_proof = one_row 3 3 (pos 1) (pos 0) (pos 0)

-- ---- sheets with limits

-- the limit of one variable
unfoldable pub limit : ℕ → ℕ → ℕ → Limit
limit power L m = record { power = power; bound = L; multiplier = m }

unfoldable pub unlimited : Limit
unlimited = limit 0 0 0

-- a limits sheet, one limit for each variable
unfoldable pub limits_with : List Limit → List ℕ
limits_with limits =
    length limits
    ∷ (joined (map (λ (l : Limit). l.power ∷ l.bound % 256 ∷ l.bound / 256 ∷ []) limits)
    ++ joined (map (λ (l : Limit). word (pos l.multiplier)) limits))

-- for one variable
unfoldable pub one_limit : ℕ → ℕ → ℕ → List ℕ
one_limit power L m = limits_with (limit power L m ∷ [])

-- x − x² with floor −9, and a lone row at 1
unfoldable pub parabola : List ℕ
parabola = claim_of 1 (negsuc 8) ((1 ∷ []) ∷ (2 ∷ []) ∷ []) (pos 1 ∷ negsuc 0 ∷ [])

unfoldable pub one_at_one : List ℕ
one_at_one = one_row 1 1 (pos 1) (pos 0) (pos 0)

-- −x² with a floor; x with floor −5
unfoldable pub minus_square : ℤ → List ℕ
minus_square b = claim_of 1 b ((2 ∷ []) ∷ []) (negsuc 0 ∷ [])

unfoldable pub line : List ℕ
line = claim_of 1 (negsuc 4) ((1 ∷ []) ∷ []) (pos 1 ∷ [])

-- no rows, with a scale; one pair of 0 and 2 with scale 10
unfoldable pub bare_proof : ℕ → List ℕ
bare_proof S = proof_of 1 (pos S) 0 [] []

unfoldable pub line_proof : List ℕ
line_proof = proof_of 1 (pos 10) 1 ((0 ∷ []) ∷ (2 ∷ []) ∷ []) (pos 25 ∷ pos 1 ∷ negsuc 9 ∷ [])

-- a lone row at zero in n variables, with a weight
unfoldable pub at_zero : ℕ → ℤ → List ℕ
at_zero n p = proof_of n (pos 1) 1 (replicate n 0 ∷ replicate n 0 ∷ []) (p ∷ pos 0 ∷ pos 0 ∷ [])

-- ---- G byte by byte, so that bytes in a wrong order would show

unfoldable pub motzkin_bytes : List ℕ
motzkin_bytes =
    -- n, t, mask 0, a zero, b; four points; the coefficients 1, −3, 1, 1
    2 ∷ 4 ∷ 0 ∷ 0 ∷ 0 ∷ 0 ∷ 0 ∷ 0
    ∷ 0 ∷ 0 ∷ 2 ∷ 2 ∷ 2 ∷ 4 ∷ 4 ∷ 2
    ∷ 1 ∷ 0 ∷ 0 ∷ 0 ∷ 253 ∷ 255 ∷ 255 ∷ 255 ∷ 1 ∷ 0 ∷ 0 ∷ 0 ∷ 1 ∷ 0 ∷ 0 ∷ 0 ∷ []

unfoldable pub motzkin_proof_bytes : List ℕ
motzkin_proof_bytes =
    -- n, a zero, k, S; three rows of two points; the weights 1, 1, −2, then 2, 2, −4, then 1, 1, −2
    2 ∷ 0 ∷ 3 ∷ 0 ∷ 1 ∷ 0 ∷ 0 ∷ 0
    ∷ 0 ∷ 0 ∷ 2 ∷ 4 ∷ 1 ∷ 2 ∷ 3 ∷ 2 ∷ 2 ∷ 2 ∷ 4 ∷ 2
    ∷ 1 ∷ 0 ∷ 0 ∷ 0 ∷ 1 ∷ 0 ∷ 0 ∷ 0 ∷ 254 ∷ 255 ∷ 255 ∷ 255
    ∷ 2 ∷ 0 ∷ 0 ∷ 0 ∷ 2 ∷ 0 ∷ 0 ∷ 0 ∷ 252 ∷ 255 ∷ 255 ∷ 255
    ∷ 1 ∷ 0 ∷ 0 ∷ 0 ∷ 1 ∷ 0 ∷ 0 ∷ 0 ∷ 254 ∷ 255 ∷ 255 ∷ 255 ∷ []
