-- The laws of ℤ that the whole project shares: equations, orders and bounds over ℤ, decided by `simp` and `omega`.
--
--     by_eq (simp ring (omega ints))        x ≡ y
--     by_le (simp ring (omega ints))        x ≤ℤ y, and so by_fits
--     simp ring at (read_le h)              a fact h : x ≤ℤ y, read for `omega`; and so read_eq, read_fits
--
-- Each integer is a difference of naturals, its parts `up` and `dn`. A mark goes down to the unknowns, each becomes a
-- difference, and what is left is arithmetic of naturals.
use mathlib.Core.Path.{◌≡◌, refl, sym, ap, subst}
use mathlib.Core.Logic.{◌⊎◌, inl, inr, ⊎_elim, ◌↔◌}
use mathlib.Core.Bool.{Bool, true, false, not, cond}
use Prim.Native.Nat.{ℕ, zero, suc, ◌+◌, ◌*◌, ◌-◌, ◌<◌, ◌≤◌, ◌^◌, min}
use native.Mathlib.Nat.{mul-le-mul_right}
use native.Mathlib.Omega.{arith}
use lib.Dec.{T, ltb, ltb→lt, nltb→le, leb→le, le→leb, lt→ltb}
use lib.IntN.{ℤ, pos, negsuc, neg_ℤ, nat_abs, sub_ℕ, ◌+ℤ◌, ◌-ℤ◌, ◌*ℤ◌, zero-*ℤ, *ℤ_comm, neg_ℤ-+ℤ, neg_ℤ-neg_ℤ}
use lib.Signed.{mag, lt_z, le_z, non_neg, ◌≤ℤ◌, ◌<ℤ◌, ≤ℤ_refl, lt_z_no}
use mir.Syntax.{Width, w64}
use mir.Val.{Fits, SFits, hbits, to_z, of_z}

-- ---- differences of naturals

-- a − b
infixl 60 ◌⊖◌
pub ◌⊖◌ : ℕ → ℕ → ℤ
a ⊖ b = sub_ℕ a b

-- z is a − b, by its sign
data Diff (a b : ℕ) : ℤ → Type 0 where
  over : (k : ℕ) → a ≡ b + k → Diff a b (pos k)
  under : (k : ℕ) → b ≡ a + suc k → Diff a b (negsuc k)

diff : (a b : ℕ) → Diff a b (a ⊖ b)
unfolding ◌⊖◌
diff a b = go (ltb a b) (ltb→lt a b) (nltb→le a b)
  where
    go : (c : Bool) → (T c → a < b) → (T (not c) → b ≤ a) → Diff a b (cond c (negsuc (b - suc a)) (pos (a - b)))
    go true f g = let h = f tt in under (b - suc a) (omega arith)
    go false f g = let h = g tt in over (a - b) (omega arith)

same : {a b c d : ℕ} {m n : ℤ} → Diff a b m → Diff c d n → a + d ≡ c + b → m ≡ n
same (over k p) (over l q) e = ap pos (omega arith)
same (over k p) (under l q) e = absurd (omega arith)
same (under k p) (over l q) e = absurd (omega arith)
same (under k p) (under l q) e = ap negsuc (omega arith)

negated : {a b : ℕ} {m : ℤ} → Diff a b m → Diff b a (neg_ℤ m)
negated (over zero p) = over zero (omega arith)
negated (over (suc k) p) = under k (omega arith)
negated (under k p) = over (suc k) p

moved : {a b : ℕ} {m : ℤ} (c d : ℕ) → Diff a b m → a + d ≡ c + b → Diff c d m
moved c d (over k p) e = over k (omega arith)
moved c d (under k p) e = under k (omega arith)

sum : {a b c d : ℕ} {m n : ℤ} → Diff a b m → Diff c d n → Diff (a + c) (b + d) (m +ℤ n)
unfolding ◌⊖◌
sum (over k p) (over l q) = over (k + l) (omega arith)
sum (over k p) (under l q) = moved _ _ (diff k (suc l)) (omega arith)
sum (under k p) (over l q) = moved _ _ (diff l (suc k)) (omega arith)
sum (under k p) (under l q) = under (suc (k + l)) (omega arith)

product : {a b c d : ℕ} {m n : ℤ} → Diff a b m → Diff c d n → Diff (a * c + b * d) (a * d + b * c) (m *ℤ n)
product (over k p) (over l q) = over (k * l) (rw (p, q) (omega arith))
product (over k p) (under l q) = negated (over (k * suc l) (rw (p, q) (omega arith)))
product (under k p) (over l q) = negated (over (suc k * l) (rw (p, q) (omega arith)))
product (under k p) (under l q) = over (suc k * suc l) (rw (p, q) (omega arith))

pub ⊖-neg : (a b : ℕ) → neg_ℤ (a ⊖ b) ≡ b ⊖ a
⊖-neg a b = same (negated (diff a b)) (diff b a) refl

pub ⊖-add : (a b c d : ℕ) → (a ⊖ b) +ℤ (c ⊖ d) ≡ (a + c) ⊖ (b + d)
⊖-add a b c d = same (sum (diff a b) (diff c d)) (diff (a + c) (b + d)) refl

pub ⊖-mul : (a b c d : ℕ) → (a ⊖ b) *ℤ (c ⊖ d) ≡ (a * c + b * d) ⊖ (a * d + b * c)
⊖-mul a b c d = same (product (diff a b) (diff c d)) (diff (a * c + b * d) (a * d + b * c)) refl

⊖-pos : (n : ℕ) → pos n ≡ n ⊖ 0
⊖-pos n = same (over n (omega arith)) (diff n 0) refl

⊖-negsuc : (n : ℕ) → negsuc n ≡ 0 ⊖ suc n
⊖-negsuc n = same (under n (omega arith)) (diff 0 (suc n)) refl

-- ---- their order and size

below : {a b c d : ℕ} {m n : ℤ} → Diff a b m → Diff c d n → a + d ≤ c + b → T (le_z m n)
below (over k p) (over l q) h = le→leb k l (omega arith)
below (over k p) (under l q) h = absurd (omega arith)
below (under k p) (over l q) h = tt
below (under k p) (under l q) h = le→leb l k (omega arith)

above : {a b c d : ℕ} {m n : ℤ} → Diff a b m → Diff c d n → T (le_z m n) → a + d ≤ c + b
above (over k p) (over l q) h = omega (arith, leb→le k l h)
above (over k p) (under l q) h = absurd h
above (under k p) (over l q) h = omega arith
above (under k p) (under l q) h = omega (arith, leb→le l k h)

strictly_below : {a b c d : ℕ} {m n : ℤ} → Diff a b m → Diff c d n → a + d < c + b → T (lt_z m n)
strictly_below (over k p) (over l q) h = lt→ltb k l (omega arith)
strictly_below (over k p) (under l q) h = absurd (omega arith)
strictly_below (under k p) (over l q) h = tt
strictly_below (under k p) (under l q) h = lt→ltb l k (omega arith)

strictly_above : {a b c d : ℕ} {m n : ℤ} → Diff a b m → Diff c d n → T (lt_z m n) → a + d < c + b
strictly_above (over k p) (over l q) h = omega (arith, ltb→lt k l h)
strictly_above (over k p) (under l q) h = absurd h
strictly_above (under k p) (over l q) h = omega arith
strictly_above (under k p) (under l q) h = omega (arith, ltb→lt l k h)

size : {a b : ℕ} {m : ℤ} → Diff a b m → nat_abs m ≡ (a - b) + (b - a)
size (over k p) = omega arith
size (under k p) = omega arith

fitting : {a b : ℕ} {m : ℤ} (w : Width) → Diff a b m → SFits w m ↔ ((a < 2 ^ hbits w + b) × (b ≤ 2 ^ hbits w + a))
fitting w (over k p) = (λ f. (omega arith, omega arith), λ h. record { sfits = omega arith })
fitting w (under k p) = (λ f. (omega arith, omega arith), λ h. record { sfits = omega arith })

pub ⊖-le : (a b c d : ℕ) → ((a ⊖ b) ≤ℤ (c ⊖ d)) ↔ (a + d ≤ c + b)
⊖-le a b c d = (λ h. above (diff a b) (diff c d) h.le, λ h. record { le = below (diff a b) (diff c d) h })

pub ⊖-lt : (a b c d : ℕ) → ((a ⊖ b) <ℤ (c ⊖ d)) ↔ (a + d < c + b)
⊖-lt a b c d = (
  λ h. strictly_above (diff a b) (diff c d) h.lt,
  λ h. record { lt = strictly_below (diff a b) (diff c d) h },
)

pub ⊖-eq : (a b c d : ℕ) → (a ⊖ b ≡ c ⊖ d) ↔ (a + d ≡ c + b)
⊖-eq a b c d = (
  λ e. omega (arith, (⊖-le a b c d).0 (rw e (≤ℤ_refl (c ⊖ d))), (⊖-le c d a b).0 (rw e (≤ℤ_refl (c ⊖ d)))),
  same (diff a b) (diff c d),
)

pub ⊖-fits : (w : Width) (a b : ℕ) → SFits w (a ⊖ b) ↔ ((a < 2 ^ hbits w + b) × (b ≤ 2 ^ hbits w + a))
⊖-fits w a b = fitting w (diff a b)

pub ⊖-abs : (a b : ℕ) → nat_abs (a ⊖ b) ≡ (a - b) + (b - a)
⊖-abs a b = size (diff a b)

-- ---- every integer is one

-- the part above zero, and the part below
abbrev pub up : ℤ → ℕ
up (pos n) = n
up (negsuc n) = 0

abbrev pub dn : ℤ → ℕ
dn (pos n) = 0
dn (negsuc n) = suc n

parts : (z : ℤ) → z ≡ up z ⊖ dn z
parts (pos n) = ⊖-pos n
parts (negsuc n) = ⊖-negsuc n

-- the mark: an integer that is to be read as a difference
pub read : ℤ → ℤ
read z = z

pub read_add : (x y : ℤ) → read (x +ℤ y) ≡ read x +ℤ read y
unfolding read
read_add x y = refl

pub read_mul : (x y : ℤ) → read (x *ℤ y) ≡ read x *ℤ read y
unfolding read
read_mul x y = refl

pub read_neg : (x : ℤ) → read (neg_ℤ x) ≡ neg_ℤ (read x)
unfolding read
read_neg x = refl

pub read_pos : (n : ℕ) → read (pos n) ≡ n ⊖ 0
unfolding read
read_pos n = ⊖-pos n

pub read_negsuc : (n : ℕ) → read (negsuc n) ≡ 0 ⊖ suc n
unfolding read
read_negsuc n = ⊖-negsuc n

-- what a sum of two numbers of known signs has computed to
pub read_sub : (a b : ℕ) → read (sub_ℕ a b) ≡ a ⊖ b
unfolding read ◌⊖◌
read_sub a b = refl

pub read-⊖ : (a b : ℕ) → read (a ⊖ b) ≡ a ⊖ b
unfolding read
read-⊖ a b = refl

pub read_parts : (x : ℤ) → read x ≡ up x ⊖ dn x
unfolding read
read_parts x = parts x

-- the mark goes in
pub ruleset marks = (read_add, read_mul, read_neg, read_pos, read_negsuc, read_sub, read-⊖, read_parts)

pub ruleset ring = (marks, ⊖-add, ⊖-mul, ⊖-neg, ⊖-eq, ⊖-le, ⊖-lt, ⊖-fits, ⊖-abs)

-- a goal, from its reading
pub by_eq : {x y : ℤ} → read x ≡ read y → x ≡ y
unfolding read
by_eq h = h

pub by_le : {x y : ℤ} → read x ≤ℤ read y → x ≤ℤ y
unfolding read
by_le h = h

by_lt : {x y : ℤ} → read x <ℤ read y → x <ℤ y
unfolding read
by_lt h = h

pub by_fits : {w : Width} {x : ℤ} → SFits w (read x) → SFits w x
unfolding read
by_fits h = h

by_abs : (x : ℤ) → nat_abs x ≡ nat_abs (read x)
unfolding read
by_abs x = refl

-- a fact's reading
pub read_eq : {x y : ℤ} → x ≡ y → read x ≡ read y
unfolding read
read_eq h = h

pub read_le : {x y : ℤ} → x ≤ℤ y → read x ≤ℤ read y
unfolding read
read_le h = h

read_lt : {x y : ℤ} → x <ℤ y → read x <ℤ read y
unfolding read
read_lt h = h

pub read_fits : {w : Width} {x : ℤ} → SFits w x → SFits w (read x)
unfolding read
read_fits h = h

-- ---- facts between unknowns, read by `omega` as they stand

pub le_parts : {x y : ℤ} → x ≤ℤ y → up x + dn y ≤ up y + dn x
le_parts h = simp ring at (read_le h)

pub lt_parts : {x y : ℤ} → x <ℤ y → up x + dn y < up y + dn x
lt_parts h = simp ring at (read_lt h)

pub eq_parts : {x y : ℤ} → x ≡ y → up x + dn y ≡ up y + dn x
eq_parts h = simp ring at (read_eq h)

pub parts_le : {x y : ℤ} → up x + dn y ≤ up y + dn x → x ≤ℤ y
parts_le h = by_le (simp ring h)

pub parts_lt : {x y : ℤ} → up x + dn y < up y + dn x → x <ℤ y
parts_lt h = by_lt (simp ring h)

pub parts_eq : {x y : ℤ} → up x + dn y ≡ up y + dn x → x ≡ y
parts_eq h = by_eq (simp ring h)

-- a test of two signed numbers that held or failed, as a branch leaves it
pub lt_z_true : (x y : ℤ) → lt_z x y ≡ true → x <ℤ y
lt_z_true x y e = record { lt = subst T (sym e) tt }

pub lt_z_false : (x y : ℤ) → lt_z x y ≡ false → y ≤ℤ x
lt_z_false x y e = lt_z_no (subst (λ b. T (not b)) (sym e) tt)

≤ℤ_or-<ℤ : (x y : ℤ) → (x ≤ℤ y) ⊎ (y <ℤ x)
≤ℤ_or-<ℤ x y = pick (lt_z y x) refl
  where
    pick : (t : Bool) → lt_z y x ≡ t → (x ≤ℤ y) ⊎ (y <ℤ x)
    pick true e = inr (lt_z_true y x e)
    pick false e = inl (lt_z_false y x e)

le_z_true : (x y : ℤ) → le_z x y ≡ true → x ≤ℤ y
le_z_true x y e = record { le = subst T (sym e) tt }

le_z_false : (x y : ℤ) → le_z x y ≡ false → y <ℤ x
le_z_false x y e = ⊎_elim (λ h. absurd (subst T e h.le)) (λ h. h) (≤ℤ_or-<ℤ x y)

-- and the test from the fact
pub le_lt_z : {x y : ℤ} → y ≤ℤ x → lt_z x y ≡ false
le_lt_z {x} {y} h = pick (lt_z x y) (lt_z_true x y)
  where
    pick : (b : Bool) → (b ≡ true → x <ℤ y) → b ≡ false
    pick true f = let g = f refl in absurd (omega (arith, le_parts h, lt_parts g))
    pick false f = refl

pub lt_z_parts : (x y : ℤ) → lt_z x y ≡ true → up x + dn y < up y + dn x
lt_z_parts x y e = lt_parts (lt_z_true x y e)

pub not_lt_z_parts : (x y : ℤ) → lt_z x y ≡ false → up y + dn x ≤ up x + dn y
not_lt_z_parts x y e = le_parts (lt_z_false x y e)

pub le_z_parts : (x y : ℤ) → le_z x y ≡ true → up x + dn y ≤ up y + dn x
le_z_parts x y e = le_parts (le_z_true x y e)

pub not_le_z_parts : (x y : ℤ) → le_z x y ≡ false → up y + dn x < up x + dn y
not_le_z_parts x y e = lt_parts (le_z_false x y e)

pub ruleset tests = (lt_z_parts, not_lt_z_parts, le_z_parts, not_le_z_parts)

pub ruleset ints = (arith, le_parts, lt_parts, eq_parts, parts_le, parts_lt, parts_eq, tests)

-- what `omega`'s list needs to hear of an unknown where absolute values, ranges or signs count
pub record Sizes (z : ℤ) : Type 0 where
  pub abs : nat_abs z ≡ up z + dn z
  pub range : mag z ≡ up z + (dn z - 1)
  pub sign : min (up z) (dn z) ≡ 0

pub sizes : (z : ℤ) → Sizes z
sizes (pos n) = omega arith
sizes (negsuc n) = omega arith

-- ---- the ring

pub *ℤ_assoc : (x y z : ℤ) → (x *ℤ y) *ℤ z ≡ x *ℤ (y *ℤ z)
*ℤ_assoc x y z = by_eq (simp ring (omega ints))

*ℤ_left_comm : (x y z : ℤ) → x *ℤ (y *ℤ z) ≡ y *ℤ (x *ℤ z)
*ℤ_left_comm x y z = by_eq (simp ring (omega ints))

pub *ℤ-+ℤ : (x y z : ℤ) → x *ℤ (y +ℤ z) ≡ x *ℤ y +ℤ x *ℤ z
*ℤ-+ℤ x y z = by_eq (simp ring (omega ints))

+ℤ-*ℤ : (x y z : ℤ) → (x +ℤ y) *ℤ z ≡ x *ℤ z +ℤ y *ℤ z
+ℤ-*ℤ x y z = by_eq (simp ring (omega ints))

pub negℤ-*ℤ : (x y : ℤ) → neg_ℤ x *ℤ y ≡ neg_ℤ (x *ℤ y)
negℤ-*ℤ x y = by_eq (simp ring (omega ints))

*ℤ_negℤ : (x y : ℤ) → x *ℤ neg_ℤ y ≡ neg_ℤ (x *ℤ y)
*ℤ_negℤ x y = by_eq (simp ring (omega ints))

pub one-*ℤ : (x : ℤ) → pos 1 *ℤ x ≡ x
one-*ℤ x = by_eq (simp ring (omega ints))

pub *ℤ_swap : (a b c d : ℤ) → (a *ℤ b) *ℤ (c *ℤ d) ≡ (a *ℤ c) *ℤ (b *ℤ d)
*ℤ_swap a b c d = by_eq (simp ring (omega ints))

-- ---- the order

pub ≤ℤ_trans : {x y z : ℤ} → x ≤ℤ y → y ≤ℤ z → x ≤ℤ z
≤ℤ_trans h k = omega ints

pub +ℤ_mono : {x y u v : ℤ} → x ≤ℤ y → u ≤ℤ v → (x +ℤ u) ≤ℤ (y +ℤ v)
+ℤ_mono h k = by_le (simp ring (omega ints))

pub *ℤ_mono : {x y z : ℤ} → pos 0 ≤ℤ z → x ≤ℤ y → (x *ℤ z) ≤ℤ (y *ℤ z)
*ℤ_mono {z = pos k} h l = by_le (simp ring (omega (ints, mul-le-mul_right k (le_parts l))))
*ℤ_mono {z = negsuc k} h l = absurd h.le

pub pos_nonneg : (n : ℕ) → pos 0 ≤ℤ pos n
pos_nonneg n = omega ints

pub square_nonneg : (x : ℤ) → pos 0 ≤ℤ (x *ℤ x)
square_nonneg (pos n) = pos_nonneg (n * n)
square_nonneg (negsuc n) = pos_nonneg (suc n * suc n)

pub *ℤ_nonneg : {x y : ℤ} → pos 0 ≤ℤ x → pos 0 ≤ℤ y → pos 0 ≤ℤ (x *ℤ y)
*ℤ_nonneg {x} {y} h k = rw (zero-*ℤ y) at (*ℤ_mono k h)

pub nonneg_cancel : (k : ℕ) (x : ℤ) → 0 < k → pos 0 ≤ℤ (pos k *ℤ x) → pos 0 ≤ℤ x
nonneg_cancel k (pos n) h l = pos_nonneg n
nonneg_cancel k (negsuc n) h l = let s = simp ring at (read_le l) in absurd (omega arith)

-- ---- absolute values

pub abs_add : (x y : ℤ) → nat_abs (x +ℤ y) ≤ nat_abs x + nat_abs y
abs_add x y = rw (by_abs (x +ℤ y)) (simp ring (omega (ints, sizes x, sizes y)))

pub abs_between : {x y z : ℤ} (m : ℕ) → x ≤ℤ y → y ≤ℤ z → nat_abs x ≤ m → nat_abs z ≤ m → nat_abs y ≤ m
abs_between {x} {y} {z} m l h a b = omega (ints, l, h, a, b, sizes x, sizes y, sizes z)

pub abs_neg : (x : ℤ) → nat_abs (neg_ℤ x) ≡ nat_abs x
abs_neg (pos zero) = refl
abs_neg (pos (suc n)) = refl
abs_neg (negsuc n) = refl

pub abs_sub : (x y : ℤ) → nat_abs (x -ℤ y) ≤ nat_abs x + nat_abs y
abs_sub x y = omega (arith, abs_add x (neg_ℤ y), abs_neg y)

pub abs_mul : (x y : ℤ) → nat_abs (x *ℤ y) ≡ nat_abs x * nat_abs y
abs_mul (pos a) (pos b) = refl
abs_mul (pos a) (negsuc b) = abs_neg (pos (a * suc b))
abs_mul (negsuc a) (pos b) = abs_neg (pos (suc a * b))
abs_mul (negsuc a) (negsuc b) = refl

pub abs_zero : (x : ℤ) → nat_abs x ≡ 0 → x ≡ pos 0
abs_zero x h = omega (ints, sizes x)

pub abs_nonneg : {x : ℤ} → pos 0 ≤ℤ x → pos (nat_abs x) ≡ x
abs_nonneg {x = pos n} h = refl
abs_nonneg {x = negsuc n} h = absurd h.le

-- a difference that is not negative
pub difference_nonneg : {x y : ℤ} → y ≤ℤ x → pos 0 ≤ℤ (x -ℤ y)
difference_nonneg l = by_le (simp ring (omega (ints, l)))

pub abs_difference : {x y : ℤ} → y ≤ℤ x → pos (nat_abs (x -ℤ y)) ≡ x -ℤ y
abs_difference l = abs_nonneg (difference_nonneg l)

pub neg_abs-≤ℤ : (x : ℤ) → neg_ℤ (pos (nat_abs x)) ≤ℤ x
neg_abs-≤ℤ x = by_le (simp ring (omega (ints, sizes x)))

-- ---- signed widths

-- a number with a bound on its absolute value fits
pub fits_within : {w : Width} (z : ℤ) (k : ℕ) → nat_abs z ≤ k → k < 2 ^ hbits w → SFits w z
fits_within z k h l = by_fits (simp ring (omega (ints, sizes z)))

-- what the machine reads back of a signed number that it wrote
abbrev pub back : ℤ → ℤ
back z = to_z w64 (of_z w64 z)

-- a cast of a number that is n: its value, that it is not negative, and that it fits where n does
module _ {y : ℤ} {n : ℕ} (e : y ≡ pos n) where
  pub cast_value : nat_abs y ≡ n
  cast_value = ap nat_abs e

  pub cast_sign : T (non_neg y)
  cast_sign = rw e tt

  pub cast_fits : {w : Width} → Fits w n → Fits w (nat_abs y)
  cast_fits f = rw e f

pub ruleset casts = (cast_value, cast_sign, cast_fits)

-- a bound, of what the machine reads back
pub back_small : (r r' : ℤ) (m : ℕ) → nat_abs r ≤ m → r' ≡ r → nat_abs r' ≤ m
back_small r r' m h e = rw e h

-- ---- large identities

-- Where `omega` would meet more products than it takes (64), multiply out over ℤ first and take each as one unknown:
--     by_eq (simp expand (simp linear (omega ints)))
-- A numeral stands at the right of its product. Nothing uses this yet: requests 5 and 11 need it.

-- k times x
times : ℕ → ℤ → ℤ
times k x = x *ℤ pos k

to_times : (x : ℤ) (k : ℕ) → x *ℤ pos k ≡ times k x
unfolding times
to_times x k = refl

times_add : (k : ℕ) (x y : ℤ) → times k (x +ℤ y) ≡ times k x +ℤ times k y
unfolding times
times_add k x y = by_eq (simp ring (omega ints))

times_neg : (k : ℕ) (x : ℤ) → times k (neg_ℤ x) ≡ neg_ℤ (times k x)
unfolding times
times_neg k x = by_eq (simp ring (omega ints))

times_times : (k j : ℕ) (x : ℤ) → times k (times j x) ≡ times (k * j) x
unfolding times
times_times k j x = by_eq (simp ring (omega ints))

times_mul : (k : ℕ) (x y : ℤ) → times k x *ℤ y ≡ times k (x *ℤ y)
unfolding times
times_mul k x y = by_eq (simp ring (omega ints))

mul_times : (k : ℕ) (x y : ℤ) → x *ℤ times k y ≡ times k (x *ℤ y)
unfolding times
mul_times k x y = by_eq (simp ring (omega ints))

read_times : (k : ℕ) (x : ℤ) → read (times k x) ≡ k * up x ⊖ k * dn x
unfolding times
read_times k x = simp ring (omega ints)

ruleset multiples = (to_times, times_add, times_neg, times_times, times_mul, mul_times)

ruleset signs = (negℤ-*ℤ, *ℤ_negℤ, neg_ℤ-+ℤ, neg_ℤ-neg_ℤ)

ruleset expand = (multiples, signs, *ℤ-+ℤ, +ℤ-*ℤ, *ℤ_assoc, *ℤ_comm, *ℤ_left_comm)

ruleset linear = (read_add, read_neg, read_pos, read_negsuc, read_times, read_parts, ⊖-add, ⊖-neg, ⊖-eq, ⊖-le, ⊖-lt)

-- an example that it works: the cube of a sum of three
cube : (x y z : ℤ) → (x +ℤ y +ℤ z) *ℤ (x +ℤ y +ℤ z) *ℤ (x +ℤ y +ℤ z)
    ≡ x *ℤ x *ℤ x +ℤ y *ℤ y *ℤ y +ℤ z *ℤ z *ℤ z +ℤ (x +ℤ y) *ℤ (y +ℤ z) *ℤ (z +ℤ x) *ℤ pos 3
cube x y z = by_eq (simp expand (simp linear (omega ints)))
