-- The floor theorem's proof. Its statement is specs/Floor.antt.
-- First for any worth φ of points, no less than 0 at those that keep their sign; then for monomials at h / d, lifted to
-- a degree that no point exceeds; last what it says of whole numbers, without limits and without a mask, and of several
-- denominators.
use mathlib.Core.Path.{◌≡◌, sym, ◌∙◌, ap}
use mathlib.Core.Bool.{true}
use mathlib.Core.List.{List, [], ◌∷◌, ◌++◌}
use mathlib.Core.Logic.{◌↔◌}
use Prim.Native.Nat.{ℕ, ◌+◌, ◌*◌, ◌%◌, ◌^◌, ◌<◌, ◌≤◌}
use native.Mathlib.Decide.{ℕ_discrete, dec_lt}
use native.Mathlib.Nat.{mul-le-mul_right, le_refl, one-le-pow}
use native.Mathlib.Omega.{arith}
use lib.IntN.{ℤ, pos, negsuc, neg_ℤ, ◌+ℤ◌, ◌*ℤ◌, *ℤ-zero, *ℤ_comm, one, *ℤ-one}
use lib.ListN.{length, length-replicate}
use lib.Signed.{◌≤ℤ◌}
use Rattle.integers.proofs.Integers.{ring, ints, by_eq, by_le, read_le, ≤ℤ_trans, *ℤ_nonneg, pos_nonneg, nonneg_cancel, abs_mul}
use Rattle.points.specs.Points.{Exponents, Masked, keeps_sign}
use Rattle.points.specs.Lists.{table, All}
use Rattle.points.proofs.points.Laws.{midpoint_sized}
use Rattle.points.proofs.Lists.{all_append, append_all, all_map, table_get, table_past}
use Rattle.monomials.specs.Powers.{variable, Allowed}
use Rattle.monomials.proofs.powers.Laws.{allowed_all}
use Rattle.squares.specs.Sums.{Sum, coefficient, value, value_at, gathered}
use Rattle.squares.specs.Rows.{Row, slots_at, slots_of, slots}
use Rattle.squares.specs.Domains.{Domain, Unlimited, Admits, CommonDenominator, limit_sum}
use Rattle.squares.specs.Fractions.{degree, degree_of, homogenised, value_over}
use Rattle.squares.specs.Targets.{lowered, worst, target}
use Rattle.squares.specs.Decomposition.{Sized, Whole, Placed, AddsUp, Decomposition}
use Rattle.squares.specs.Floor.{AtMost, FractionFloors, WholeFloors, Floor}
use Rattle.squares.specs.declared.rows.Weights.{Weights}
use Rattle.squares.specs.declared.rows.Weights.TheVariants.{Pair, Lone}
use Rattle.squares.proofs.Fractions.{Low, degrees_low, degree_constant, homogenised_sign, homogenised_mean, homogenised_constant, lifted, one_power, whole_value}
use Rattle.squares.proofs.limits.Laws.{limits_sized, limits_below}
use Rattle.squares.proofs.Targets.{worst_zero, worst_scaled, worst_below, target_is}
use Rattle.squares.proofs.Sums.{coefficient_append, value_append, scaled, scaled_points, coefficient_scaled, value_scaled, dominate, coefficient_none, gathered_all}
use Rattle.squares.proofs.rows.Laws.{Mean, absolute, rows_nonneg}

-- ---- any worth of points

-- weights that are S times g's with the worst sign are worth no more, at absolute values, than S times g
module _ (mask : ℕ) (φ : Exponents → ℤ) (signs : (α : Exponents) → keeps_sign mask α ≡ true → pos 0 ≤ℤ φ α) where
  worst_bounds : (S : ℕ) (g M : Sum)
      → ((α : Exponents) → coefficient α M ≡ pos S *ℤ worst (keeps_sign mask α) (coefficient α g))
      → value (absolute φ) M ≤ℤ (pos S *ℤ value φ g)
  worst_bounds S g M e =
      rw (← (value_scaled (pos S) φ g))
      (dominate φ (absolute φ) (λ α. worst (keeps_sign mask α)) (λ α. worst_zero (keeps_sign mask α))
      (λ α c. worst_below (keeps_sign mask α) c (φ α) (signs α)) (scaled (pos S) g) M
      (λ α. e α ∙ sym (worst_scaled (keeps_sign mask α) S (coefficient α g))
      ∙ ap (worst (keeps_sign mask α)) (sym (coefficient_scaled (pos S) α g))))

-- ---- the floor, for any slots M that add up and are worth at least 0 at absolute values

taken : (a c : ℤ) → a +ℤ c +ℤ negsuc 0 *ℤ c ≡ a
taken a c = by_eq (simp ring (omega ints))

kept : (a c : ℤ) → pos 0 ≤ℤ a → c ≤ℤ pos 0 → pos 0 ≤ℤ (a +ℤ negsuc 0 *ℤ c)
kept a c h k = by_le (simp ring (omega ints))

module _ (D : Domain) (S : ℕ) (b : ℤ) (f M : Sum) (sf : Sized D.n f) (sm : Sized D.n M)
    (e : AddsUp D.n (target D S (lowered D.n b f)) M) where
  abbrev g : Sum
  g = lowered D.n b f

  -- with what the limits add taken off, they add up to S times g with the worst sign
  abbrev less : Sum
  less = scaled (negsuc 0) (limit_sum D)

  less_sized : Sized D.n (M ++ less)
  less_sized =
      all_append (λ t. length t.0 ≡ D.n) M less sm
      (scaled_points (λ α. length α ≡ D.n) (negsuc 0) (limit_sum D) (limits_sized D D.n))

  -- at every point of n exponents, and so at every point
  less_adds : (α : Exponents) → coefficient α (M ++ less) ≡ pos S *ℤ worst (keeps_sign D.mask α) (coefficient α g)
  unfolding lowered
  less_adds α = go (ℕ_discrete (length α) D.n)
    where
      go : Dec (length α ≡ D.n) → coefficient α (M ++ less) ≡ pos S *ℤ worst (keeps_sign D.mask α) (coefficient α g)
      go (yes k) =
          coefficient_append α M less
          ∙ rw (coefficient_scaled (negsuc 0) α (limit_sum D), e α k, target_is D S g α)
          (taken _ (coefficient α (limit_sum D)))
      go (no d) =
          let none = coefficient_none (λ β. length β ≡ D.n) α in
          rw (none (M ++ less) less_sized d, none g (length-replicate D.n 0, sf) d)
          (rw (worst_zero (keeps_sign D.mask α)) (sym (*ℤ-zero (pos S))))

  worth_floor : (φ : Exponents → ℤ) → ((α : Exponents) → keeps_sign D.mask α ≡ true → pos 0 ≤ℤ φ α) → 0 < S
      → value (absolute φ) (limit_sum D) ≤ℤ pos 0 → pos 0 ≤ℤ value (absolute φ) M → pos 0 ≤ℤ value φ g
  worth_floor φ signs s low h =
      let apart : value (absolute φ) (M ++ less) ≡ value (absolute φ) M +ℤ negsuc 0 *ℤ value (absolute φ) (limit_sum D) =
      value_append (absolute φ) M less ∙ rw (value_scaled (negsuc 0) (absolute φ) (limit_sum D)) in
      nonneg_cancel S (value φ g) s
      (≤ℤ_trans (rw apart (kept _ _ h low)) (worst_bounds D.mask φ signs S g (M ++ less) less_adds))

-- ---- the slots of rows

slots_sized : (n : ℕ) (v w : Exponents) (s : Weights) → length v ≡ n → length w ≡ n → Sized n (slots_at v w s)
unfolding slots_at
slots_sized n v w (Pair p q r) h k = (h, (k, (midpoint_sized v w n h k, tt)))
slots_sized n v w (Lone p) h k = (h, tt)

rows_sized : (n : ℕ) (rows : List Row) → All (Placed n) rows → Sized n (slots rows)
rows_sized n rows t =
    gathered_all slots_of (λ t. length t.0 ≡ n) rows
    (all_map _ _ rows (λ a h. slots_sized n a.v a.w a.weights h.v_length h.w_length) t)

-- at h / d a pair's midpoint is worth the mean of its ends, where no slot has a degree above E
module _ (E d : ℕ) (h : List ℤ) where
  means : (v w : Exponents) (s : Weights) → Whole v w s → Low E (slots_at v w s) → Mean (homogenised E d h) v w s
  unfolding slots_at
  means v w (Pair p q r) t low = homogenised_mean E d h v w low.0 low.1.0 t
  means v w (Lone p) t low = tt

  all_means : (n : ℕ) (rows : List Row) → All (Placed n) rows → Low E (slots rows)
      → All (λ a. Mean (homogenised E d h) a.v a.w a.weights) rows
  unfolding gathered
  all_means n [] t low = tt
  all_means n (a ∷ rows) t low =
      let q = append_all (λ t. degree t.0 ≤ E) (slots_of a) (slots rows) low in
      (means a.v a.w a.weights t.0.whole q.0, all_means n rows t.1 q.1)

-- ---- monomials at h / d

-- f − b is not negative, so b is at most f
raise : (b q v : ℤ) → pos 0 ≤ℤ (neg_ℤ b *ℤ q +ℤ v) → (b *ℤ q) ≤ℤ v
raise b q v h = let s = simp ring at (read_le h) in by_le (simp ring (omega arith))

-- the floor, for slots of any kind of row that are worth at least 0 at absolute values, lifted to an even degree that
-- none exceeds
slots_floor : (D : Domain) (S : ℕ) (b : ℤ) (f M : Sum) → 0 < S → Sized D.n f → Sized D.n M
    → AddsUp D.n (target D S (lowered D.n b f)) M → (d : ℕ) (h : List ℤ) → 0 < d → Admits D d h
    → ((E : ℕ) → E % 2 ≡ 0 → Low E M → pos 0 ≤ℤ value (absolute (homogenised E d h)) M)
    → AtMost b f d h
unfolding lowered value
slots_floor D S b f M s sf sm e d h l a nonneg =
    let T = degree_of f in
    let k = T + (degree_of M + degree_of (limit_sum D)) * 2 in
    let E = T + k in
    let g = lowered D.n b f in
    let v = value (homogenised T d h) g in
    let lift : value (homogenised E d h) g ≡ v *ℤ pos (d ^ k) =
    lifted T k d h g (rw (degree_constant D.n) (omega arith), degrees_low T f (le_refl T)) in
    let high : pos 0 ≤ℤ (v *ℤ pos (d ^ k)) =
    rw lift at (worth_floor D S b f M sf sm e (homogenised E d h) (homogenised_sign E d h D.mask a.allowed) s
    (limits_below D E d h a D.n (le_refl D.n) (degrees_low E (limit_sum D) (omega arith)))
    (nonneg E (omega arith) (degrees_low E M (omega arith)))) in
    let low : pos 0 ≤ℤ v = nonneg_cancel (d ^ k) v (one-le-pow k d l) (rw (*ℤ_comm v (pos (d ^ k))) at high) in
    raise b (pos (d ^ T)) (value_over d h f) (rw (homogenised_constant T d h D.n) at low)

rows_floor : (D : Domain) (S : ℕ) (b : ℤ) (f : Sum) (rows : List Row) → Decomposition D S b f rows
    → FractionFloors D b f
rows_floor D S b f rows t d h l a =
    slots_floor D S b f (slots rows) t.scale t.sized (rows_sized D.n rows t.placed) t.adds_up d h l a
    (λ E even low. rows_nonneg (homogenised E d h) rows (all_means E d h D.n rows t.placed low) t.hold)

-- ---- whole numbers, where d is 1; without limits, and without a mask

at_whole : (b : ℤ) (f : Sum) (x : List ℤ) → AtMost b f 1 x → b ≤ℤ value_at x f
unfolding one
at_whole b f x h = rw (one_power (degree_of f), whole_value (degree_of f) x f, *ℤ-one b) at h

module _ (D : Domain) (d : ℕ) (h : List ℤ) (u : Unlimited D.limits) where
  pub admits_allowed : Allowed D.mask h → Admits D d h
  admits_allowed a = record { allowed = a; within = λ i l p. let z = u i in absurd (omega arith) }

  pub admits_all : D.mask ≡ 0 → Admits D d h
  admits_all z = admits_allowed (allowed_all D.mask h z)

module _ (D : Domain) (b : ℤ) (f : Sum) (u : Unlimited D.limits) where
  pub floors_unlimited : WholeFloors D b f ↔ ((x : List ℤ) → Allowed D.mask x → b ≤ℤ value_at x f)
  floors_unlimited = (λ h x a. h x (admits_allowed D 1 x u a), λ h x a. h x a.allowed)

  pub floors_unmasked : D.mask ≡ 0 → WholeFloors D b f ↔ ((x : List ℤ) → b ≤ℤ value_at x f)
  floors_unmasked z = (λ h x. h x (admits_all D 1 x u z), λ h x a. h x)

pub floor : Floor
floor D S b f rows t =
    let whole : WholeFloors D b f = λ x a. at_whole b f x (rows_floor D S b f rows t 1 x (omega arith) a) in
    record {
      fractions = rows_floor D S b f rows t;
      whole = whole;
      unlimited = λ u. (floors_unlimited D b f u).0 whole;
      everywhere = λ u z. (floors_unmasked D b f u z).0 whole;
    }

-- ---- a common denominator

pub common_denominator : CommonDenominator
common_denominator D p q m d e a w = record {
  allowed = λ i k. go i k (dec_lt i D.n);
  within = λ i l f. rw (table_get over (pos 1) D.n i l, abs_mul (p i) (pos (m i)), ← (e i l))
      (omega (arith, mul-le-mul_right (m i) (w i l f)));
}
  where
    over : ℕ → ℤ
    over i = p i *ℤ pos (m i)

    go : (i : ℕ) → Masked D.mask i → Dec (i < D.n) → pos 0 ≤ℤ variable (table over D.n) i
    go i k (yes l) = rw (table_get over (pos 1) D.n i l) (*ℤ_nonneg (a i k) (pos_nonneg (m i)))
    go i k (no l) = rw (table_past over (pos 1) D.n i (omega arith)) (pos_nonneg 1)
