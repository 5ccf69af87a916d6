-- Laws of answers: what it says of each check that all are passed, the ways through checks one after another, that
-- answers are short, and the sheets' numbers.
use Rattle.std.proofs.Common.{Option, Some, None}
use mathlib.Core.Path.{◌≡◌, refl, sym, ◌∙◌}
use mathlib.Core.Bool.{Bool, true, false, cond, false≢true}
use Prim.Native.Nat.{ℕ, ◌<◌, ◌≤◌}
use native.Mathlib.Omega.{arith}
use borrow.Author.Tests.{eq-eqb, eqb-true}
use Rattle.answers.specs.Answers.{sheet_number, Answer, refusal, says, blames, accepted, refused, refuse_if, refuse_at, faultless, blameless, and_then, Passes, Short}
use Rattle.answers.specs.Searches.{first}
use Rattle.answers.specs.declared.answers.Sheet.{Sheet}
use Rattle.answers.specs.declared.answers.Sheet.TheVariants.{Claim, Proof, Output, Offsets, Range, Limits, Page, Profile, Buffer, Table, Site}
use Rattle.answers.specs.declared.answers.Verdict.{Verdict}
use Rattle.answers.specs.declared.answers.Verdict.TheVariants.{Accepted, Refused}
use Rattle.answers.proofs.searches.Laws.{first_inside}

-- a number that blames a sheet is no acceptance's
abbrev pub Blames : ℕ → Type 0
Blames number = faultless (blames number) ≡ false

pub refused_blames : (number index : ℕ) → Blames number → blameless (refused number index) ≡ false
unfolding blameless
refused_blames number index h = h

pub passes_if : (b : Bool) (number : ℕ) (later : Answer) → Blames number → Passes (refuse_if b number later)
    → (b ≡ false) × Passes later
passes_if true number later n h = absurd (false≢true (sym (refused_blames number 0 n) ∙ h))
passes_if false number later n h = (refl, h)

pub passes_at : (f : Option ℕ) (number : ℕ) (later : Answer) → Blames number → Passes (refuse_at f number later)
    → (f ≡ None) × Passes later
passes_at (Some i) number later n h = absurd (false≢true (sym (refused_blames number i n) ∙ h))
passes_at None number later n h = (refl, h)

-- every answer passes or fails
pub passes_or_fails : {A : Type 0} (a : Answer) → (Passes a → A) → (blameless a ≡ false → A) → A
passes_or_fails {A} a passing failing = go (blameless a) refl
  where
    go : (b : Bool) → blameless a ≡ b → A
    go true e = passing e
    go false e = failing e

pub passes_then : (a later : Answer) → Passes (and_then a later) → Passes a × Passes later
unfolding and_then
passes_then a later h =
    passes_or_fails a (λ e. (e, rw e at h)) (λ e. absurd (false≢true (sym e ∙ (rw e at h))))

pub then_passes : (a later : Answer) → Passes a → Passes later → Passes (and_then a later)
unfolding and_then
then_passes a later h k = rw h k

pub then_on : (a later : Answer) → Passes a → and_then a later ≡ later
unfolding and_then
then_on a later h = rw h

pub then_off : (a later : Answer) → blameless a ≡ false → and_then a later ≡ a
unfolding and_then
then_off a later h = rw h

pub if_on : (b : Bool) (number : ℕ) (later : Answer) → b ≡ false → refuse_if b number later ≡ later
if_on b number later h = rw h

pub at_on : (f : Option ℕ) (number : ℕ) (later : Answer) → f ≡ None → refuse_at f number later ≡ later
at_on f number later h = rw h

pub accepted_passes : (a : Answer) (k : ℕ) → a ≡ accepted k → Passes a
unfolding blameless accepted
accepted_passes a k e = rw e

pub refusal_fails : (x : Sheet) → blameless (refusal x) ≡ false
unfolding blameless
refusal_fails (Claim number index) = refl
refusal_fails (Proof number index) = refl
refusal_fails (Output number index) = refl
refusal_fails (Offsets number index) = refl
refusal_fails (Range number index) = refl
refusal_fails (Limits number index) = refl
refusal_fails (Page number index) = refl
refusal_fails (Profile number index) = refl
refusal_fails (Buffer number index) = refl
refusal_fails (Table number index) = refl
refusal_fails (Site number index) = refl

-- v is the verdict
module _ (v : Verdict) (a : Answer) (e : says v ≡ a) where
  pub failed : (x : Sheet) → v ≡ Refused x → blameless a ≡ false
  unfolding says
  failed x h = rw (← e, h) (refusal_fails x)

  pub passed : (k : ℕ) → v ≡ Accepted k → Passes a
  unfolding blameless says accepted
  passed k h = rw (← e, h)

-- a is what the checks before say, which a result tells, `said` what is said after those that follow
module _ (a : Answer) where
  module _ (x : Sheet) (h : refusal x ≡ a) where
    pub told_failed : blameless a ≡ false
    told_failed = rw (← h) (refusal_fails x)

    pub then_refused : (later : Answer) → refusal x ≡ and_then a later
    then_refused later = h ∙ sym (then_off a later told_failed)

  module _ (h : accepted 0 ≡ a) where
    pub told_passed : Passes a
    told_passed = accepted_passes a 0 (sym h)

    pub then_passed : (said later : Answer) → said ≡ later → said ≡ and_then a later
    unfolding and_then
    then_passed said later q = rw told_passed q

-- ---- the ways through a chain of checks

module _ (said : Answer) (wrong : Bool) (number : ℕ) (later : Answer) where
  pub refused_if : wrong ≡ true → said ≡ refused number 0 → said ≡ refuse_if wrong number later
  refused_if h k = rw h k

  pub passed_if : wrong ≡ false → said ≡ later → said ≡ refuse_if wrong number later
  passed_if h k = rw h k

-- r is what a test's function answered
pub tested : (wrong b r : Bool) → r ≡ wrong → r ≡ b → wrong ≡ b
tested wrong b r e h = sym e ∙ h

-- f is what a search answered
module _ (said : Answer) (f found : Option ℕ) (number : ℕ) (later : Answer) (e : f ≡ found) where
  pub refused_at : (i : ℕ) → f ≡ Some i → said ≡ refused number i → said ≡ refuse_at found number later
  refused_at i h k = rw (← e, h) k

  pub passed_at : f ≡ None → said ≡ later → said ≡ refuse_at found number later
  passed_at h k = rw (← e, h) k

-- ---- what a result or a verdict says

pub accepted_says : (k : ℕ) → says (Accepted k) ≡ accepted k
unfolding says
accepted_says k = refl

-- a refusal, where its sheet is the one that its number blames
pub refused_says : (x : Sheet) (number index : ℕ)
    → refusal x ≡ record { number = number; blamed = blames number; value = index }
    → says (Refused x) ≡ refused number index
unfolding says
refused_says x number index h = h

pub refusal_says : (x : Sheet) → says (Refused x) ≡ refusal x
unfolding says
refusal_says x = refl

pub accepted_value : (k : ℕ) → (says (Accepted k)).value ≡ k
unfolding says accepted
accepted_value k = refl

pub accepted_numbers : (a : Answer) (k : ℕ) → a ≡ accepted k → (a.number ≡ 0) × (a.value ≡ k)
unfolding accepted
accepted_numbers a k e = rw e (refl, refl)

-- a property of every number that checks can say
module _ (P : ℕ → Type 0) where
  pub number_accepted : (k : ℕ) → P 0 → P (accepted k).number
  unfolding accepted
  number_accepted k h = h

  pub number_if : (b : Bool) (number : ℕ) (later : Answer) → P number → P later.number
      → P (refuse_if b number later).number
  number_if true number later h k = h
  number_if false number later h k = k

  pub number_at : (f : Option ℕ) (number : ℕ) (later : Answer) → P number → P later.number
      → P (refuse_at f number later).number
  number_at (Some i) number later h k = h
  number_at None number later h k = k

  pub number_then : (a later : Answer) → P a.number → P later.number → P (and_then a later).number
  unfolding and_then
  number_then a later h k = go (blameless a)
    where
      go : (b : Bool) → P (cond b later a).number
      go true = k
      go false = h

pub refused_number : (number index : ℕ) → (refused number index).number ≡ number
refused_number number index = refl

-- ---- answers are short: a number below a limit, and a value of 16 bits

pub short_accepted : {limit : ℕ} (k : ℕ) → 0 < limit → k < 65536 → Short limit (accepted k)
unfolding accepted
short_accepted k l h = record { number_short = l; value_short = h }

pub short_refused : {limit : ℕ} (number index : ℕ) → number < limit → index < 65536 → Short limit (refused number index)
short_refused number index h k = record { number_short = h; value_short = k }

module _ {limit : ℕ} (number : ℕ) (later : Answer) (h : number < limit) (k : Short limit later) where
  pub short_if : (b : Bool) → Short limit (refuse_if b number later)
  short_if true = short_refused number 0 h (omega arith)
  short_if false = k

  pub short_at : (wrong : ℕ → Bool) (n : ℕ) → n ≤ 65536 → Short limit (refuse_at (first wrong n) number later)
  short_at wrong n l = go (first wrong n) refl
    where
      go : (f : Option ℕ) → first wrong n ≡ f → Short limit (refuse_at f number later)
      go (Some i) e = let i_below = (first_inside wrong n i e).0 in short_refused number i h (omega arith)
      go None e = k

pub short_then : {limit : ℕ} (a later : Answer) → Short limit a → Short limit later → Short limit (and_then a later)
unfolding and_then
short_then a later h k = passes_or_fails a (λ e. rw e k) (λ e. rw e h)

-- ---- the sheets' numbers: 0 says that none is at fault

module _ (a : Answer) where
  pub passed_sheet : Passes a → sheet_number a.blamed ≡ 0
  unfolding blameless
  passed_sheet h = eqb-true _ _ h

  pub sheet_passed : sheet_number a.blamed ≡ 0 → Passes a
  unfolding blameless
  sheet_passed h = eq-eqb _ _ h
