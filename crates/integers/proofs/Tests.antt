-- Tests that fail, by their parts; and what cannot be, from two results of one test or two values that differ.
use mathlib.Core.Path.{◌≡◌, refl, sym}
use mathlib.Core.Bool.{Bool, true, false, ◌&&◌, ◌||◌, true≢false}
use Prim.Native.Nat.{ℕ}
use native.Mathlib.Omega.{arith}

pub nor : (a b : Bool) → a || b ≡ false → (a ≡ false) × (b ≡ false)
nor true b h = absurd (true≢false h)
nor false b h = (refl, h)

pub nand : (a b : Bool) → a && b ≡ false → a ≡ true → b ≡ false
nand true b h e = h
nand false b h e = absurd (true≢false (sym e))

-- where equations in scope contradict each other: `never (cc)`
pub never : {A : Type 0} → ◌≡◌ {A = ℕ} 0 1 → A
never e = absurd (omega arith)
