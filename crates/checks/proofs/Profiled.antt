-- What a profile asks of sheets, from what they are under another.
use mathlib.Core.List.{List}
use Prim.Native.Nat.{ℕ}
use Rattle.bounds.specs.Profiles.{full_profile}
use Rattle.bounds.specs.declared.profiles.Profile.{Profile}
use Rattle.bounds.proofs.profiles.Laws.{full_larger}
use Rattle.checks.specs.Profiled.{FormedUnder}
use Rattle.checks.proofs.Full.{input_full}
use Rattle.checks.proofs.input.Laws.{range_formed, fits_formed, formed_under, formed_larger}

pub formed_profiled : (c s l : List ℕ) (π : Profile) → FormedUnder c s l π
formed_profiled c s l π = (
  λ f.
      let r = range_formed c s l π f in (
        r,
        rw (← (input_full c s l).formed) (formed_larger c s l π full_profile (full_larger π r) f),
        fits_formed c s l π f,
      ),
  λ p. formed_under c s l full_profile (rw (input_full c s l).formed p.1) π p.0 p.2,
)
