-- Laws of profiles: what it says that one is in range, and that the full one is, and is larger than all others.
use mathlib.Core.Path.{◌≡◌, refl}
use mathlib.Core.Bool.{true, and-eq-true_iff}
use borrow.Author.Tests.{le-leb, leb-true}
use Rattle.bounds.specs.Profiles.{InRange, in_range, full_profile, Larger}
use Rattle.bounds.specs.declared.profiles.Profile.{Profile}

pub range_facts : (π : Profile) → in_range π ≡ true → InRange π
unfolding in_range
range_facts π h =
    let a = (and-eq-true_iff _ _).0 h in
    let b = (and-eq-true_iff _ _).0 a.0 in
    let d = (and-eq-true_iff _ _).0 b.0 in
    record {
      exponent_within = leb-true _ _ d.0;
      weight_positive = leb-true _ _ d.1;
      weight_within = leb-true _ _ b.1;
      rows_within = leb-true _ _ a.1;
    }

pub facts_range : (π : Profile) → InRange π → in_range π ≡ true
unfolding in_range
facts_range π f =
    rw (
      le-leb _ _ f.exponent_within,
      le-leb _ _ f.weight_positive,
      le-leb _ _ f.weight_within,
      le-leb _ _ f.rows_within,
    )

pub full_range_lem : in_range full_profile ≡ true
unfolding in_range
full_range_lem = refl

pub full_larger : (π : Profile) → InRange π → Larger π full_profile
full_larger π r = record {
  is_in_range = range_facts full_profile full_range_lem;
  exponent_larger = r.exponent_within;
  weight_larger = r.weight_within;
  rows_larger = r.rows_within;
}
