-- Laws of a profile's text: its labels, how long it is, and that its fields tell the profile.
use mathlib.Core.Path.{◌≡◌, refl}
use Prim.Native.Nat.{ℕ, ◌≤◌}
use native.Mathlib.Omega.{arith}
use lib.ListN.{length, length-append}
use Rattle.bounds.specs.Profiles.{InRange}
use Rattle.bounds.specs.declared.profiles.Profile.{Profile}
use Rattle.answers.specs.Answers.{says, Short}
use Rattle.answers.specs.declared.answers.Verdict.{Verdict}
use Rattle.text.specs.Text.{ascii}
use Rattle.text.proofs.lines.Laws.{counted_short}
use Rattle.listings.specs.Fields.{listing, Labelled}
use Rattle.listings.specs.Listings.{listing_answer}
use Rattle.listings.proofs.Listings.{listing_short}
use Rattle.listings.proofs.Fields.{listing_is, is_label, split_count, fields_none, fields_more}
use Rattle.listings.proofs.Putting.{count_put}
use Rattle.limits_listing.specs.OwnChecks.{profile_answer}
use Rattle.limits_listing.specs.ProfileText.{longest, profile_fields}
use Rattle.limits_listing.proofs.own_checks.Laws.{passes_range, profile_answer_short}

pub profile_labelled : (π : Profile) → Labelled (profile_fields π)
unfolding profile_fields
profile_labelled π = (is_label _ refl, (is_label _ refl, (is_label _ refl, tt)))

pub profile_short : (π : Profile) → InRange π → length (listing (profile_fields π)) ≤ longest
unfolding profile_fields
profile_short π f =
    simp (listing_is, fields_more, fields_none, count_put, length-append) (omega (
      arith,
      counted_short (ascii "profile\nexponent ") 2 π.exponent (omega (arith, f.exponent_within)),
      counted_short (ascii "\nweight ") 9 π.weight (omega (arith, f.weight_within)),
      counted_short (ascii "\nrows ") 2 π.rows (omega (arith, f.rows_within)),
    ))

-- so its length is an answer of 16 bits
pub text_short : (π : Profile) (room : ℕ) (v : Verdict)
    → says v ≡ listing_answer (profile_answer π) (profile_fields π) room → Short 65536 (says v)
text_short π room v e =
    rw e
    (listing_short (profile_answer π) (profile_fields π) room (omega arith) (profile_answer_short π (omega arith))
    (λ p. omega (arith, profile_short π (passes_range π p))))

pub profile_apart : (π ρ : Profile) → InRange π → InRange ρ → profile_fields π ≡ profile_fields ρ → π ≡ ρ
unfolding profile_fields
profile_apart π ρ f g e =
    let p = split_count e in
    let q = split_count p.1 in
    let r = split_count q.1 in
    go π.exponent ρ.exponent π.weight ρ.weight π.rows ρ.rows p.0 q.0 r.0
  where
    bounded : ℕ → ℕ → ℕ → Profile
    bounded a b d = record { exponent = a; weight = b; rows = d }

    go : (a x b y d z : ℕ) → a ≡ x → b ≡ y → d ≡ z → bounded a b d ≡ bounded x y z
    go a x b y d z p q r = rw (p, q, r)
