-- The text of a profile.
use Rattle.std.specs.Prelude.{List, [], ◌∷◌, ℕ}
use Rattle.bounds.specs.declared.profiles.Profile.{Profile}
use Rattle.text.specs.Text.{ascii}
use Rattle.listings.specs.Fields.{Field, count}

-- "the greatest exponent .., weight .. and row count":
--   profile
--   exponent 120
--   weight 1073741824
--   rows 256
unfoldable pub profile_fields : Profile → List Field
profile_fields π =
    count (ascii "profile\nexponent ") π.exponent ∷ count (ascii "\nweight ") π.weight
    ∷ count (ascii "\nrows ") π.rows ∷ []

-- how long it is at most
abbrev pub longest : ℕ
longest = 48
