-- A read into the rest of a buffer adds what it read to the bytes before.
use Rattle.std.proofs.Common.{◌≡◌, ℕ, ◌+◌, ◌≤◌, List, ◌++◌, length, take, ap, ◌∙◌, le_refl, drop_at, length-take-le}
use Rattle.std.proofs.lemmas.Slice.{take-put_mid_below}
use borrow.Rule.Slice.PartMut.{put_mid, post_of}
use lib.Seq.{take-add, take-append-le}

pub read_added : (a k n : ℕ) (xs ys : List ℕ) → a ≤ length xs → n ≤ length ys
    → take (a + n) (put_mid a k xs ys) ≡ take a xs ++ take n ys
read_added a k n xs ys l m =
    take-add a n (put_mid a k xs ys)
    ∙ rw (
      take-put_mid_below a k xs ys a (le_refl a) l,
      drop_at (take a xs) (ys ++ post_of a k xs) a (length-take-le a xs l),
    )
    (ap (λ t. take a xs ++ t) (take-append-le n ys (post_of a k xs) m))
