-- The steps of handing a text over.
use mathlib.Core.Path.{◌≡◌, refl, ◌∙◌}
use mathlib.Core.List.{List}
use Prim.Native.Nat.{ℕ, ◌+◌, ◌<◌, ◌≤◌}
use native.Mathlib.Omega.{arith}
use lib.ListN.{length}
use lib.Seq.{sets-eq}
use borrow.Author.Tests.{lt-ltb, le-ltb}
use Rattle.answers.specs.Answers.{accepted, refused}
use Rattle.answers.proofs.answers.Laws.{refused_if, passed_if}
use Rattle.text.specs.Text.{Room, Written}
use Rattle.listings.specs.Handing.{handed_answer, handed}

module _ (t l : List ℕ) where
  module _ (h : length l < length t) where
    pub short_refused : refused 30 0 ≡ handed_answer (length t) (length l)
    unfolding handed_answer
    short_refused = refused_if _ _ 30 _ (lt-ltb (length l) (length t) h) refl

    pub short_kept : l ≡ handed t l
    unfolding handed
    short_kept = rw (lt-ltb (length l) (length t) h)

  module _ (h : length t ≤ length l) where
    pub whole_room : Room l 0 t
    whole_room = record { room = omega arith }

    module _ (m : List ℕ) (end : ℕ) (w : Written l 0 t m end) where
      pub whole_accepted : accepted end ≡ handed_answer (length t) (length l)
      unfolding handed_answer
      whole_accepted =
          let e : end ≡ length t = omega (arith, w.ends) in
          passed_if _ _ 30 _ (le-ltb (length l) (length t) h) (rw e)

      pub whole_written : m ≡ handed t l
      unfolding handed
      whole_written =
          let e : 0 + length t ≡ length t = omega arith in
          rw (le-ltb (length l) (length t) h) (w.bytes ∙ rw e at (sets-eq t l 0 (omega arith)))
