-- The steps of the exported functions.
use Rattle.std.proofs.Common.{Result, Ok, Err}
use mathlib.Core.Path.{◌≡◌, refl, sym, ◌∙◌, ap}
use mathlib.Core.Bool.{true≢false}
use mathlib.Core.List.{List}
use mathlib.Core.Logic.{◌↔◌}
use Prim.Native.Nat.{ℕ, ◌+◌, ◌*◌, ◌<◌, ◌^◌}
use native.Mathlib.Omega.{arith}
use lib.IntN.{ℤ}
use lib.ListN.{length}
use Rattle.integers.specs.Words.{Bytes}
use Rattle.bounds.specs.declared.profiles.Profile.{Profile}
use Rattle.answers.specs.Answers.{Answer, sheet_number, accepted, refused, says, Passes, Short}
use Rattle.answers.specs.declared.answers.Sheet.{Sheet}
use Rattle.answers.specs.declared.answers.Verdict.{Verdict}
use Rattle.answers.specs.declared.answers.Verdict.TheVariants as Verdicts
use Rattle.answers.proofs.answers.Laws.{passes_or_fails, accepted_passes, refusal_fails, refusal_says, accepted_numbers, refused_number, passed_sheet, sheet_passed}
use Rattle.sheets.specs.Layout.{row_count}
use Rattle.judging.specs.Check.{check_answer, output_of}
use Rattle.judging.specs.Promises.{LongEnough, CheckPromises}
use Rattle.judging.proofs.Promises.{accepted_rows, check_short, check_promises}
use Rattle.evaluation.specs.Evaluations.{value, tells, evaluation_answer, evaluation_of}
use Rattle.evaluation.specs.Promises.{EvaluationPromises}
use Rattle.evaluation.proofs.Promises.{evaluation_promises}
use Rattle.evaluation.proofs.evaluations.Laws.{evaluation_short, evaluation_passed, passed_value, failed_refusal, value_passed, tells_value, tells_refusal}
use Rattle.floors.specs.Search as Floors
use Rattle.floors.specs.Search.{answer_of, search_of, search_output}
use Rattle.floors.specs.Promises.{SearchPromises}
use Rattle.floors.specs.declared.search.Highest.{Highest}
use Rattle.floors.proofs.Promises.{told_short, told_accepted, told_fails, told_none, search_promises}
use Rattle.floors.proofs.search.Laws.{tells_found, tells_refusal as tells-unfound, answer_found, answer_refusal}
use Rattle.paging.specs.PageCheck.{page_answer, page_output, page_after}
use Rattle.paging.specs.Promises.{PagePromises}
use Rattle.paging.proofs.Promises.{page_rows_lem, page_promises}
use Rattle.paging.proofs.page_check.Laws.{page_short}
use Rattle.burmelox.specs.Exports.{sheet_unit, number_unit, code_of, sheet_in, number_in, index_in, Accepted, Coded, told_value, Stores, told_floor, told_tried, Finds, Leaves}

-- ---- code: x, m and i are the verdict's numbers

module _ (v : Verdict) (x m : ℕ) (ex : x ≡ sheet_number (says v).blamed) (em : m ≡ (says v).number) where
  pub sheet_fits : x < 2 ^ 32 → Short 65536 (says v) → x * sheet_unit + m * number_unit < 2 ^ 64
  sheet_fits l h = rw em (omega (arith, l, h.number_short))

  module _ (i : ℕ) (ei : i ≡ (says v).value) where
    pub code_fits : x < 2 ^ 32 → Short 65536 (says v) → x * sheet_unit + m * number_unit + i < 2 ^ 64
    code_fits l h = rw (em, ei) (omega (arith, l, h.number_short, h.value_short))

    pub code_is : x * sheet_unit + m * number_unit + i ≡ code_of (says v)
    unfolding code_of
    code_is = rw (ex, em, ei)

-- ---- the macros read back what was put in: r is the code of an answer

module _ (a : Answer) (r : ℕ) (e : r ≡ code_of a) where
  pub accepted_code : (k : ℕ) → a ≡ accepted k → r ≡ k
  unfolding code_of
  accepted_code k q =
      let n = accepted_numbers a k q in
      omega (arith, e, passed_sheet a (accepted_passes a k q), n.0, n.1)

  below_passed : Accepted r → Passes a
  unfolding code_of
  below_passed l = sheet_passed a (omega (arith, l, e))

  -- k is what an acceptance carries
  module _ (short : Short 65536 a) (k : ℕ) (carried : Passes a → a ≡ accepted k) where
    pub coded : Coded a r
    unfolding code_of sheet_in number_in index_in
    coded = record {
      accepted = (
        below_passed,
        λ q. omega (arith, accepted_code k (carried q), (accepted_numbers a k (carried q)).1, short.value_short),
      );
      sheet = omega (arith, e, short.number_short, short.value_short);
      number = omega (arith, e, short.number_short, short.value_short);
      index = omega (arith, e, short.number_short, short.value_short);
    }

-- ---- burmelox_check: v is the verdict, r its code, o the output afterwards

module _ (c s ls : List ℕ) (π : Profile) (out : List ℕ) (v : Verdict)
    (e : says v ≡ check_answer c s ls π (length out)) (bc : Bytes c) (bs : Bytes s) where
  pub checked_short : Short 65536 (says v)
  checked_short = rw e (check_short c s ls π (length out) (omega arith) bc bs)

  module _ (r : ℕ) (er : r ≡ code_of (says v)) where
    abbrev answer : Answer
    answer = check_answer c s ls π (length out)

    pub check_code : r ≡ code_of answer
    check_code = er ∙ ap code_of e

    pub check_coded : Coded answer r
    check_coded =
        coded answer r check_code (check_short c s ls π (length out) (omega arith) bc bs) (row_count s)
        (accepted_rows c s ls π (length out))

    pub check_promised : (o : List ℕ) → o ≡ output_of c s ls π out
        → CheckPromises c s ls π out (LongEnough s out) (Accepted r) r o
    check_promised =
        check_promises c s ls π out _ _ _ (λ e. e) check_coded.accepted
        (λ h. accepted_code _ _ check_code _ (accepted_rows c s ls π (length out) h)) bs

-- ---- burmelox_check_page: v is the verdict, r its code, o and p are the output and the page afterwards

module _ (c s ls : List ℕ) (π : Profile) (out page : List ℕ) (v : Verdict)
    (e : says v ≡ page_answer c s ls π (length out) (length page)) (bc : Bytes c) (bs : Bytes s) where
  pub paged_short : Short 65536 (says v)
  paged_short = rw e (page_short c s ls π (length out) (length page) (omega arith) bc bs)

  module _ (r : ℕ) (er : r ≡ code_of (says v)) where
    pub page_code : r ≡ code_of (page_answer c s ls π (length out) (length page))
    page_code = er ∙ ap code_of e

    pub page_coded : Coded (page_answer c s ls π (length out) (length page)) r
    page_coded =
        coded _ r page_code (page_short c s ls π (length out) (length page) (omega arith) bc bs) (row_count s)
        (page_rows_lem c s ls π out page)

    pub page_promised : (o p : List ℕ) → o ≡ page_output c s ls π out (length page)
        → p ≡ page_after c s ls π (length out) page → (A : Type 0) (k : ℕ) → PagePromises c s ls π out page A k o p
        → PagePromises c s ls π out page (Accepted r) r o p
    page_promised o p eo ep A k given =
        page_promises c s ls π out page _ _ page_coded.accepted
        (λ h. accepted_code _ _ page_code _ (page_rows_lem c s ls π out page h)) bc bs o p eo ep given.lined

-- ---- burmelox_evaluate: t is the evaluation, r the answer, `after` what is stored

module _ (c : List ℕ) (π : Profile) (x : List ℤ) (t : Result ℤ Sheet) (e : tells t ≡ evaluation_of c π x) where
  module _ (sheet : Sheet) (h : t ≡ Err sheet) where
    unvalued : says (Verdicts.Refused sheet) ≡ evaluation_answer c π x
    unvalued = refusal_says sheet ∙ tells_refusal c π x sheet (rw h at e)

    pub refused_short : Bytes c → Short 65536 (says (Verdicts.Refused sheet))
    refused_short b = rw unvalued (evaluation_short c π x (omega arith) b)

    pub refused_code : (r : ℕ) → r ≡ code_of (says (Verdicts.Refused sheet)) → r ≡ code_of (evaluation_answer c π x)
    refused_code r er = er ∙ ap code_of unvalued

    pub refused_value : (z : ℤ) → z ≡ told_value (evaluation_of c π x) z
    unfolding told_value
    refused_value z =
        let q = tells_refusal c π x sheet (rw h at e) in
        rw (failed_refusal c π x (rw (← q) (refusal_fails sheet)))

  module _ (z : ℤ) (h : t ≡ Ok z) where
    told_is : evaluation_of c π x ≡ value z
    told_is = tells_value c π x z (rw h at e)

    pub given_code : 0 ≡ code_of (evaluation_answer c π x)
    given_code = sym (accepted_code _ _ refl 0 (evaluation_passed c π x (value_passed c π x z told_is)))

    pub given_value : (z' before : ℤ) → z' ≡ z → z' ≡ told_value (evaluation_of c π x) before
    unfolding told_value
    given_value z' before ez = rw told_is ez

module _ (c : List ℕ) (π : Profile) (x : List ℤ) (bc : Bytes c) (r : ℕ) (before after : ℤ)
    (er : r ≡ code_of (evaluation_answer c π x)) (ev : after ≡ told_value (evaluation_of c π x) before) where
  evaluation_coded : Coded (evaluation_answer c π x) r
  evaluation_coded =
      coded (evaluation_answer c π x) r er (evaluation_short c π x (omega arith) bc) 0 (evaluation_passed c π x)

  zero_coded : (r ≡ 0) ↔ Passes (evaluation_answer c π x)
  zero_coded = (λ q. below_passed _ r er (omega (arith, q)), λ h. accepted_code _ r er 0 (evaluation_passed c π x h))

  leaves : Leaves (r ≡ 0) before after
  unfolding told_value
  leaves = record {
    leaves = λ n.
        passes_or_fails (evaluation_answer c π x) (λ q. absurd (n (zero_coded.1 q)))
        (λ q. ev ∙ rw (failed_refusal c π x q));
  }

  stores : (z : ℤ) → Stores r after z ↔ (evaluation_of c π x ≡ value z)
  unfolding told_value
  stores z = (
    λ q. let g = passed_value c π x (zero_coded.0 q.0) in g ∙ ap value (sym (rw g at ev) ∙ q.1),
    λ q. (zero_coded.1 (value_passed c π x z q), rw q at ev),
  )

  pub evaluated : (r ≡ code_of (evaluation_answer c π x)) × Coded (evaluation_answer c π x) r
      × (after ≡ told_value (evaluation_of c π x) before) × Leaves (r ≡ 0) before after
      × EvaluationPromises c π x (Stores r after)
  evaluated = (er, evaluation_coded, ev, leaves, evaluation_promises c π x _ stores)

-- ---- burmelox_search: t is the search, r the answer, b and m what is stored, o the output afterwards

module _ (c s ls : List ℕ) (π : Profile) (lo hi : ℤ) (out : List ℕ) where
  abbrev told : Floors.Told
  told = search_of c s ls π lo hi (length out)

  module _ (t : Result Highest Sheet) (lo' hi' : ℤ) (e : Floors.tells t ≡ search_of c s ls π lo' hi' (length out)) (el : lo' ≡ lo)
      (eh : hi' ≡ hi) where
    told_here : Floors.tells t ≡ told
    told_here = e ∙ rw (el, eh)

    module _ (sheet : Sheet) (h : t ≡ Err sheet) where
      unfound : told ≡ Floors.refusal (says (Verdicts.Refused sheet))
      unfound = rw (refusal_says sheet) (tells-unfound t _ told_here sheet h)

      pub search_short : Bytes c → Bytes s → Short 65536 (says (Verdicts.Refused sheet))
      search_short bc bs =
          rw (answer_refusal _ _ unfound)
          at (told_short c s ls π lo hi (length out) {limit = 65536} (omega arith) bc bs)

      pub unfound_code : (r : ℕ) → r ≡ code_of (says (Verdicts.Refused sheet)) → r ≡ code_of (answer_of told)
      unfound_code r er = er ∙ ap code_of (sym (answer_refusal _ _ unfound))

      pub unfound_floor : (b : ℤ) → b ≡ told_floor told b
      unfolding told_floor
      unfound_floor b = rw unfound

      pub unfound_tried : (m : ℕ) → m ≡ told_tried told m
      unfolding told_tried
      unfound_tried m = rw unfound

    module _ (a : Highest) (h : t ≡ Ok a) where
      found : told ≡ Floors.found a.floor a.tried a.rows
      found = tells_found t _ told_here a h

      pub found_code : a.rows ≡ code_of (answer_of told)
      found_code = sym (accepted_code _ _ refl a.rows (answer_found _ _ _ _ found))

      pub found_floor : (b before : ℤ) → b ≡ a.floor → b ≡ told_floor told before
      unfolding told_floor
      found_floor b before eb = rw found eb

      pub found_tried : (before : ℕ) → a.tried ≡ told_tried told before
      unfolding told_tried
      found_tried before = rw found

  pub search_output_lem : (o : List ℕ) (lo' hi' : ℤ) → o ≡ search_output c s ls π lo' hi' out → lo' ≡ lo → hi' ≡ hi
      → o ≡ search_output c s ls π lo hi out
  search_output_lem o lo' hi' e el eh = e ∙ rw (el, eh)

  module _ (bc : Bytes c) (bs : Bytes s) (r : ℕ) (b₀ b : ℤ) (m₀ m : ℕ) (o : List ℕ) (er : r ≡ code_of (answer_of told))
      (eb : b ≡ told_floor told b₀) (em : m ≡ told_tried told m₀) (eo : o ≡ search_output c s ls π lo hi out) where
    search_coded : Coded (answer_of told) r
    search_coded =
        coded (answer_of told) r er (told_short c s ls π lo hi (length out) (omega arith) bc bs) (row_count s)
        (told_accepted c s ls π lo hi (length out))

    -- what is told, by what the caller sees
    module _ (floor : ℤ) (tried k : ℕ) where
      seen_found : told ≡ Floors.found floor tried k → Finds r b m floor tried k
      unfolding told_floor told_tried
      seen_found e =
          let a = answer_found told floor tried k e in (
            search_coded.accepted.1 (accepted_passes _ k a),
            accepted_code _ r er k a,
            rw e at eb,
            rw e at em,
          )

      found_seen : Finds r b m floor tried k → told ≡ Floors.found floor tried k
      unfolding told_floor told_tried
      found_seen q = go told refl
        where
          go : (t : Floors.Told) → told ≡ t → told ≡ Floors.found floor tried k
          go (Floors.found f n j) e =
              let a = accepted_code _ r er j (answer_found told f n j e) in
              let ef : b ≡ f = rw e at eb in
              let en : m ≡ n = rw e at em in
              let q₁ = q.1 in
              let q₂ = q.2 in
              let q₃ = q.3 in
              cc
          go (Floors.refusal a) e =
              let p = search_coded.accepted.0 q.0 in
              absurd (true≢false (sym p ∙ rw (answer_refusal told a e) (told_fails c s ls π lo hi (length out) a e)))

    none_seen : number_in r ≡ 23 → told ≡ Floors.refusal (refused 23 0)
    none_seen n = go told refl
      where
        number : (answer_of told).number ≡ 23
        number = sym search_coded.number ∙ n

        go : (t : Floors.Told) → told ≡ t → told ≡ Floors.refusal (refused 23 0)
        go (Floors.found f j k) e =
            absurd (omega (arith, number, (accepted_numbers _ k (answer_found told f j k e)).0))
        go (Floors.refusal a) e =
            e ∙ ap Floors.refusal
            (told_none c s ls π lo hi (length out) bs a e (rw (answer_refusal told a e) at number))

    seen_none : told ≡ Floors.refusal (refused 23 0) → number_in r ≡ 23
    seen_none e = search_coded.number ∙ rw (answer_refusal told _ e, refused_number)

    kept : {A : Type 0} (x₀ x : A) → ((answer : Answer) → told ≡ Floors.refusal answer → x ≡ x₀)
        → Leaves (Accepted r) x₀ x
    kept x₀ x h = record { leaves = λ n. go n told refl }
      where
        go : (Accepted r → ⊥) → (t : Floors.Told) → told ≡ t → x ≡ x₀
        go n (Floors.found f j k) e = absurd (n (seen_found f j k e).0)
        go n (Floors.refusal a) e = h a e

    pub searched : (r ≡ code_of (answer_of told)) × Coded (answer_of told) r × (o ≡ search_output c s ls π lo hi out)
        × (b ≡ told_floor told b₀) × (m ≡ told_tried told m₀)
        × (Leaves (Accepted r) b₀ b × Leaves (Accepted r) m₀ m)
        × SearchPromises c s ls π lo hi out (Finds r b m) (number_in r ≡ 23) o
    unfolding told_floor told_tried
    searched =
        let floor_kept = kept b₀ b (λ a e. eb ∙ rw e) in
        let tried-kept = kept m₀ m (λ a e. em ∙ rw e) in
        let promises =
        search_promises c s ls π lo hi out _ _ (λ f j k. (found_seen f j k, seen_found f j k)) (none_seen, seen_none)
        bs o eo in
        (er, search_coded, eo, eb, em, (floor_kept, tried-kept), promises)
