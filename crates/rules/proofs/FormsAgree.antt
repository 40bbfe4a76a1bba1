-- Page and row form agree (A1), for every encoding, strict, lenient or exact: called to the end with room enough, the row form gives the page form's rows and
-- marks, answer, place and bytes. What is room enough, and when a call says 4. Assumes nothing.
use mathlib.Core.Path.{◌≡◌, refl, sym, ap, ◌∙◌, subst}
use mathlib.Core.Bool.{Bool, true, false, and-false}
use mathlib.Core.List.{List, [], ◌∷◌, ◌++◌, append_assoc, append-nil}
use Prim.Native.Nat.{ℕ, zero, suc, ◌+◌, ◌-◌, ◌*◌, ◌≤◌, ◌<◌}
use native.Mathlib.Omega.{arith}
use lib.Dec.{eqb, leb, ltb}
use lib.ListN.{length, drop, length-append}
use lib.Seq.{drop_at}
use borrow.Author.Tests.{leb-true, leb-false, le-leb, ltb-false, eqb-false, ne_eqb}
use Rattle.rules.specs.Machine.{Out, more, done, and_then, run, ends}
use Rattle.rules.specs.Bits.{bits_of}
use Rattle.rules.specs.Rows.{Settings, State, RowOut, row, stop}
use Rattle.rules.specs.Pages.{Answer, refusal, Kept, none_kept, with_row, end_with, entries, page_step, rows_left, page_of, read_page, strict_if_exact, unless_short, most_bytes, is_too_wide, ascends_from, decode}
use Rattle.rules.specs.Answers.{more_to_come}
use Rattle.rules.specs.InSteps.{says_only, most_counted}
use Rattle.rules.specs.ByRow.{Side, first, second, other, Arrays, array_at, written, row_start, reference_in, between, room_in, RowStep, after_row, sound, refuses, no_columns, unless_few, tested, read_row, Caller, caller_with, Over, does_go_on, call_step, over_of, FitIn}
use Rattle.rules.proofs.Bits.{length-bits_of}
use Rattle.rules.proofs.Machine.{ends-stops}
use Rattle.rules.proofs.Budget.{whole-bytes}
use Rattle.rules.proofs.Unless.{unless_not}
use Rattle.rules.proofs.Answers.{short-cases, never-short, short-rows, decode-cases}
use Rattle.rules.proofs.MoreRoom.{Short, short, row_room}
use Rattle.rules.proofs.LessRoom.{changes_in, row_cut, row-cut-cases, RowFills, row-fills}
use Rattle.rules.proofs.Store.{length-overlaid}
use Rattle.rules.proofs.Pages.{Does, row-does, page-cases, page-falls, run-behind, read-answered}
use Rattle.rules.proofs.ByRow.{few-cases, bs, T, kept_of, Own, own-start, row_at, row_in, given, between-given, own-next, own-reads, call-gives, call_ends}

-- ---- What the calls come to

-- what the calls from here on say, where the page answers so: each row takes a call, and the end takes one
abbrev pub Agrees : Settings → List ℕ → Caller → Answer → Type 0
Agrees S bytes c a = (m : ℕ) × (length a.rows ≡ length c.rows + m) × (run (call_step S bytes) (suc m) c ≡ done (over_of a))

-- no call from here on says 4
abbrev pub Roomy : Settings → List ℕ → Caller → Type 0
Roomy S bytes c = (m : ℕ) (o : Over) → run (call_step S bytes) m c ≡ done o → o.said.number ≡ 4 → ⊥

-- arrays that would hold them all hold each
fit_all : (m n : ℕ) (rows : List (List ℕ)) (loose : List ℕ) → entries rows + length loose ≤ m → entries rows + length loose ≤ n → FitIn m n rows loose
unfolding FitIn entries
fit_all m n [] loose h k = omega arith
fit_all m n (r ∷ rows) loose h k = (omega arith, fit_all n m rows loose (omega arith) (omega arith))

-- Calls that came to an end gave fewer rows than they are: each row takes a call of its own, and the end another.
pub calls-few : (S : Settings) (bytes : List ℕ) (m : ℕ) (c : Caller) (o : Over) → run (call_step S bytes) m c ≡ done o → length o.rows < length c.rows + m
unfolding run call_step
calls-few S bytes zero c o e = absurd (let z : ◌≡◌ {A = ℕ} 0 1 = cc in omega arith)
calls-few S bytes (suc m) c o e = cases (read_row S bytes c.state c.arrays) (λ d. calls-few S bytes m d o) e
  where
    cases : (d : RowStep) → ((k : Caller) → run (call_step S bytes) m k ≡ done o → length o.rows < length k.rows + m)
        → and_then (does_go_on c d (eqb d.said.number more_to_come)) (run (call_step S bytes) m) ≡ done o → length o.rows < length c.rows + suc m
    cases d ih = tests (eqb d.said.number more_to_come)
      where
        tests : (b : Bool) → and_then (does_go_on c d b) (run (call_step S bytes) m) ≡ done o → length o.rows < length c.rows + suc m
        tests true q = let h = ih _ q in omega (arith, length-append c.rows (reference_in d.state d.arrays ∷ []))
        tests false q = let z : c.rows ≡ o.rows = cc in omega (arith, ap length z)

-- a row that is short is the end with 4
short-stops : {o : RowOut} {n place b : ℕ} {loose : List ℕ} → Short o → o ≡ stop n place b loose → n ≡ 4
short-stops {n = n} short e = let z : 4 ≡ n = cc in sym z

short-kept : {o : RowOut} {r : List ℕ} {mark : ℕ} {next : State} → Short o → o ≡ row r mark next → ⊥
short-kept short e = let z : ◌≡◌ {A = ℕ} 0 1 = cc in omega arith

-- 14 replaces 0 alone
short-number : (S : Settings) (a : Answer) (n : ℕ) → a.number ≡ n → 0 < n → (unless_short S a).number ≡ n
short-number S a n e h = ap (λ (x : Answer). x.number) (never-short S a (λ z. omega arith)) ∙ e

-- ---- Row by row

module _ (S : Settings) (wide : 0 < S.columns) (bytes : List ℕ) (narrow : is_too_wide S.columns ≡ false) (size : length bytes ≤ most_bytes) where
  abbrev row' : Caller → RowOut
  row' = row_in S wide bytes

  abbrev room_of : Caller → Side → ℕ
  room_of c side = length (array_at side c.arrays)

  abbrev next' : Caller → List ℕ → ℕ → State → Caller
  next' = given S wide bytes

  agrees-more : (c d : Caller) (a : Answer) → call_step S bytes c ≡ more d → length d.rows ≡ suc (length c.rows) → Agrees S bytes d a → Agrees S bytes c a
  unfolding run
  agrees-more c d a e l (m, h, q) = (suc m, omega arith, rw e q)

  agrees-done : (c : Caller) (a : Answer) → call_step S bytes c ≡ done (over_of a) → a.rows ≡ c.rows → Agrees S bytes c a
  unfolding run
  agrees-done c a e l = (0, omega (arith, ap length l), rw e)

  -- what a row does with two rooms, where neither is short
  same_row : (small large : ℕ) (st : State) → (Short (row_at S wide bytes small st) → ⊥) → (Short (row_at S wide bytes large st) → ⊥) → row_at S wide bytes small st ≡ row_at S wide bytes large st
  same_row small large st p q = tests (leb small large) refl
    where
      tests : (b : Bool) → leb small large ≡ b → row_at S wide bytes small st ≡ row_at S wide bytes large st
      tests true e = sym (unless_not (row_room (T S wide bytes) (bs S wide bytes) small large (leb-true small large e) S.encoding st) p)
      tests false e = unless_not (row_room (T S wide bytes) (bs S wide bytes) large small (let h : large < small = leb-false small large e in omega arith) S.encoding st) q

  module _ (store places : ℕ) where
    abbrev step : Kept → Out Kept Answer
    step = page_step (row_at S wide bytes) store places

    -- the page form's next row
    abbrev page_row : Caller → RowOut
    page_row c = row_at S wide bytes (store - entries c.rows) (between c.state c.arrays)

    -- it is the answer's next, or its loose one
    abbrev IsNext : Caller → Answer → RowOut → Type 0
    IsNext c a (row r mark next) = (rest : List (List ℕ)) × (a.rows ≡ c.rows ++ r ∷ rest)
    IsNext c a (stop n place b loose) = (a.rows ≡ c.rows) × (a.loose ≡ loose)

    -- given anything that keeps the row form's rows from being short where the page's are not
    module _ (Safe : Caller → Answer → Type 0) (safe : (c : Caller) (a : Answer) → Own S wide bytes c → Safe c a → IsNext c a (page_row c) → (Short (page_row c) → ⊥) → Short (row' c) → ⊥)
        (safe-next : (c : Caller) (a : Answer) → Own S wide bytes c → (r : List ℕ) (mark : ℕ) (next : State) → row' c ≡ row r mark next → IsNext c a (row r mark next) → Safe c a → Safe (next' c r mark next) a) where
      same : (c : Caller) (a : Answer) → Own S wide bytes c → Safe c a → IsNext c a (page_row c) → (Short (page_row c) → ⊥) → row' c ≡ page_row c
      same c a o s i q = same_row (room_in c.state c.arrays) (store - entries c.rows) (between c.state c.arrays) (safe c a o s i q) q

      -- From any state between rows on: the calls say what the page answers, and each row takes one.
      walk : (n : ℕ) (c : Caller) (a : Answer) → Own S wide bytes c → run step n (kept_of S wide bytes c) ≡ done a → (a.number ≡ 4 → ⊥) → (a.number ≡ 5 → ⊥) → Safe c a → Agrees S bytes c (unless_short S a)
      unfolding run
      walk zero c a o e p q s = absurd (let z : ◌≡◌ {A = ℕ} 0 1 = cc in omega arith)
      walk (suc n) c a o e p q s =
          page-cases S.encoding (T S wide bytes) wide (bs S wide bytes) (whole-bytes bytes) store places (kept_of S wide bytes c) (λ x. and_then x (run step n) ≡ done a → Agrees S bytes c (unless_short S a))
          (λ r mark next f l g. keeps r mark next f g (walk n))
          (λ r mark next f l g. absurd (q (let z : 5 ≡ a.number = cc in sym z)))
          (λ m place b loose f g. ends' m place b loose f (let z : end_with (kept_of S wide bytes c) m place b loose ≡ a = cc in z))
          e
        where
          keeps : (r : List ℕ) (mark : ℕ) (next : State) → page_row c ≡ row r mark next → run step n (with_row (kept_of S wide bytes c) r mark next) ≡ done a
              → ((d : Caller) (a : Answer) → Own S wide bytes d → run step n (kept_of S wide bytes d) ≡ done a → (a.number ≡ 4 → ⊥) → (a.number ≡ 5 → ⊥) → Safe d a → Agrees S bytes d (unless_short S a))
              → Agrees S bytes c (unless_short S a)
          keeps r mark next f g ih =
              agrees-more c (next' c r mark next) (unless_short S a) (call-gives S wide bytes narrow size c o r mark next is) (length-append c.rows (r ∷ []) ∙ (let z : length c.rows + 1 ≡ suc (length c.rows) = omega arith in z))
              (ih (next' c r mark next) a (own-next S wide bytes c o r mark next is)
              (ap (λ (x : State). run step n (with_row (kept_of S wide bytes c) r mark x)) (between-given S wide bytes c o r mark next is) ∙ g)
              p q (safe-next c a o r mark next is is-next s))
            where
              is-next : IsNext c a (row r mark next)
              is-next =
                  let b = run-behind S.encoding (T S wide bytes) wide (bs S wide bytes) (whole-bytes bytes) store places n (with_row (kept_of S wide bytes c) r mark next) a g in
                  (b.0, b.1 ∙ append_assoc c.rows (r ∷ []) b.0)

              is : row' c ≡ row r mark next
              is = same c a o s (subst (IsNext c a) (sym f) is-next) (λ h. short-kept h f) ∙ f

          ends' : (m place b : ℕ) (loose : List ℕ) → page_row c ≡ stop m place b loose → end_with (kept_of S wide bytes c) m place b loose ≡ a → Agrees S bytes c (unless_short S a)
          ends' m place b loose f z =
              let is-next : IsNext c a (stop m place b loose) = (sym (ap (λ (x : Answer). x.rows) z), sym (ap (λ (x : Answer). x.loose) z)) in
              let is = same c a o s (subst (IsNext c a) (sym f) is-next) (λ h. p (sym (ap (λ (x : Answer). x.number) z) ∙ short-stops h f)) ∙ f in
              subst (λ (x : Answer). Agrees S bytes c (unless_short S x)) z
              (agrees-done c (unless_short S (end_with (kept_of S wide bytes c) m place b loose)) (call_ends S wide bytes narrow size c o m place b loose is) (short-rows S (end_with (kept_of S wide bytes c) m place b loose)))

      -- and so from the first call on
      page-agrees : (xs : Arrays) → ((read_page (T S wide bytes) (bs S wide bytes) store places).number ≡ 4 → ⊥) → ((read_page (T S wide bytes) (bs S wide bytes) store places).number ≡ 5 → ⊥)
          → Safe (caller_with xs) (read_page (T S wide bytes) (bs S wide bytes) store places) → Agrees S bytes (caller_with xs) (unless_short S (read_page (T S wide bytes) (bs S wide bytes) store places))
      unfolding read_page ends
      page-agrees xs =
          let f = ends-stops step (rows_left (bs S wide bytes)) (page-falls S.encoding (T S wide bytes) wide (bs S wide bytes) (whole-bytes bytes) store places) none_kept in
          subst (λ (o : Out Kept Answer). ((page_of o).number ≡ 4 → ⊥) → ((page_of o).number ≡ 5 → ⊥) → Safe (caller_with xs) (page_of o) → Agrees S bytes (caller_with xs) (unless_short S (page_of o))) (sym f.1)
          (λ p q s. walk (suc (rows_left (bs S wide bytes) none_kept)) (caller_with xs) f.0 (own-start S wide bytes xs) f.1 p q s)

    -- where no call says 4, the next does not, and the ones behind it do not
    roomy-row : (c : Caller) (a : Answer) → Own S wide bytes c → Roomy S bytes c → IsNext c a (page_row c) → (Short (page_row c) → ⊥) → Short (row' c) → ⊥
    unfolding run
    roomy-row c a o roomy i q = cases (row' c) refl
      where
        cases : (w : RowOut) → row' c ≡ w → Short w → ⊥
        cases w e (short {place} {bytes = b} {loose}) =
            roomy 1 (over_of (unless_short S (end_with (kept_of S wide bytes c) 4 place b loose))) (rw (call_ends S wide bytes narrow size c o 4 place b loose e))
            (short-number S (end_with (kept_of S wide bytes c) 4 place b loose) 4 refl (omega arith))

    roomy-next : (c : Caller) (a : Answer) → Own S wide bytes c → (r : List ℕ) (mark : ℕ) (next : State) → row' c ≡ row r mark next → IsNext c a (row r mark next)
        → Roomy S bytes c → Roomy S bytes (next' c r mark next)
    unfolding run
    roomy-next c a o r mark next e i roomy m over q = roomy (suc m) over (rw (call-gives S wide bytes narrow size c o r mark next e) q)

    -- the rows of the answer that are to come fit the arrays that they go to
    abbrev Fits : Caller → Answer → Type 0
    Fits c a = FitIn (room_of c (other c.state.side)) (room_of c c.state.side) (drop (length c.rows) a.rows) a.loose

    -- so does the next
    fits-now : (c : Caller) (a : Answer) (o : RowOut) → IsNext c a o → Fits c a → length (changes_in o) ≤ room_of c (other c.state.side)
    unfolding FitIn
    fits-now c a (row r mark next) (rest, t) f =
        (subst (λ (l : List (List ℕ)). FitIn (room_of c (other c.state.side)) (room_of c c.state.side) l a.loose) (ap (drop (length c.rows)) t ∙ drop_at c.rows (r ∷ rest) (length c.rows) refl) f).0
    fits-now c a (stop n place b loose) (t, l) f =
        let none : drop (length c.rows) a.rows ≡ [] = ap (drop (length c.rows)) (t ∙ sym (append-nil c.rows)) ∙ drop_at c.rows [] (length c.rows) refl in
        let h : length a.loose ≤ room_of c (other c.state.side) = subst (λ (rs : List (List ℕ)). FitIn (room_of c (other c.state.side)) (room_of c c.state.side) rs a.loose) none f in
        omega (arith, ap length l)

    fits-row : (c : Caller) (a : Answer) → Own S wide bytes c → Fits c a → IsNext c a (page_row c) → (Short (page_row c) → ⊥) → Short (row' c) → ⊥
    fits-row c a o f i = tests (leb room left) refl
      where
        room : ℕ
        room = room_in c.state c.arrays

        left : ℕ
        left = store - entries c.rows

        fits : length (changes_in (page_row c)) ≤ room
        fits = fits-now c a (page_row c) i f

        tests : (b : Bool) → leb room left ≡ b → (Short (page_row c) → ⊥) → Short (row' c) → ⊥
        tests true e =
            row-cut-cases (λ w. (Short (page_row c) → ⊥) → Short w → ⊥) (row_cut (T S wide bytes) (bs S wide bytes) room left (leb-true room left e) S.encoding (between c.state c.arrays))
            (λ h q s. q s) (λ h q s. omega (arith, fits))
        tests false e =
            row-cut-cases (λ w. (Short w → ⊥) → Short (row' c) → ⊥) (row_cut (T S wide bytes) (bs S wide bytes) left room (let z : left < room = leb-false room left e in omega arith) S.encoding (between c.state c.arrays))
            (λ h q s. q s) (λ h q s. q short)

    -- the arrays take turns, and keep their lengths
    fits_next : (c : Caller) (a : Answer) → Own S wide bytes c → (r : List ℕ) (mark : ℕ) (next : State) → row' c ≡ row r mark next → IsNext c a (row r mark next) → Fits c a → Fits (next' c r mark next) a
    unfolding FitIn
    fits_next c a o r mark next e (rest, t) f =
        subst (λ (l : List (List ℕ)). FitIn (room_of (next' c r mark next) (other (other c.state.side))) (room_of (next' c r mark next) (other c.state.side)) l a.loose) (sym later)
        (cases c.state.side fit.0 fit.1)
      where
        later : drop (length (c.rows ++ r ∷ [])) a.rows ≡ rest
        later = ap (drop (length (c.rows ++ r ∷ []))) (t ∙ sym (append_assoc c.rows (r ∷ []) rest)) ∙ drop_at (c.rows ++ r ∷ []) rest (length (c.rows ++ r ∷ [])) refl

        fit : (length r ≤ room_of c (other c.state.side)) × FitIn (room_of c c.state.side) (room_of c (other c.state.side)) rest a.loose
        fit = subst (λ (l : List (List ℕ)). FitIn (room_of c (other c.state.side)) (room_of c c.state.side) l a.loose) (ap (drop (length c.rows)) t ∙ drop_at c.rows (r ∷ rest) (length c.rows) refl) f

        cases : (side : Side) → length r ≤ length (array_at (other side) c.arrays) → FitIn (room_of c side) (room_of c (other side)) rest a.loose
            → FitIn (length (array_at (other (other side)) (written (other side) r c.arrays))) (length (array_at (other side) (written (other side) r c.arrays))) rest a.loose
        cases first h f = subst (λ (n : ℕ). FitIn (length c.arrays.first) n rest a.loose) (sym (length-overlaid r c.arrays.second h)) f
        cases second h f = subst (λ (n : ℕ). FitIn (length c.arrays.second) n rest a.loose) (sym (length-overlaid r c.arrays.first h)) f

-- ---- Page and row form

-- the first call is not refused with 8
pub start-sound : (S : Settings) (bytes : List ℕ) (xs : Arrays) → sound S bytes row_start xs ≡ true
unfolding sound ascends_from
start-sound S bytes xs = rw (le-leb 0 (8 * length bytes) (omega arith), le-leb 0 (length xs.second) (omega arith), le-leb 0 (most_counted bytes) (omega arith))

module _ (S : Settings) (bytes : List ℕ) (xs : Arrays) where
  -- a first call that reads nothing is the last
  nothing_read : (n : ℕ) (d : RowStep) → read_row S bytes row_start xs ≡ d → d.said ≡ says_only n → (n ≡ 15 → ⊥) → Agrees S bytes (caller_with xs) (refusal n)
  unfolding run call_step entries
  nothing_read n d e f ne = (0, refl, rw (e, f, ne_eqb n 15 ne))

  -- Where no page is read, the first call says what the page form answers.
  agree-cases : (store places : ℕ)
      → (0 < S.columns → is_too_wide S.columns ≡ false → length bytes ≤ most_bytes → decode S bytes store places ≡ unless_short S (read_page (strict_if_exact S) (bits_of bytes) store places)
      → Agrees S bytes (caller_with xs) (unless_short S (read_page (strict_if_exact S) (bits_of bytes) store places)))
      → Agrees S bytes (caller_with xs) (decode S bytes store places)
  unfolding decode read_row tested
  agree-cases store places reads = tests (is_too_wide S.columns) refl (ltb most_bytes (length bytes)) refl (eqb S.columns 0) refl
    where
      tests : (a : Bool) → is_too_wide S.columns ≡ a → (b : Bool) → ltb most_bytes (length bytes) ≡ b → (c : Bool) → eqb S.columns 0 ≡ c → Agrees S bytes (caller_with xs) (decode S bytes store places)
      tests true e b f c g = rw (e, decode) (nothing_read 6 (refuses S bytes row_start xs 6) (rw (e, tested)) refl (λ z. omega arith))
      tests false e true f c g = rw (e, f, decode) (nothing_read 7 (refuses S bytes row_start xs 7) (rw (e, f, tested)) refl (λ z. omega arith))
      tests false e false f true g = rw (e, f, g, decode) (nothing_read 0 (no_columns S bytes row_start xs) (rw (e, f, start-sound S bytes xs, g, tested)) refl (λ z. omega arith))
      tests false e false f false g =
          rw (e, f, g, decode) (reads (let h : S.columns ≡ 0 → ⊥ = eqb-false S.columns 0 g in omega arith) e (ltb-false most_bytes (length bytes) f) (rw (e, f, g, decode)))

  module _ (store places : ℕ) (four : (decode S bytes store places).number ≡ 4 → ⊥) (five : (decode S bytes store places).number ≡ 5 → ⊥) where
    -- a number above 0 that the page form does not answer is not the page's either
    not_so : (n : ℕ) → 0 < n → decode S bytes store places ≡ unless_short S (read_page (strict_if_exact S) (bits_of bytes) store places)
        → ((decode S bytes store places).number ≡ n → ⊥) → (read_page (strict_if_exact S) (bits_of bytes) store places).number ≡ n → ⊥
    not_so n h e p z = p (ap (λ (a : Answer). a.number) e ∙ short-number S (read_page (strict_if_exact S) (bits_of bytes) store places) n z h)

    -- Page and row form agree: where neither is short of room, called to the end the row form gives the page form's rows and marks, answer, place and
    -- bytes, and n rows take n + 1 calls.
    pub forms-agree : Roomy S bytes (caller_with xs) → Agrees S bytes (caller_with xs) (decode S bytes store places)
    forms-agree roomy =
        agree-cases store places (λ wide narrow size e.
        page-agrees S wide bytes narrow size store places (λ c a. Roomy S bytes c) (roomy-row S wide bytes narrow size store places) (roomy-next S wide bytes narrow size store places) xs
        (not_so 4 (omega arith) e four) (not_so 5 (omega arith) e five) roomy)

    -- Room enough is, exactly: each row of the page, and the loose one, fits the line array that it goes to.
    pub fitting-agree : FitIn (length xs.first) (length xs.second) (decode S bytes store places).rows (decode S bytes store places).loose → Agrees S bytes (caller_with xs) (decode S bytes store places)
    fitting-agree f =
        agree-cases store places (λ wide narrow size e.
        page-agrees S wide bytes narrow size store places (Fits S wide bytes narrow size store places) (fits-row S wide bytes narrow size store places) (fits_next S wide bytes narrow size store places) xs
        (not_so 4 (omega arith) e four) (not_so 5 (omega arith) e five)
        (same_changes (read_page (strict_if_exact S) (bits_of bytes) store places) (subst (λ (a : Answer). FitIn (length xs.first) (length xs.second) a.rows a.loose) e f)))
      where
        same_changes : (a : Answer) → FitIn (length xs.first) (length xs.second) (unless_short S a).rows (unless_short S a).loose → FitIn (length xs.first) (length xs.second) a.rows a.loose
        same_changes a = short-cases S a (λ x. FitIn (length xs.first) (length xs.second) x.rows x.loose → FitIn (length xs.first) (length xs.second) a.rows a.loose) (λ l k. k) (λ n k. k)

    -- So are line arrays as long as a store that is room enough for the page.
    pub as-long-agree : store ≤ length xs.first → store ≤ length xs.second → Agrees S bytes (caller_with xs) (decode S bytes store places)
    unfolding entries
    as-long-agree l m = fitting-agree (fit_all (length xs.first) (length xs.second) (decode S bytes store places).rows (decode S bytes store places).loose (omega (arith, roomy)) (omega (arith, roomy)))
      where
        roomy : entries (decode S bytes store places).rows + length (decode S bytes store places).loose ≤ store
        roomy =
            decode-cases S bytes (λ f. entries (f store places).rows + length (f store places).loose ≤ store) (λ n r. omega arith)
            (λ ok. let h = (read-answered S.encoding (strict_if_exact S) ok.wide (bits_of bytes) (whole-bytes bytes) store places refl).roomy in
            short-cases S (read_page (strict_if_exact S) (bits_of bytes) store places) (λ x. entries x.rows + length x.loose ≤ store) (λ l. h) (λ n. h))

-- ---- What a 4 means

-- "Its answer 4 now means that one row has more changes than the line array it goes to holds": so it is, exactly, at every state of its own. The row, or the unfinished one,
-- is that which is read with room for any.
module _ (S : Settings) (wide : 0 < S.columns) (bytes : List ℕ) (narrow : is_too_wide S.columns ≡ false) (size : length bytes ≤ most_bytes) (c : Caller) (o : Own S wide bytes c) where
  abbrev room : ℕ
  room = room_in c.state c.arrays

  abbrev pub any_room : ℕ
  any_room = 8 * length bytes + 1

  abbrev pub changes_here : List ℕ
  changes_here = changes_in (row_at S wide bytes any_room (between c.state c.arrays))

  row-with : (n : ℕ) → Does (T S wide bytes) (bs S wide bytes) n (between c.state c.arrays) (row_at S wide bytes n (between c.state c.arrays))
  row-with n = row-does (T S wide bytes) wide (bs S wide bytes) (whole-bytes bytes) n (between c.state c.arrays) S.encoding o.held.fitting o.held.inside

  pub few_changes : (n : ℕ) → length (changes_in (row_at S wide bytes n (between c.state c.arrays))) ≤ 8 * length bytes
  few_changes n = cases (row_at S wide bytes n (between c.state c.arrays)) (row-with n)
    where
      cases : (w : RowOut) → Does (T S wide bytes) (bs S wide bytes) n (between c.state c.arrays) w → length (changes_in w) ≤ 8 * length bytes
      cases (row r mark next) d = omega (arith, d.short, length-bits_of bytes)
      cases (stop m place b loose) d = omega (arith, d.short, length-bits_of bytes)

  -- with room for one change more than there are bits a row is never 4
  never : (n : ℕ) → any_room ≤ n → Short (row_at S wide bytes n (between c.state c.arrays)) → ⊥
  never n h = cases (row_at S wide bytes n (between c.state c.arrays)) (few_changes n) (row-fills (T S wide bytes) (bs S wide bytes) n S.encoding (between c.state c.arrays))
    where
      cases : (w : RowOut) → length (changes_in w) ≤ 8 * length bytes → RowFills n w → Short w → ⊥
      cases w k f (short {loose = loose}) = omega (arith, k, f refl)

  -- so more room than that gives the same row
  pub any_row : (n : ℕ) → any_room ≤ n → row_at S wide bytes n (between c.state c.arrays) ≡ row_at S wide bytes any_room (between c.state c.arrays)
  any_row n h = sym (same_row S wide bytes narrow size any_room n (between c.state c.arrays) (never any_room (omega arith)) (never n h))

  short-exactly : (Short (row_in S wide bytes c) → room < length changes_here) × (room < length changes_here → Short (row_in S wide bytes c))
  short-exactly = tests (leb room any_room) refl
    where
      tests : (b : Bool) → leb room any_room ≡ b → (Short (row_in S wide bytes c) → room < length changes_here) × (room < length changes_here → Short (row_in S wide bytes c))
      tests true e =
          row-cut-cases (λ w. (Short w → room < length changes_here) × (room < length changes_here → Short w))
          (row_cut (T S wide bytes) (bs S wide bytes) room any_room (leb-true room any_room e) S.encoding (between c.state c.arrays))
          (λ h. (λ s. absurd (never any_room (omega arith) s), λ k. absurd (omega arith)))
          (λ h. (λ s. h, λ k. short))
      tests false e =
          let l : any_room < room = leb-false room any_room e in
          (λ s. absurd (never room (omega arith) s), λ k. absurd (omega (arith, few_changes any_room)))

  -- a call says 4 where its row is short
  says_four : (w : RowOut) → ((after_row c.state c.arrays (unless_few S bytes c.state c.arrays w)).said.number ≡ 4 → Short w)
      × (Short w → (after_row c.state c.arrays (unless_few S bytes c.state c.arrays w)).said.number ≡ 4)
  says_four (row r mark next) = (λ z. absurd (omega arith), λ s. absurd (short-kept s refl))
  says_four (stop n place b loose) = (
    few-cases S bytes c.state c.arrays n place b loose (λ w. (after_row c.state c.arrays w).said.number ≡ 4 → Short (stop n place b loose)) (λ z. absurd (omega arith)) is-short,
    λ s. rw (ne_eqb n 0 (λ z. omega (arith, short-stops s refl)), and-false S.exact) (short-stops s refl),
  )
    where
      is-short : n ≡ 4 → Short (stop n place b loose)
      is-short e = subst (λ (k : ℕ). Short (stop k place b loose)) (sym e) short

  pub four-exactly : ((read_row S bytes c.state c.arrays).said.number ≡ 4 → room < length changes_here) × (room < length changes_here → (read_row S bytes c.state c.arrays).said.number ≡ 4)
  four-exactly =
      let f = says_four (row_in S wide bytes c) in
      let g = short-exactly in
      rw (own-reads S wide bytes narrow size c o) (λ e. g.0 (f.0 e), λ h. f.1 (g.1 h))
