-- Exact pages (A12) beside strict ones: what exact reads, strict reads the same. Where an exact reading answers anything but 1 and 14, the strict one answers the same; where it answers
-- 14, the strict one is done with the same rows, of which there are too few; and where it answers 1, its rows are the first that the strict one keeps. Assumes nothing.
use mathlib.Core.Path.{◌≡◌, refl, sym, ap, ◌∙◌, subst, subst₂}
use mathlib.Core.Bool.{Bool, true, false, ◌&&◌, and-false, true≢false}
use mathlib.Core.List.{List, [], ◌++◌, append-nil}
use Prim.Native.Nat.{ℕ, ◌-◌, ◌≤◌, ◌<◌}
use native.Mathlib.Omega.{arith}
use lib.Dec.{eqb, leb, ltb}
use lib.ListN.{length}
use borrow.Author.Tests.{eqb-false}
use Rattle.rules.specs.Machine.{Out, more, done, ends}
use Rattle.rules.specs.Bits.{bits_of}
use Rattle.rules.specs.Lines.{Line, failed, add, push}
use Rattle.rules.specs.Rows.{Encoding, Settings, State, RowOut, row, stop, rules_of}
use Rattle.rules.specs.Pages.{Answer, Kept, none_kept, end_with, entries, rows_left, page_of, row_of, read_page, strict_if_exact, short_of, unless_short, most_bytes, is_too_wide, decode}
use Rattle.rules.proofs.Machine.{ends_more, ends-done, ends-ind, ends-stops}
use Rattle.rules.proofs.Unless.{Unless, same, but, unless_not, with_exact, row-unless}
use Rattle.rules.proofs.Budget.{Bytes, whole-bytes}
use Rattle.rules.proofs.Pages.{step, page-cases, page-kept, page-full, page-stopped, page-falls, ends-behind, read-answered}
use Rattle.rules.proofs.Answers.{short-cases, Refuses, too_wide, too_long, without_columns, Allowed, decode-cases}
use Rattle.rules.proofs.Exact.{One, with-1, one-fails, line-one}
use Rattle.rules.specs.Marks.{strict_of}

-- ---- Both answers

-- The first answer's rows and marks are the first of the second's.
pub record First (a b : Answer) : Type 0 where
  pub rest : List (List ℕ)
  pub rows : b.rows ≡ a.rows ++ rest
  pub later : List ℕ
  pub marks : b.marks ≡ a.marks ++ later

-- exact's answer and strict's, of which `asked` rows are asked: the same; or strict is done, with too few rows; or exact refuses a code
pub data Beside (asked : ℕ) : Answer → Answer → Type 0 where
  agrees : {a : Answer} → Beside asked a a
  lacks : {a : Answer} → a.number ≡ 0 → length a.rows < asked → Beside asked (short_of a) a
  refuses : {a b : Answer} → a.number ≡ 1 → First a b → Beside asked a b

-- ---- A row

-- it ends the page with 1
data Refused : RowOut → Type 0 where
  refused : {place bytes : ℕ} {loose : List ℕ} → Refused (stop 1 place bytes loose)

module _ (S : Settings) (bs : List Bool) where
  abbrev exact_of : Settings
  exact_of = with_exact true (strict_of S)

  row_one : (room : ℕ) (enc : Encoding) (st : State) → Unless Refused (row_of enc exact_of bs room st) (row_of enc (strict_of S) bs room st)
  unfolding push add
  row_one room = row-unless (strict_of S) true false bs room room One Refused one-fails (λ kind. line-one S.columns room kind bs) whites unmended stops
    where
      whites : (count : ℕ) (s : Line) → Unless One (push (rules_of exact_of room) 0 count s) (push (rules_of (strict_of S) room) 0 count s)
      whites count s = same

      unmended : (n place : ℕ) (s : Line) (expected : Bool) → One (failed n place s) → ((expected && false) && leb n 3) ≡ false
      unmended n place s expected with-1 = rw (and-false expected)

      stops : (n place : ℕ) (s : Line) → One (failed n place s) → Refused (stop n place 0 s.changes)
      stops n place s with-1 = refused

  -- ---- A page

  module _ (wide : 0 < S.columns) (bytes : Bytes bs) (store places : ℕ) where
    abbrev enc : Encoding
    enc = S.encoding

    abbrev exactly : Kept → Out Kept Answer
    exactly = step enc exact_of wide bs bytes store places

    abbrev strictly : Kept → Out Kept Answer
    strictly = step enc (strict_of S) wide bs bytes store places

    abbrev From : Kept → Answer → Type 0
    From k a = (b : Answer) × (ends strictly (rows_left bs) k ≡ done b) × Beside S.rows a b

    module _ (k : Kept) where
      abbrev row_under : Settings → RowOut
      row_under T = row_of enc T bs (store - entries k.rows) k.state

      -- a row that exact keeps strict keeps
      same_row : (r : List ℕ) (mark : ℕ) (next : State) → row_under exact_of ≡ row r mark next → row_under (strict_of S) ≡ row r mark next
      same_row r mark next e = unless_not (subst (λ (o : RowOut). Unless Refused o (row_under (strict_of S))) e (row_one (store - entries k.rows) enc k.state)) (λ p. elim p [ ])

      ends_so : (a : Answer) → strictly k ≡ done a → From k a
      ends_so a e = (a, ends-done strictly (rows_left bs) (page-falls enc (strict_of S) wide bs bytes store places) k a e, agrees)

      stopped : (n p b : ℕ) (loose : List ℕ) (o u : RowOut) → o ≡ stop n p b loose → row_under (strict_of S) ≡ u → Unless Refused o u → From k (end_with k n p b loose)
      stopped n p b loose o u e f same = ends_so (end_with k n p b loose) (page-stopped enc (strict_of S) wide bs bytes store places k n p b loose (f ∙ e))
      stopped n p b loose o u e f (but refused) =
          let s = ends-stops strictly (rows_left bs) (page-falls enc (strict_of S) wide bs bytes store places) k in
          let (rest, x, later, y) = ends-behind enc (strict_of S) wide bs bytes store places k s.0 s.1 in
          (s.0, s.1, refuses (let q : n ≡ 1 = cc in q) (record { rest = rest; rows = x; later = later; marks = y }))

    base : (k : Kept) (a : Answer) → exactly k ≡ done a → From k a
    base k a =
        page-cases enc exact_of wide bs bytes store places k (λ o. o ≡ done a → From k a)
        (λ r mark next e l q. absurd (let z : ◌≡◌ {A = ℕ} 0 1 = cc in omega arith))
        (λ r mark next e l q. subst (From k) (let g : end_with k 5 0 0 r ≡ a = cc in g)
        (ends_so k (end_with k 5 0 0 r) (page-full enc (strict_of S) wide bs bytes store places k r mark next (same_row k r mark next e) l)))
        (λ n p b loose e q. subst (From k) (let g : end_with k n p b loose ≡ a = cc in g)
        (stopped k n p b loose (row_under k exact_of) (row_under k (strict_of S)) e refl (row_one (store - entries k.rows) enc k.state)))

    onward : (k j : Kept) (a : Answer) → exactly k ≡ more j → From j a → From k a
    onward k j a =
        page-cases enc exact_of wide bs bytes store places k (λ o. o ≡ more j → From j a → From k a)
        (λ r mark next e l q h.
        (h.0, ends_more strictly (rows_left bs) (page-falls enc (strict_of S) wide bs bytes store places) k j (page-kept enc (strict_of S) wide bs bytes store places k r mark next (same_row k r mark next e) l ∙ q) ∙ h.1, h.2))
        (λ r mark next e l q h. absurd (let z : ◌≡◌ {A = ℕ} 0 1 = cc in omega arith))
        (λ n p b loose e q h. absurd (let z : ◌≡◌ {A = ℕ} 0 1 = cc in omega arith))

    page-beside : Beside S.rows (read_page exact_of bs store places) (read_page (strict_of S) bs store places)
    unfolding read_page
    page-beside =
        let p = ends-stops exactly (rows_left bs) (page-falls enc exact_of wide bs bytes store places) none_kept in
        let c = ends-ind exactly From base onward (rows_left bs) none_kept p.0 p.1 in
        subst₂ (λ (x y : Out Kept Answer). Beside S.rows (page_of x) (page_of y)) (sym p.1) (sym c.1) c.2

-- ---- The answers to bytes

-- Without the setting nothing changes: a page is what its rows come to, and a code does what it did (proofs/Lines.antt, `inexact`).
pub exact-off : (S : Settings) → S.exact ≡ false → (bytes : List ℕ) → Allowed S bytes → (store places : ℕ) → decode S bytes store places ≡ read_page S (bits_of bytes) store places
exact-off S off bytes allowed store places =
    decode-cases S bytes (λ f. f store places ≡ read_page S (bits_of bytes) store places) (λ n r. absurd (refuses r))
    (λ ok. short-cases S (read_page (strict_if_exact S) (bits_of bytes) store places) (λ x. x ≡ read_page S (bits_of bytes) store places) (λ l. absurd (true≢false (sym l.exact ∙ off)))
    (λ n. ap (λ (T : Settings). read_page T (bits_of bytes) store places) (let q : strict_if_exact S ≡ S = rw off in q)))
  where
    refuses : {n : ℕ} → Refuses S bytes n → ⊥
    refuses (too_wide c) = allowed.narrow c
    refuses (too_long h) = omega arith
    refuses (without_columns c) = omega arith

-- What a 14 says: exact is set, and the page was done with fewer rows than were asked for.
pub record ShortPage (S : Settings) (bytes : List ℕ) (a : Answer) : Type 0 where
  pub exact : S.exact ≡ true
  pub allowed : Allowed S bytes
  pub fewer : length a.rows < S.rows
  pub no_place : a.place ≡ 0
  pub no_bytes : a.bytes ≡ 0
  pub no_loose : a.loose ≡ []

module _ (S : Settings) (bytes : List ℕ) (store places : ℕ) where
  abbrev page : Answer
  page = read_page (strict_if_exact S) (bits_of bytes) store places

  -- 14 is given only there,
  pub decode-short : (decode S bytes store places).number ≡ 14 → ShortPage S bytes (decode S bytes store places)
  decode-short =
      decode-cases S bytes (λ f. (f store places).number ≡ 14 → ShortPage S bytes (f store places)) (λ n r e. absurd (refuses r e))
      (λ ok. let a = read-answered S.encoding (strict_if_exact S) ok.wide (bits_of bytes) (whole-bytes bytes) store places refl in
      short-cases S page (λ x. x.number ≡ 14 → ShortPage S bytes x)
      (λ l e. record { exact = l.exact; allowed = ok; fewer = l.fewer; no_place = refl; no_bytes = refl; no_loose = a.clean l.finished })
      (λ n e. absurd (omega (arith, a.numbered))))
    where
      refuses : {n : ℕ} → Refuses S bytes n → n ≡ 14 → ⊥
      refuses (too_wide c) = omega arith
      refuses (too_long h) = omega arith
      refuses (without_columns c) = omega arith

  -- and there no page is done: "columns 0 still answers 0"
  pub decode-done : (decode S bytes store places).number ≡ 0 → S.exact ≡ true → 0 < S.columns → S.rows ≤ length (decode S bytes store places).rows
  decode-done =
      decode-cases S bytes (λ f. (f store places).number ≡ 0 → S.exact ≡ true → 0 < S.columns → S.rows ≤ length (f store places).rows) (λ n r. refuses r)
      (λ ok. short-cases S page (λ x. x.number ≡ 0 → S.exact ≡ true → 0 < S.columns → S.rows ≤ length x.rows) (λ l e. absurd (omega arith))
      (λ n e x w. let m : ¬ (length page.rows < S.rows) = λ h. n (record { exact = x; finished = e; fewer = h }) in omega arith))
    where
      refuses : {n : ℕ} → Refuses S bytes n → n ≡ 0 → S.exact ≡ true → 0 < S.columns → S.rows ≤ 0
      refuses (too_wide c) e x w = absurd (omega arith)
      refuses (too_long h) e x w = absurd (omega arith)
      refuses (without_columns c) e x w = absurd (omega arith)

module _ (S : Settings) (exact : S.exact ≡ true) (bytes : List ℕ) (store places : ℕ) where
  -- What `decode` answers to the exact setting, beside its answer to the strict one:
  pub decode-beside : Beside S.rows (decode S bytes store places) (decode (strict_of S) bytes store places)
  unfolding decode
  decode-beside = tests (is_too_wide S.columns) refl (ltb most_bytes (length bytes)) refl (eqb S.columns 0) refl
    where
      short : {a b : Answer} → Beside S.rows a b → Beside S.rows (unless_short S a) b
      short (agrees {a}) = short-cases S a (λ x. Beside S.rows x a) (λ l. lacks l.finished l.fewer) (λ n. agrees)
      short (lacks {a} e h) = short-cases S (short_of a) (λ x. Beside S.rows x a) (λ l. absurd (omega (arith, l.finished))) (λ n. lacks e h)
      short (refuses {a} {b} e f) = short-cases S a (λ x. Beside S.rows x b) (λ l. absurd (omega (arith, l.finished))) (λ n. refuses e f)

      is-exact : strict_if_exact S ≡ exact_of S (bits_of bytes)
      is-exact = rw exact

      tests : (a : Bool) → is_too_wide S.columns ≡ a → (b : Bool) → ltb most_bytes (length bytes) ≡ b → (c : Bool) → eqb S.columns 0 ≡ c
          → Beside S.rows (decode S bytes store places) (decode (strict_of S) bytes store places)
      tests true e b f c g = rw (e, decode) agrees
      tests false e true f c g = rw (e, f, decode) agrees
      tests false e false f true g = rw (e, f, g, decode) agrees
      tests false e false f false g =
          rw (e, f, g, decode)
          (short (subst (λ (T : Settings). Beside S.rows (read_page T (bits_of bytes) store places) (read_page (strict_of S) (bits_of bytes) store places)) (sym is-exact)
          (page-beside S (bits_of bytes) (let z : S.columns ≡ 0 → ⊥ = eqb-false S.columns 0 g in omega arith) (whole-bytes bytes) store places)))

  -- whatever is not 1 or 14 is the strict answer, rows, marks and bytes;
  pub exact_same : ((decode S bytes store places).number ≡ 1 → ⊥) → ((decode S bytes store places).number ≡ 14 → ⊥) → decode (strict_of S) bytes store places ≡ decode S bytes store places
  exact_same = cases decode-beside
    where
      cases : {a b : Answer} → Beside S.rows a b → (a.number ≡ 1 → ⊥) → (a.number ≡ 14 → ⊥) → b ≡ a
      cases agrees x y = refl
      cases (lacks e h) x y = absurd (y refl)
      cases (refuses e f) x y = absurd (x e)

  -- at 14 the strict reading is done, with the same rows and marks;
  pub exact-short : (decode S bytes store places).number ≡ 14
      → ((decode (strict_of S) bytes store places).number ≡ 0) × ((decode (strict_of S) bytes store places).rows ≡ (decode S bytes store places).rows) × ((decode (strict_of S) bytes store places).marks ≡ (decode S bytes store places).marks)
  exact-short = cases decode-beside (λ e. true≢false (sym (decode-short (strict_of S) bytes store places e).exact))
    where
      cases : {a b : Answer} → Beside S.rows a b → (b.number ≡ 14 → ⊥) → a.number ≡ 14 → (b.number ≡ 0) × (b.rows ≡ a.rows) × (b.marks ≡ a.marks)
      cases agrees x e = absurd (x e)
      cases (lacks d h) x e = (d, refl, refl)
      cases (refuses d f) x e = absurd (omega arith)

  -- and in any case what was kept is the first that the strict reading keeps.
  pub exact-first : First (decode S bytes store places) (decode (strict_of S) bytes store places)
  exact-first = cases decode-beside
    where
      all : (a b : Answer) → b.rows ≡ a.rows → b.marks ≡ a.marks → First a b
      all a b e f = record { rest = []; rows = e ∙ sym (append-nil a.rows); later = []; marks = f ∙ sym (append-nil a.marks) }

      cases : {a b : Answer} → Beside S.rows a b → First a b
      cases (agrees {a}) = all a a refl refl
      cases (lacks {a} e h) = all (short_of a) a refl refl
      cases (refuses e f) = f
