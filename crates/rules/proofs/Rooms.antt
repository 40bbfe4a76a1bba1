-- What a smaller room gives: a page, and a line by itself, read into less room are those read into more, cut by the one rule `within`. And when 4 and 5 are given: no entry, or
-- no row end, is left, and more of them would be filled; so with room for all that the bits can hold neither is ever given. Assumes nothing.
use mathlib.Core.Path.{◌≡◌, refl, sym, ap, ◌∙◌, subst}
use mathlib.Core.Logic.{⊎_elim}
use mathlib.Core.Bool.{Bool, true, false}
use mathlib.Core.List.{List, [], ◌∷◌, ◌++◌, append_assoc, append-nil}
use Prim.Native.Nat.{ℕ, suc, min, ◌+◌, ◌-◌, ◌*◌, ◌≤◌, ◌<◌}
use native.Mathlib.Omega.{arith}
use lib.Dec.{eqb, leb, ltb}
use lib.ListN.{length, take, length-append}
use lib.Seq.{take_at}
use borrow.Author.Tests.{ltb-true, ltb-false, leb-true, eqb-false}
use Rattle.rules.specs.Machine.{Out, more, done, ends}
use Rattle.rules.specs.Bits.{bits_of}
use Rattle.rules.specs.Lines.{Rules, Went, went, failed, two, read_line}
use Rattle.rules.specs.Rows.{Settings, State, RowOut, row, stop}
use Rattle.rules.specs.Pages.{Answer, Kept, none_kept, with_row, end_with, entries, rows_left, page_of, row_of, read_page, strict_if_exact, unless_short, most_bytes, is_too_wide, ascends, decode, one_line, read_one_line}
use Rattle.rules.proofs.Bits.{length-bits_of}
use Rattle.rules.proofs.Machine.{Falls, ends_more, ends-done, ends-ind, ends-stops}
use Rattle.rules.proofs.PageBack.{entries-snoc}
use Rattle.rules.proofs.Ascending.{rises-length}
use Rattle.rules.proofs.Lines.{read_whole, read-broken, data-bound}
use Rattle.rules.proofs.Budget.{Bytes, whole-bytes}
use Rattle.rules.proofs.Pages.{Does, row-does, Held, held_start, held_next, read-answered, step, page-cases, page-kept, page-full, page-stopped, page-falls}
use Rattle.rules.proofs.Marks.{decode-came, came-as-many}
use Rattle.rules.proofs.Entries.{Spared, spared-start, spared-next, spared-row, spared-loose}
use Rattle.rules.proofs.LessRoom.{Cut, same, short, line-cut, Fills, line-fills, changes_in, RowFills, row-fills, RowCut, row_cut, row-cut-cases}
use Rattle.rules.proofs.Answers.{short-cases, Refuses, too_wide, too_long, without_columns, decode-cases}
use Rattle.rules.specs.Within.{cut_behind, four, within_from, within}
use Rattle.rules.proofs.Within.{within_all, within-loose, within-four, within-five, within-kept, Cuts, cuts, Front, cuts-front, cuts-four, cuts-five, short-within}

-- ---- A page with less room

module _ (S : Settings) (wide : 0 < S.columns) (bs : List Bool) (bytes : Bytes bs) (store store' places places' : ℕ) (le : store ≤ store') (le' : places ≤ places') where
  abbrev small : Kept → Out Kept Answer
  small = step S.encoding S wide bs bytes store places

  abbrev large : Kept → Out Kept Answer
  large = step S.encoding S wide bs bytes store' places'

  small-falls : Falls small (rows_left bs)
  small-falls = page-falls S.encoding S wide bs bytes store places

  abbrev row_in : ℕ → Kept → RowOut
  row_in n k = row_of S.encoding S bs (n - entries k.rows) k.state

  -- From rows that are kept in both, each with its mark: the larger room's answer has them, and then others, and the smaller room cuts it.
  abbrev Cutting : Kept → Answer → Type 0
  Cutting k a =
      (rest : List (List ℕ)) × (a.rows ≡ k.rows ++ rest)
      × (later : List ℕ) × (a.marks ≡ k.marks ++ later)
      × (length k.marks ≡ length k.rows → entries k.rows ≤ store → length k.rows ≤ places → ends small (rows_left bs) k ≡ done (within_from store places a k.rows rest))

  module _ (k : Kept) where
    abbrev left : ℕ
    left = store - entries k.rows

    -- the next row, by the room that is left for it
    less : (o : RowOut) (G : Type 0) → row_in store' k ≡ o → (length (changes_in o) ≤ left → row_in store k ≡ o → G)
        → (left < length (changes_in o) → row_in store k ≡ stop 4 0 0 (take left (changes_in o)) → G) → G
    less o G e fits over =
        row-cut-cases (λ u. row_in store k ≡ u → G)
        (subst (RowCut left (row_in store k)) e (row_cut S bs left (store' - entries k.rows) (omega arith) S.encoding k.state)) fits over refl

    abbrev Done : Answer → List (List ℕ) → Type 0
    Done a rest = ends small (rows_left bs) k ≡ done (within_from store places a k.rows rest)

    ends_with : (a b : Answer) → small k ≡ done b → a ≡ b → ends small (rows_left bs) k ≡ done a
    ends_with a b e q = ends-done small (rows_left bs) small-falls k b e ∙ ap done (sym q)

    module _ (a : Answer) (later : List ℕ) (y : a.marks ≡ k.marks ++ later) (marked : length k.marks ≡ length k.rows) where
      -- the rows kept have the answer's first marks
      ends-cut : (n : ℕ) (rest : List (List ℕ)) (loose : List ℕ) → small k ≡ done (end_with k n 0 0 loose) → within_from store places a k.rows rest ≡ cut_behind a n k.rows loose → Done a rest
      ends-cut n rest loose e q = ends_with _ (end_with k n 0 0 loose) e (q ∙ (let m = ap (take (length k.rows)) y ∙ take_at k.marks later (length k.rows) marked in cc))

      stops : (rest : List (List ℕ)) (loose : List ℕ) → row_in store k ≡ stop 4 0 0 loose → within_from store places a k.rows rest ≡ four a k.rows loose → Done a rest
      stops rest loose e = ends-cut 4 rest loose (page-stopped S.encoding S wide bs bytes store places k 4 0 0 loose e)

    -- the larger room ends the page here, and the smaller one too where the changes fit
    last : (n place b : ℕ) (o : RowOut) → row_in store' k ≡ o → (row_in store k ≡ o → small k ≡ done (end_with k n place b (changes_in o))) → Cutting k (end_with k n place b (changes_in o))
    last n place b o e same_end = (
      [],
      sym (append-nil k.rows),
      [],
      sym (append-nil k.marks),
      λ marked h i. less o (Done a []) e
          (λ f q. ends_with _ a (same_end q) (within_all store places a k.rows f))
          (λ f q. stops a [] (sym (append-nil k.marks)) marked [] (take left (changes_in o)) q (within-loose store places a k.rows f)),
    )
      where
        a : Answer
        a = end_with k n place b (changes_in o)

    -- it keeps a row
    keeps : (r : List ℕ) (mark : ℕ) (next : State) (a : Answer) → row_in store' k ≡ row r mark next → Cutting (with_row k r mark next) a → Cutting k a
    keeps r mark next a e (rest, x, later, y, f) = (
      r ∷ rest,
      x ∙ append_assoc k.rows (r ∷ []) rest,
      mark ∷ later,
      z,
      λ marked h i. less (row r mark next) (Done a (r ∷ rest)) e
          (λ g q. tests marked h g q (ltb (length k.rows) places) (ltb-true _ _) (ltb-false _ _))
          (λ g q. stops a (mark ∷ later) z marked (r ∷ rest) (take left r) q (within-four store places a k.rows r rest g)),
    )
      where
        z : a.marks ≡ k.marks ++ mark ∷ later
        z = y ∙ append_assoc k.marks (mark ∷ []) later

        tests : length k.marks ≡ length k.rows → entries k.rows ≤ store → length r ≤ left → row_in store k ≡ row r mark next
            → (b : Bool) → (b ≡ true → length k.rows < places) → (b ≡ false → places ≤ length k.rows) → Done a (r ∷ rest)
        tests marked h g q true l m =
            ends_more small (rows_left bs) small-falls k _ (page-kept S.encoding S wide bs bytes store places k r mark next q (l refl))
            ∙ f (omega (arith, length-append k.marks (mark ∷ []), length-append k.rows (r ∷ []))) (omega (arith, entries-snoc k.rows r)) (omega (arith, l refl, length-append k.rows (r ∷ [])))
            ∙ ap done (sym (within-kept store places a k.rows r rest g (l refl)))
        tests marked h g q false l m =
            ends-cut a (mark ∷ later) z marked 5 (r ∷ rest) r (page-full S.encoding S wide bs bytes store places k r mark next q (m refl)) (within-five store places a k.rows r rest g (m refl))

  base : (k : Kept) (a : Answer) → large k ≡ done a → Cutting k a
  base k a =
      page-cases S.encoding S wide bs bytes store' places' k (λ o. o ≡ done a → Cutting k a)
      (λ r mark next e l q. absurd (let z : ◌≡◌ {A = ℕ} 0 1 = cc in omega arith))
      (λ r mark next e l q. subst (Cutting k) (let g : end_with k 5 0 0 r ≡ a = cc in g)
      (last k 5 0 0 (row r mark next) e (λ i. page-full S.encoding S wide bs bytes store places k r mark next i (omega arith))))
      (λ n p b loose e q. subst (Cutting k) (let g : end_with k n p b loose ≡ a = cc in g)
      (last k n p b (stop n p b loose) e (page-stopped S.encoding S wide bs bytes store places k n p b loose)))

  onward : (k j : Kept) (a : Answer) → large k ≡ more j → Cutting j a → Cutting k a
  onward k j a =
      page-cases S.encoding S wide bs bytes store' places' k (λ o. o ≡ more j → Cutting j a → Cutting k a)
      (λ r mark next e l q c. keeps k r mark next a e (subst (λ (x : Kept). Cutting x a) (let g : j ≡ with_row k r mark next = cc in g) c))
      (λ r mark next e l q c. absurd (let z : ◌≡◌ {A = ℕ} 0 1 = cc in omega arith))
      (λ n p b loose e q c. absurd (let z : ◌≡◌ {A = ℕ} 0 1 = cc in omega arith))

  pub page-within : read_page S bs store places ≡ within store places (read_page S bs store' places')
  unfolding read_page entries
  page-within =
      let p = ends-stops large (rows_left bs) (page-falls S.encoding S wide bs bytes store' places') none_kept in
      let c = ends-ind large Cutting base onward (rows_left bs) none_kept p.0 p.1 in
      ap page_of (c.4 refl (omega arith) (omega arith))
      ∙ ap (within_from store places p.0 []) (sym c.1)
      ∙ ap (λ (o : Out Kept Answer). within store places (page_of o)) (sym p.1)

-- ---- When 4 and 5 are given

module _ (S : Settings) (wide : 0 < S.columns) (bs : List Bool) (bytes : Bytes bs) (store places : ℕ) where
  -- 4 only where no entry is left, 5 only where no row end is; and never more entries than the bits and one
  pub record Used (a : Answer) : Type 0 where
    pub four : a.number ≡ 4 → entries a.rows + length a.loose ≡ store
    pub five : a.number ≡ 5 → length a.rows ≡ places
    pub few : entries a.rows + length a.loose ≤ length bs + 1

  abbrev Held' : Kept → Type 0
  Held' = Held S.encoding S wide bs bytes store places

  abbrev row_for : Kept → RowOut
  row_for k = row_of S.encoding S bs (store - entries k.rows) k.state

  -- what holds between rows, with what was spared
  abbrev Between : Kept → Type 0
  Between k = Held' k × Spared S.encoding S wide bs bytes k

  used-last : (k : Kept) (a : Answer) → step S.encoding S wide bs bytes store places k ≡ done a → Between k → Used a
  used-last k a =
      page-cases S.encoding S wide bs bytes store places k (λ o. o ≡ done a → Between k → Used a)
      (λ r mark next e l q h. absurd (let z : ◌≡◌ {A = ℕ} 0 1 = cc in omega arith))
      (λ r mark next e l q (h, p). subst Used (let g : end_with k 5 0 0 r ≡ a = cc in g)
      (record { four = λ z. absurd (omega arith); five = λ z. omega (arith, h.placed); few = spared-row S.encoding S wide bs bytes store places (room k) k h p r mark next e }))
      (λ n p b loose e q h. subst Used (let g : end_with k n p b loose ≡ a = cc in g) (stopped h n p b loose e))
    where
      room : Kept → ℕ
      room k = store - entries k.rows

      stopped : Between k → (n p b : ℕ) (loose : List ℕ) → row_for k ≡ stop n p b loose → Used (end_with k n p b loose)
      stopped (h, s) n p b loose e =
          let m = subst (Does S bs (room k) k.state) e (row-does S wide bs bytes (room k) k.state S.encoding h.fitting h.inside) in
          let f = subst (RowFills (room k)) e (row-fills S bs (room k) S.encoding k.state) in
          record {
            four = λ z. omega (arith, f z, m.roomy, h.roomy);
            five = λ z. absurd (omega (arith, m.numbered));
            few = spared-loose S.encoding S wide bs bytes store places (room k) k h s n p b loose e;
          }

  used-next : (k j : Kept) → step S.encoding S wide bs bytes store places k ≡ more j → Between k → Between j
  used-next k j e (h, s) = (
    held_next S.encoding S wide bs bytes store places k j h e,
    page-cases S.encoding S wide bs bytes store places k (λ o. o ≡ more j → Spared S.encoding S wide bs bytes j)
        (λ r mark next f l q. subst (Spared S.encoding S wide bs bytes) (let g : with_row k r mark next ≡ j = cc in g) (spared-next S.encoding S wide bs bytes store places (store - entries k.rows) k h s r mark next f))
        (λ r mark next f l q. absurd (let z : ◌≡◌ {A = ℕ} 0 1 = cc in omega arith))
        (λ n p b loose f q. absurd (let z : ◌≡◌ {A = ℕ} 0 1 = cc in omega arith)) e,
  )

  pub page-used : Used (read_page S bs store places)
  unfolding read_page
  page-used =
      let k : Kept = none_kept in
      let s = step S.encoding S wide bs bytes store places in
      let p = ends-stops s (rows_left bs) (page-falls S.encoding S wide bs bytes store places) k in
      subst (λ (o : Out Kept Answer). Used (page_of o)) (sym p.1)
      (ends-ind s (λ k a. Between k → Used a) used-last (λ k j a e f h. f (used-next k j e h)) (rows_left bs) k p.0 p.1
      (held_start S.encoding S wide bs bytes store places, spared-start S.encoding S wide bs bytes))

-- ---- The answers to bytes

-- an answer with nothing in it, which is the same in any room
abbrev nothing : ℕ → ℕ → Answer
nothing n place = record { number = n; place = place; bytes = 0; rows = []; marks = []; loose = [] }

nothing-within : (store places n place : ℕ) → nothing n place ≡ within store places (nothing n place)
nothing-within store places n place = sym (within_all store places (nothing n place) [] (omega arith))

-- neither 4 nor 5 is a refusal
refuses-other : {S : Settings} {bytes : List ℕ} {n : ℕ} → Refuses S bytes n → (n ≡ 4 → ⊥) × (n ≡ 5 → ⊥)
refuses-other (too_wide e) = (omega arith, omega arith)
refuses-other (too_long h) = (omega arith, omega arith)
refuses-other (without_columns e) = (omega arith, omega arith)

-- 4 only where no entry is left, 5 only where no row end is; and what the data can hold at most
pub record Spent (bytes : List ℕ) (store places : ℕ) (a : Answer) : Type 0 where
  pub four : a.number ≡ 4 → entries a.rows + length a.loose ≡ store
  pub five : a.number ≡ 5 → length a.rows ≡ places
  pub few_entries : entries a.rows + length a.loose ≤ 16 * length bytes
  pub bits-and-one : entries a.rows + length a.loose ≤ 8 * length bytes + 1
  pub few_rows : length a.rows ≤ 8 * length bytes + 1

module _ (S : Settings) (bytes : List ℕ) where
  -- What a smaller room gives is what a larger one gives, cut.
  pub decode-within : (store store' places places' : ℕ) → store ≤ store' → places ≤ places' → decode S bytes store places ≡ within store places (decode S bytes store' places')
  decode-within store store' places places' le le' =
      decode-cases S bytes (λ f. f store places ≡ within store places (f store' places')) (λ n r. nothing-within store places n 0)
      (λ ok. ap (unless_short S) (page-within (strict_if_exact S) ok.wide (bits_of bytes) (whole-bytes bytes) store store' places places' le le')
      ∙ short-within S store places (read_page (strict_if_exact S) (bits_of bytes) store' places'))

  pub decode-spent : (store places : ℕ) → Spent bytes store places (decode S bytes store places)
  unfolding entries
  decode-spent store places =
      decode-cases S bytes (λ f. Spent bytes store places (f store places))
      (λ n r. record { four = λ e. absurd ((refuses-other r).0 e); five = λ e. absurd ((refuses-other r).1 e); few_entries = omega arith; bits-and-one = omega arith; few_rows = omega arith })
      (λ ok.
      let u = page-used (strict_if_exact S) ok.wide (bits_of bytes) (whole-bytes bytes) store places in
      let a = read-answered S.encoding (strict_if_exact S) ok.wide (bits_of bytes) (whole-bytes bytes) store places refl in
      let e : entries (read_page (strict_if_exact S) (bits_of bytes) store places).rows + length (read_page (strict_if_exact S) (bits_of bytes) store places).loose ≤ 16 * length bytes = omega (arith, u.few, a.few_entries, a.few_loose, length-bits_of bytes) in
      let o : entries (read_page (strict_if_exact S) (bits_of bytes) store places).rows + length (read_page (strict_if_exact S) (bits_of bytes) store places).loose ≤ 8 * length bytes + 1 = omega (arith, u.few, length-bits_of bytes) in
      let r : length (read_page (strict_if_exact S) (bits_of bytes) store places).rows ≤ 8 * length bytes + 1 = omega (arith, a.few_rows, length-bits_of bytes) in
      short-cases S (read_page (strict_if_exact S) (bits_of bytes) store places) (Spent bytes store places)
      (λ l. record { four = λ q. absurd (omega arith); five = λ q. absurd (omega arith); few_entries = e; bits-and-one = o; few_rows = r })
      (λ n. record { four = u.four; five = u.five; few_entries = e; bits-and-one = o; few_rows = r }))

  module _ (store store' places places' : ℕ) (le : store ≤ store') (le' : places ≤ places') where
    -- the smaller answer, by cases
    pub decode-cuts : Cuts store places (decode S bytes store' places') (decode S bytes store places)
    decode-cuts = subst (Cuts store places (decode S bytes store' places')) (sym (decode-within store store' places places' le le')) (cuts store places (decode S bytes store' places'))

    -- and what it keeps
    pub decode-front : Front (decode S bytes store' places') (decode S bytes store places)
    decode-front = cuts-front (came-as-many (decode-came S bytes store' places').1) decode-cuts

    -- after 4, a longer array of changes takes more of them,
    pub four-wants : store < store' → (decode S bytes store places).number ≡ 4 → store < entries (decode S bytes store' places').rows + length (decode S bytes store' places').loose
    four-wants h q =
        ⊎_elim (λ e. omega (arith, (decode-spent store' places').four (sym (ap (λ (x : Answer). x.number) e) ∙ q))) (λ l. l)
        (cuts-four decode-cuts q)

    -- and after 5 a longer array of ends more rows.
    pub five-wants : places < places' → (decode S bytes store places).number ≡ 5 → places < length (decode S bytes store' places').rows
    five-wants h q =
        ⊎_elim (λ e. omega (arith, (decode-spent store' places').five (sym (ap (λ (x : Answer). x.number) e) ∙ q))) (λ l. l)
        (cuts-five decode-cuts q)

  -- So with room for all that the data can hold neither is given: one entry, or one end, more would be filled.
  pub four-never : (store places : ℕ) → 16 * length bytes ≤ store → (decode S bytes store places).number ≡ 4 → ⊥
  four-never store places h q = omega (arith, four-wants store (suc store) places places (omega arith) (omega arith) (omega arith) q, (decode-spent (suc store) places).few_entries)

  -- one entry more than bits is enough,
  pub four-never-more : (store places : ℕ) → 8 * length bytes + 1 ≤ store → (decode S bytes store places).number ≡ 4 → ⊥
  four-never-more store places h q = omega (arith, four-wants store (suc store) places places (omega arith) (omega arith) (omega arith) q, (decode-spent (suc store) places).bits-and-one)

  -- and one row end more.
  pub five-never : (store places : ℕ) → 8 * length bytes + 1 ≤ places → (decode S bytes store places).number ≡ 5 → ⊥
  five-never store places h q = omega (arith, five-wants store store places (suc places) (omega arith) (omega arith) (omega arith) q, (decode-spent store (suc places)).few_rows)

-- ---- One line

-- a line read whole is one row, so it is cut as a page is that has one row end
line-within : {small : ℕ} {v w : Went} → Cut small v w → one_line v ≡ within small 1 (one_line w)
unfolding entries
line-within {small} (same {w = went l} h) =
    sym (within-kept small 1 (one_line (went l)) [] l.changes [] (omega arith) (omega arith) ∙ within_all small 1 (one_line (went l)) (l.changes ∷ []) (omega arith))
line-within {small} (same {w = failed n place l} h) = sym (within_all small 1 (one_line (failed n place l)) [] (omega arith))
line-within {small} (short {w = went l} h e) =
    ap (four (one_line (went l)) []) (e ∙ ap (λ (n : ℕ). take n l.changes) (let q : small ≡ small - 0 = omega arith in q)) ∙ sym (within-four small 1 (one_line (went l)) [] l.changes [] (omega arith))
line-within {small} (short {w = failed n place l} h e) =
    ap (four (one_line (failed n place l)) []) (e ∙ ap (λ (n : ℕ). take n l.changes) (let q : small ≡ small - 0 = omega arith in q)) ∙ sym (within-loose small 1 (one_line (failed n place l)) [] (omega arith))

module _ (bytes : List ℕ) (at columns : ℕ) (strict : Bool) (reference : List ℕ) where
  abbrev R : ℕ → Rules
  R room = record { width = columns; strict = strict; exact = false; room = room }

  -- an answer with nothing in it, whatever the room; or a line that is read
  one-cases : (C : (ℕ → Answer) → Type 0) → ((n place : ℕ) → (n ≡ 4 → ⊥) → (n ≡ 5 → ⊥) → C (λ room. nothing n place))
      → (0 < columns → at ≤ length (bits_of bytes) → C (λ room. one_line (read_line (R room) (two reference) (bits_of bytes) at)))
      → C (read_one_line bytes at columns strict reference)
  unfolding read_one_line
  one-cases C empty reads = tests (eqb columns 0) refl (is_too_wide columns) refl (ltb most_bytes (length bytes)) refl (ascends columns reference) refl (leb at (length (bits_of bytes))) refl
    where
      tests : (a : Bool) → eqb columns 0 ≡ a → (b : Bool) → is_too_wide columns ≡ b → (c : Bool) → ltb most_bytes (length bytes) ≡ c → (d : Bool) → ascends columns reference ≡ d
          → (e : Bool) → leb at (length (bits_of bytes)) ≡ e → C (read_one_line bytes at columns strict reference)
      tests true p b q c r d s e t = rw (p, read_one_line) (empty 6 0 (λ z. omega arith) (λ z. omega arith))
      tests false p true q c r d s e t = rw (p, q, read_one_line) (empty 6 0 (λ z. omega arith) (λ z. omega arith))
      tests false p false q true r d s e t = rw (p, q, r, read_one_line) (empty 7 0 (λ z. omega arith) (λ z. omega arith))
      tests false p false q false r false s e t = rw (p, q, r, s, read_one_line) (empty 8 0 (λ z. omega arith) (λ z. omega arith))
      tests false p false q false r true s false t = rw (p, q, r, s, t, read_one_line) (empty 2 (length (bits_of bytes)) (λ z. omega arith) (λ z. omega arith))
      tests false p false q false r true s true t =
          rw (p, q, r, s, t, read_one_line) (reads (let z : columns ≡ 0 → ⊥ = eqb-false columns 0 p in omega arith) (leb-true at (length (bits_of bytes)) t))

  -- What a smaller array gives is what a larger one gives, cut.
  pub one-within : (small large : ℕ) → small ≤ large → read_one_line bytes at columns strict reference small ≡ within small 1 (read_one_line bytes at columns strict reference large)
  one-within small large le =
      one-cases (λ f. f small ≡ within small 1 (f large)) (λ n place p q. nothing-within small 1 n place)
      (λ wide i. line-within (line-cut columns strict false small large le (two reference) (bits_of bytes) at))

  -- 4 only where no entry is left, 5 never; one row at most, with its mark; no more changes than columns, nor than the bits from the line's first on
  pub record LineSpent (room : ℕ) (a : Answer) : Type 0 where
    pub four : a.number ≡ 4 → entries a.rows + length a.loose ≡ room
    pub five : a.number ≡ 5 → ⊥
    pub one_row : length a.rows ≤ 1
    pub marked : length a.marks ≡ length a.rows
    pub few : entries a.rows + length a.loose ≤ min columns (8 * length bytes - at)

  pub one-spent : (room : ℕ) → LineSpent room (read_one_line bytes at columns strict reference room)
  unfolding entries
  one-spent room =
      one-cases (λ f. LineSpent room (f room))
      (λ n place p q. record { four = λ e. absurd (p e); five = q; one_row = omega arith; marked = refl; few = omega arith })
      (λ wide i. cases wide i (read_line (R room) (two reference) (bits_of bytes) at) refl (line-fills columns strict false room (two reference) (bits_of bytes) at))
    where
      cases : 0 < columns → at ≤ length (bits_of bytes) → (w : Went) → read_line (R room) (two reference) (bits_of bytes) at ≡ w → Fills room w → LineSpent room (one_line w)
      cases wide i (went l) e f =
          let g = read_whole (R room) wide (two reference) (bits_of bytes) at l e in
          record {
            four = λ z. absurd (omega arith);
            five = λ z. omega arith;
            one_row = omega arith;
            marked = refl;
            few = omega (arith, g.few, g.inside, length-bits_of bytes, rises-length (omega arith) g.rising);
          }
      cases wide i (failed n place l) e f =
          let g = read-broken (R room) wide (two reference) (bits_of bytes) at (length (bits_of bytes)) (data-bound (bits_of bytes)) i n place l e in
          record {
            four = λ z. omega (arith, f z, g.line.roomy);
            five = λ z. omega (arith, g.numbered);
            one_row = omega arith;
            marked = refl;
            few = omega (arith, g.line.few, g.line.inside, g.line.fits, length-bits_of bytes, rises-length (omega arith) g.line.rising);
          }

  module _ (small large : ℕ) (le : small ≤ large) where
    -- the smaller answer, by cases
    pub one-cuts : Cuts small 1 (read_one_line bytes at columns strict reference large) (read_one_line bytes at columns strict reference small)
    one-cuts = subst (Cuts small 1 (read_one_line bytes at columns strict reference large)) (sym (one-within small large le)) (cuts small 1 (read_one_line bytes at columns strict reference large))

    -- and what it keeps
    pub one-front : Front (read_one_line bytes at columns strict reference large) (read_one_line bytes at columns strict reference small)
    one-front = cuts-front (one-spent large).marked one-cuts

    -- after 4, a longer array takes more changes
    pub one-wants : small < large → (read_one_line bytes at columns strict reference small).number ≡ 4
        → small < entries (read_one_line bytes at columns strict reference large).rows + length (read_one_line bytes at columns strict reference large).loose
    one-wants h q =
        ⊎_elim (λ e. omega (arith, (one-spent large).four (sym (ap (λ (x : Answer). x.number) e) ∙ q))) (λ l. l)
        (cuts-four one-cuts q)

  -- So with room for as many changes as columns, or as bits from the line's first on, it is never 4.
  pub one-never : (room : ℕ) → min columns (8 * length bytes - at) ≤ room → (read_one_line bytes at columns strict reference room).number ≡ 4 → ⊥
  one-never room h q = omega (arith, one-wants room (suc room) (omega arith) (omega arith) q, (one-spent (suc room)).few)
