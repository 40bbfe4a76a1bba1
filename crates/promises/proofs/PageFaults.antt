-- Why a row and a page fail, and at which bit: the causes of A7 for the page form, from the definitions. Assumes nothing.
use mathlib.Core.Path.{◌≡◌, refl, sym, ap, ◌∙◌, subst, subst₂}
use mathlib.Core.Bool.{Bool, true, false, cond, not, ◌&&◌, ◌||◌}
use mathlib.Core.List.{List, [], ◌∷◌, ◌++◌}
use mathlib.Core.Option.{Option, none, some}
use Prim.Native.Nat.{ℕ, suc, ◌+◌, ◌-◌, ◌≤◌, ◌<◌}
use native.Mathlib.Omega.{arith}
use lib.Dec.{eqb, leb, ltb}
use lib.ListN.{length, drop, length-append}
use borrow.Author.Tests.{leb-false, ltb-true, ltb-false, eqb-true}
use Rattle.rules.specs.Answers.{invalid_code, overflow}
use Rattle.rules.specs.Machine.{Out, more, done, run, ends}
use Rattle.rules.specs.Bits.{front_bit}
use Rattle.rules.specs.Lines.{Rules, Line, new_line, Went, went, failed, push, Kind, one, two, read_line}
use Rattle.rules.specs.Eols.{Eols, skip_to_eol, EolAt}
use Rattle.rules.specs.Rows.{Encoding, group4, group3_1_d, group3_2_d, Settings, State, recovered_mark, RowOut, row, stop, rules_of, aligned_if}
use Rattle.rules.specs.Group4.{eols_before, after_line4, row4}
use Rattle.rules.specs.Group3.{Tagging, untagged, tagged, eols3, Before, at_line, at_end, at_no_eol, judged, searched, missing, checked, before, tagged_line, line_of_tag, line3, kept, whitened, recovered, after_line3, row3}
use Rattle.rules.specs.Pages.{Answer, Kept, none_kept, with_row, end_with, entries, page_of, row_of, rows_left, read_page}
use Rattle.rules.proofs.Machine.{ends-ind, ends-stops}
use Rattle.rules.proofs.Eols.{eols3-ahead, eols3-read}
use Rattle.rules.proofs.Budget.{Bytes}
use Rattle.rules.proofs.Rows.{row4-cases, row3-cases}
use Rattle.rules.proofs.Pages.{step, page-cases, page-falls}
use Rattle.rules.proofs.Marks.{Implied}
use Rattle.promises.specs.Places.{LineFault, kind_of, RowFault, in_group4, in_group3_1_d, in_group3_2_d, no_tag, without_eol, PageFault}
use Rattle.promises.proofs.Faults.{push-why, line-fault}

-- ---- An EOL that is missing

module _ (S : Settings) (t : Tagging) (bs : List Bool) (st : State) where
  record Lacks (at : ℕ) : Type 0 where
    strict : S.strict ≡ true
    expected : st.eols ≡ true
    none-there : EolAt bs st.at → ⊥
    place_is : at ≡ st.at

  abbrev Lacking : Before S t bs → Type 0
  Lacking (at_line at expected) = Unit {0}
  Lacking (at_end at) = Unit {0}
  Lacking (at_no_eol at) = Lacks at

  judged-not : (rows_done expected : Bool) (e : Eols) → Lacking (judged S t bs rows_done expected e)
  judged-not rows_done expected e = cases ((S.end_of_block && leb 6 e.count) || (rows_done || leb (length bs) e.at))
    where
      cases : (b : Bool) → Lacking (cond b (at_end e.at) (at_line e.at expected))
      cases true = tt
      cases false = tt

  searched-not : (at : ℕ) (o : Option ℕ) → Lacking (searched S t bs at o)
  searched-not at (some a) = judged-not false true (eols3 bs t a)
  searched-not at none = judged-not false false (record { count = 0; at = at })

  -- where EOLs are expected nothing is aligned, and where none was read the reader stands where it was looked for
  abbrev from : ℕ
  from = aligned_if (S.aligned && not st.eols) st.at

  unaligned : (a b : Bool) → b ≡ true → aligned_if (a && not b) st.at ≡ st.at
  unaligned true true q = refl
  unaligned false true q = refl
  unaligned a false q = absurd (let z : ◌≡◌ {A = ℕ} 0 1 = cc in omega arith)

  lacks : st.eols ≡ true → (eols3 bs t from).count ≡ 0 → S.strict ≡ true → Lacks (eols3 bs t from).at
  lacks q z s =
      let here : from ≡ st.at = unaligned S.aligned st.eols q in
      record {
        strict = s;
        expected = q;
        none-there = λ e. absurd (omega (arith, z, eols3-read bs t from (subst (EolAt bs) (sym here) e)));
        place_is = (eols3-ahead bs t from).none_read z ∙ here;
      }

  before-lacks : (first : Bool) → Lacking (before S t bs st first)
  before-lacks true = tt
  before-lacks false = tests (eqb e.count 0) refl st.eols refl (eqb st.count S.rows || leb (length bs) e.at)
    where
      e : Eols
      e = eols3 bs t from

      strictly : st.eols ≡ true → e.count ≡ 0 → (b : Bool) → S.strict ≡ b → Lacking (missing S t bs b e.at)
      strictly q z true s = lacks q z s
      strictly q z false s = searched-not e.at (skip_to_eol bs e.at)

      tests : (z : Bool) → eqb e.count 0 ≡ z → (b : Bool) → st.eols ≡ b → (d : Bool)
          → Lacking (checked S t bs (eqb st.count S.rows) st e ((z && b) && not d))
      tests true z true q false = strictly q (eqb-true e.count 0 z) S.strict refl
      tests true z true q true = judged-not (eqb st.count S.rows) st.eols e
      tests true z false q d = judged-not (eqb st.count S.rows) st.eols e
      tests false z b q d = judged-not (eqb st.count S.rows) st.eols e

-- ---- A row

module _ (S : Settings) (implies : Implied S) (bs : List Bool) (room : ℕ) (st : State) where
  abbrev R : Rules
  R = rules_of S room

  abbrev RowTold : RowOut → Type 0
  RowTold (row r mark next) = Unit {0}
  RowTold (stop n p b loose) = invalid_code ≤ n → n ≤ overflow → RowFault S bs room st n p

  row4-told : S.encoding ≡ group4 → RowTold (row4 S bs room st)
  row4-told g = row4-cases S bs room st RowTold (λ e a b. absurd (omega arith)) (λ e. cases)
    where
      cases : (w : Went) → read_line R (two st.reference) bs (eols_before S bs st).at ≡ w → RowTold (after_line4 S bs st w)
      cases (went l) q = tt
      cases (failed n p l) q = λ a b. in_group4 g (line-fault R bs implies (two st.reference) (eols_before S bs st).at n p l q b)

  -- the encoding of a tagging
  abbrev Encoded : Tagging → Type 0
  Encoded untagged = S.encoding ≡ group3_1_d
  Encoded tagged = S.encoding ≡ group3_2_d

  not-4 : (t : Tagging) → Encoded t → S.encoding ≡ group4 → ⊥
  not-4 untagged g q = let z : ◌≡◌ {A = ℕ} 0 1 = cc in omega arith
  not-4 tagged g q = let z : ◌≡◌ {A = ℕ} 0 1 = cc in omega arith

  module _ (at : ℕ) (expected : Bool) where
    -- a line behind its tag bit
    behind-tag : (t : Tagging) (b : Bool) (n p : ℕ) (l : Line) → tagged_line S t bs R st.reference at b ≡ failed n p l → n ≤ overflow → LineFault R (kind_of b st.reference) bs (suc at) n p
    behind-tag t true n p l e h = line-fault R bs implies one (suc at) n p l e h
    behind-tag t false n p l e h = line-fault R bs implies (two st.reference) (suc at) n p l e h

    -- the line's fault is the row's, where it is not recovered
    of-line : (t : Tagging) → Encoded t → before S t bs st (eqb st.count 0) ≡ at_line at expected → (expected ≡ true → S.strict ≡ true) → (n p : ℕ) (l : Line)
        → line3 S t bs R st.reference at t ≡ failed n p l → n ≤ overflow → RowFault S bs room st n p
    of-line untagged g e x n p l q h = in_group3_1_d g e x (line-fault R bs implies one at n p l q h)
    of-line tagged g e x n p l q h = cases (ltb at (length bs)) (ltb-true _ _) (ltb-false _ _) q
      where
        cases : (b : Bool) → (b ≡ true → at < length bs) → (b ≡ false → length bs ≤ at) → line_of_tag S tagged bs R st.reference at b ≡ failed n p l → RowFault S bs room st n p
        cases true i o q = in_group3_2_d g e x (i refl) (behind-tag tagged (front_bit (drop at bs)) n p l q h)
        cases false i o q = subst₂ (λ (m j : ℕ). RowFault S bs room st m j) (let z : 2 ≡ n = cc in z) (let z : length bs ≡ p = cc in z) (no_tag g e (o refl))

    -- what is left of a recovered line fails with 4 alone
    mended : (t : Tagging) → S.strict ≡ false → (l : Line) (w : Went) → push R 0 (R.width - l.position) (whitened S t bs l) ≡ w → RowTold (kept S t bs st expected at recovered_mark w)
    mended t f l (went u) e = tt
    mended t f l (failed n p u) e = λ a b.
        let s = (push-why R 0 (R.width - l.position) (whitened S t bs l) n p u e b).strict in
        absurd (let z : ◌≡◌ {A = ℕ} 0 1 = cc in omega arith)

    after_line : (t : Tagging) → Encoded t → before S t bs st (eqb st.count 0) ≡ at_line at expected → (w : Went) → line3 S t bs R st.reference at t ≡ w
        → RowTold (after_line3 S t bs R st at expected w)
    after_line t g e (went l) q = tt
    after_line t g e (failed n p l) q = tests expected refl S.strict refl (leb n 3) (leb-false _ _)
      where
        fails : (expected ≡ true → S.strict ≡ true) → RowTold (stop n p 0 l.changes)
        fails x = λ a b. of-line t g e x n p l q b

        tests : (a : Bool) → expected ≡ a → (b : Bool) → S.strict ≡ b → (c : Bool) → (c ≡ false → 3 < n) → RowTold (recovered S t bs R st at expected n p l ((a && not b) && c))
        tests true x false f true k = mended t f l _ refl
        tests true x false f false k = λ a b. absurd (omega (arith, k refl))
        tests true x true f c k = fails (λ y. f)
        tests false x b f c k = fails (λ y. absurd (let z : ◌≡◌ {A = ℕ} 0 1 = cc in omega arith))

  row3-told : (t : Tagging) → Encoded t → RowTold (row3 S t bs room st)
  row3-told t g =
      row3-cases S t bs room st RowTold
      (λ at e a b. absurd (omega arith))
      (λ at e a b. let k = subst (Lacking S t bs st) e (before-lacks S t bs st (eqb st.count 0)) in
      subst (λ (j : ℕ). RowFault S bs room st 1 j) (sym k.place_is) (without_eol (not-4 t g) k.strict k.expected k.none-there))
      (λ at expected e w q. after_line at expected t g e w q)

  row_told : (enc : Encoding) → S.encoding ≡ enc → RowTold (row_of enc S bs room st)
  unfolding row_of
  row_told group4 g = row4-told g
  row_told group3_1_d g = row3-told untagged g
  row_told group3_2_d g = row3-told tagged g

-- ---- A page

-- a step that goes on has kept one row more
pub one_more : (S : Settings) (wide : 0 < S.columns) (bs : List Bool) (bytes : Bytes bs) (store places : ℕ) (k j : Kept)
    → step S.encoding S wide bs bytes store places k ≡ more j → length j.rows ≡ length k.rows + 1
one_more S wide bs bytes store places k j =
    page-cases S.encoding S wide bs bytes store places k (λ o. o ≡ more j → length j.rows ≡ length k.rows + 1)
    (λ r mark next e l q. let g : with_row k r mark next ≡ j = cc in
    sym (ap (λ (x : Kept). length x.rows) g) ∙ length-append k.rows (r ∷ []))
    (λ r mark next e l q. absurd (let z : ◌≡◌ {A = ℕ} 0 1 = cc in omega arith))
    (λ n p b loose e q. absurd (let z : ◌≡◌ {A = ℕ} 0 1 = cc in omega arith))

module _ (S : Settings) (implies : Implied S) (wide : 0 < S.columns) (bs : List Bool) (bytes : Bytes bs) (store places : ℕ) where
  abbrev stepped : Kept → Out Kept Answer
  stepped = step S.encoding S wide bs bytes store places

  -- so many rows further on a row fails, and those kept by then are the answer's
  record Told (k : Kept) (a : Answer) : Type 0 where
    rows : ℕ
    kept : Kept
    reached : run stepped rows k ≡ more kept
    counted : length a.rows ≡ length k.rows + rows
    fails : RowFault S bs (store - entries kept.rows) kept.state a.number a.place

  abbrev Tells : Kept → Answer → Type 0
  Tells k a = invalid_code ≤ a.number → a.number ≤ overflow → Told k a

  page-told : (k : Kept) (a : Answer) → ends stepped (rows_left bs) k ≡ done a → Tells k a
  unfolding run
  page-told k a e = ends-ind stepped Tells base goes (rows_left bs) k a e
    where
      base : (k : Kept) (a : Answer) → stepped k ≡ done a → Tells k a
      base k a =
          page-cases S.encoding S wide bs bytes store places k (λ o. o ≡ done a → Tells k a)
          (λ r mark next e l q. absurd (let z : ◌≡◌ {A = ℕ} 0 1 = cc in omega arith))
          (λ r mark next e l q. subst (Tells k) (let g : end_with k 5 0 0 r ≡ a = cc in g) (λ x y. absurd (omega arith)))
          (λ n p b loose e q. subst (Tells k) (let g : end_with k n p b loose ≡ a = cc in g)
          (λ x y. record {
            rows = 0;
            kept = k;
            reached = refl;
            counted = omega arith;
            fails = subst (RowTold S implies bs (store - entries k.rows) k.state) e (row_told S implies bs (store - entries k.rows) k.state S.encoding refl) x y;
          }))

      goes : (k j : Kept) (a : Answer) → stepped k ≡ more j → Tells j a → Tells k a
      goes k j a e f x y =
          let t = f x y in
          record {
            rows = suc t.rows;
            kept = t.kept;
            reached = rw e t.reached;
            counted = omega (arith, t.counted, one_more S wide bs bytes store places k j e);
            fails = t.fails;
          }

  abbrev page : Answer
  page = read_page S bs store places

  pub page-fault : invalid_code ≤ page.number → page.number ≤ overflow → PageFault S bs store places (length page.rows) page.number page.place
  unfolding read_page
  page-fault =
      let k : Kept = none_kept in
      let p = ends-stops stepped (rows_left bs) (page-falls S.encoding S wide bs bytes store places) k in
      subst (λ (a : Answer). invalid_code ≤ a.number → a.number ≤ overflow → PageFault S bs store places (length a.rows) a.number a.place) (sym (ap page_of p.1))
      (λ x y. let t = page-told k p.0 p.1 x y in
      record { kept = t.kept; reached = subst (λ (n : ℕ). run stepped n k ≡ more t.kept) (let z : t.rows ≡ length p.0.rows = omega (arith, t.counted) in z) t.reached; fails = t.fails })
