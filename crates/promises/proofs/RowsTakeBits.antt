-- Each row of a page takes a bit, except at most one recovered row of a Group 3 page. Assumes nothing.
use mathlib.Core.Path.{◌≡◌, refl, sym, ap, ◌∙◌, subst}
use mathlib.Core.Logic.{◌⊎◌, inl, inr}
use mathlib.Core.Bool.{Bool, true, false, cond}
use mathlib.Core.List.{List, [], ◌∷◌, ◌++◌, append_assoc}
use Prim.Native.Nat.{ℕ, zero, suc, ◌+◌, ◌≤◌, ◌<◌}
use native.Mathlib.Omega.{arith}
use lib.Dec.{eqb, ltb}
use lib.ListN.{length, get_or, length-append}
use lib.Seq.{get_or_at}
use borrow.Author.Tests.{ltb-true, ltb-false, eqb-true, eqb-false}
use Rattle.rules.specs.Machine.{Out, more, done, run, ends}
use Rattle.rules.specs.Bits.{bits_of}
use Rattle.rules.specs.Lines.{Rules, Went, went, failed, two, read_line}
use Rattle.rules.specs.Rows.{Encoding, group4, group3_1_d, group3_2_d, Settings, State, recovered_mark, RowOut, row, stop, rules_of}
use Rattle.rules.specs.Group4.{eols_before, after_line4, row4}
use Rattle.rules.specs.Group3.{Tagging, untagged, tagged, at_line, before, line3, kept, after_line3, row3}
use Rattle.rules.specs.Pages.{Answer, Kept, none_kept, with_row, end_with, rows_left, page_of, row_of, read_page, strict_if_exact, places_in}
use Rattle.rules.proofs.Machine.{ends_more, ends-ind, ends-stops}
use Rattle.rules.proofs.Lines.{read_whole}
use Rattle.rules.proofs.Eols.{eols-ahead}
use Rattle.rules.proofs.Budget.{Bytes, whole-bytes, aligned-ahead, Starts, Sets, before-sets}
use Rattle.rules.proofs.Rows.{row4-cases, row3-cases, mended-cases, line3-whole}
use Rattle.rules.proofs.Answers.{short-rows, short-marks, decode-cases}
use Rattle.rules.proofs.Pages.{step, room_for, page-cases, page-falls, Behind, ends-behind, Held, held_start, held_next}
use Rattle.answer.specs.declared.Answer as Source
use Rattle.settings.specs.Settings.{settings_of}
use Rattle.promises.specs.RowsTakeBits.{Excepted, RowTakes, RowsTakeBits}
use Rattle.promises.proofs.PageFaults.{one_more}
use Rattle.promises.proofs.Marks.{mark-at}

-- ---- One row

module _ (S : Settings) (wide : 0 < S.columns) (bs : List Bool) (bytes : Bytes bs) (room : ℕ) (st : State) where
  -- a row takes a bit; or none, where it is the first, recovered, and of Group 3
  abbrev Bits : Encoding → RowOut → Type 0
  Bits enc (row r mark next) = (st.at < next.at) ⊎ ((st.at ≡ next.at) × (st.count ≡ 0) × (mark ≡ recovered_mark) × (enc ≡ group4 → ⊥))
  Bits enc (stop n place b loose) = Unit {0}

  row4-bits : Bits group4 (row4 S bs room st)
  row4-bits = row4-cases S bs room st (Bits group4) (λ e. tt) (λ e w q. cases w q)
    where
      cases : (w : Went) → read_line (rules_of S room) (two st.reference) bs (eols_before S bs st).at ≡ w → Bits group4 (after_line4 S bs st w)
      cases (went l) e =
          let f = read_whole (rules_of S room) wide (two st.reference) bs (eols_before S bs st).at l e in
          let a = aligned-ahead bs bytes S.aligned l.at in
          inl (omega (arith, a.0, f.some_bits, (eols-ahead (cond S.end_of_block 2 (length bs)) bs st.at).forward))
      cases (failed n p l) e = tt

  module _ (enc : Encoding) (group_3 : enc ≡ group4 → ⊥) (t : Tagging) where
    abbrev R : Rules
    R = rules_of S room

    starts : (at : ℕ) (expected : Bool) → before S t bs st (eqb st.count 0) ≡ at_line at expected → Starts bs st at expected
    starts at expected e = subst (Sets S t bs bytes st) e (before-sets S t bs bytes st)

    -- behind the first row an EOL was read before a line that is recovered
    mended-bits : (at : ℕ) (expected : Bool) → Starts bs st at expected → expected ≡ true → (w : Went) → Bits enc (kept S t bs st expected at recovered_mark w)
    mended-bits at expected f q (went u) = tests (ltb st.at at) (ltb-true _ _) (ltb-false _ _) (eqb st.count 0) (eqb-true _ _) (eqb-false _ _)
      where
        tests : (a : Bool) → (a ≡ true → st.at < at) → (a ≡ false → at ≤ st.at) → (b : Bool) → (b ≡ true → st.count ≡ 0) → (b ≡ false → st.count ≡ 0 → ⊥)
            → (st.at < at) ⊎ ((st.at ≡ at) × (st.count ≡ 0) × (recovered_mark ≡ recovered_mark) × (enc ≡ group4 → ⊥))
        tests true g h b i j = inl (g refl)
        tests false g h true i j = inr (omega (arith, h refl, f.forward), i refl, refl, group_3)
        tests false g h false i j = inl (f.after-eol (j refl) q)
    mended-bits at expected f q (failed n p u) = tt

    row3-bits : Bits enc (row3 S t bs room st)
    row3-bits = row3-cases S t bs room st (Bits enc) (λ at e. tt) (λ at e. tt) (λ at expected e. cases at expected (starts at expected e))
      where
        cases : (at : ℕ) (expected : Bool) → Starts bs st at expected → (w : Went) → line3 S t bs R st.reference at t ≡ w → Bits enc (after_line3 S t bs R st at expected w)
        cases at expected f (went l) e = inl (omega (arith, f.forward, (line3-whole S t bs R wide st.reference at l e).some_bits))
        cases at expected f (failed n p l) e = mended-cases S t bs R st at expected n p l (Bits enc) (λ q s h w d. mended-bits at expected f q w) tt

  row-bits : (enc : Encoding) → Bits enc (row_of enc S bs room st)
  unfolding row_of
  row-bits group4 = row4-bits
  row-bits group3_1_d = row3-bits group3_1_d (λ e. let z : ◌≡◌ {A = ℕ} 0 1 = cc in omega arith) untagged
  row-bits group3_2_d = row3-bits group3_2_d (λ e. let z : ◌≡◌ {A = ℕ} 0 1 = cc in omega arith) tagged

-- ---- A page

module _ (S : Settings) (wide : 0 < S.columns) (bs : List Bool) (bytes : Bytes bs) (store places : ℕ) where
  abbrev enc : Encoding
  enc = S.encoding

  abbrev stepped : Kept → Out Kept Answer
  stepped = step enc S wide bs bytes store places

  -- a row with its mark that is read so many rows behind k
  record Takes (k : Kept) (n mark : ℕ) : Type 0 where
    before : Kept
    after : Kept
    reached : run stepped n k ≡ more before
    read : run stepped (suc n) k ≡ more after
    inside : after.state.at ≤ length bs
    takes : (before.state.at < after.state.at) ⊎ ((before.state.at ≡ after.state.at) × (length k.rows + n ≡ 0) × (mark ≡ recovered_mark) × (enc ≡ group4 → ⊥))

  -- what is known between rows
  record Known (k : Kept) : Type 0 where
    held : Held enc S wide bs bytes store places k
    as_many : length k.marks ≡ length k.rows

  abbrev Tells : Kept → Answer → Type 0
  Tells k a = Known k → (n : ℕ) → length k.rows + n < length a.rows → Takes k n (get_or a.marks (length k.rows + n) 0)

  -- one row more
  known_next : (k j : Kept) → stepped k ≡ more j → Known k → Known j
  known_next k j e h = record { held = held_next enc S wide bs bytes store places k j h.held e; as_many = as_many e }
    where
      as_many : stepped k ≡ more j → length j.marks ≡ length j.rows
      as_many =
          page-cases enc S wide bs bytes store places k (λ o. o ≡ more j → length j.marks ≡ length j.rows)
          (λ r mark next e l q. let g : with_row k r mark next ≡ j = cc in
          subst (λ (x : Kept). length x.marks ≡ length x.rows) g (omega (arith, h.as_many, length-append k.rows (r ∷ []), length-append k.marks (mark ∷ []))))
          (λ r mark next e l q. absurd (let z : ◌≡◌ {A = ℕ} 0 1 = cc in omega arith))
          (λ n p b loose e q. absurd (let z : ◌≡◌ {A = ℕ} 0 1 = cc in omega arith))

  -- the rows of an end are those kept
  same_rows : (k : Kept) (a : Answer) → stepped k ≡ done a → length a.rows ≡ length k.rows
  same_rows k a =
      page-cases enc S wide bs bytes store places k (λ o. o ≡ done a → length a.rows ≡ length k.rows)
      (λ r mark next e l q. absurd (let z : ◌≡◌ {A = ℕ} 0 1 = cc in omega arith))
      (λ r mark next e l q. let g : end_with k 5 0 0 r ≡ a = cc in sym (ap (λ (x : Answer). length x.rows) g))
      (λ n p b loose e q. let g : end_with k n p b loose ≡ a = cc in sym (ap (λ (x : Answer). length x.rows) g))

  -- the next row
  module _ (k j : Kept) (a : Answer) (known : Known k) (goes : stepped k ≡ more j) (behind : Behind enc S wide bs bytes store places j a) where
    first-takes : Takes k 0 (get_or a.marks (length k.rows + 0) 0)
    unfolding run
    first-takes =
        page-cases enc S wide bs bytes store places k (λ o. o ≡ more j → Takes k 0 (get_or a.marks (length k.rows + 0) 0))
        (λ r mark next e l q. let g : with_row k r mark next ≡ j = cc in
        record {
          before = k;
          after = j;
          reached = refl;
          read = rw goes;
          inside = (held_next enc S wide bs bytes store places k j known.held goes).inside;
          takes = subst (λ (x : Kept). (k.state.at < x.state.at) ⊎ ((k.state.at ≡ x.state.at) × (length k.rows + 0 ≡ 0) × (get_or a.marks (length k.rows + 0) 0 ≡ recovered_mark) × (enc ≡ group4 → ⊥))) g
              (told r mark next g (subst (Bits S wide bs bytes (room_for enc S wide bs bytes store places k) k.state enc) e (row-bits S wide bs bytes (room_for enc S wide bs bytes store places k) k.state enc)));
        })
        (λ r mark next e l q. absurd (let z : ◌≡◌ {A = ℕ} 0 1 = cc in omega arith))
        (λ n p b loose e q. absurd (let z : ◌≡◌ {A = ℕ} 0 1 = cc in omega arith))
        goes
      where
        mark-is : (r : List ℕ) (mark : ℕ) (next : State) → with_row k r mark next ≡ j → get_or a.marks (length k.rows + 0) 0 ≡ mark
        mark-is r mark next g =
            ap (λ (l : List ℕ). get_or l (length k.rows + 0) 0) (behind.3 ∙ ap (λ (x : Kept). x.marks ++ behind.2) (sym g) ∙ append_assoc k.marks (mark ∷ []) behind.2)
            ∙ get_or_at k.marks mark behind.2 0 (length k.rows + 0) (omega (arith, known.as_many))

        told : (r : List ℕ) (mark : ℕ) (next : State) → with_row k r mark next ≡ j
            → (k.state.at < next.at) ⊎ ((k.state.at ≡ next.at) × (k.state.count ≡ 0) × (mark ≡ recovered_mark) × (enc ≡ group4 → ⊥))
            → (k.state.at < next.at) ⊎ ((k.state.at ≡ next.at) × (length k.rows + 0 ≡ 0) × (get_or a.marks (length k.rows + 0) 0 ≡ recovered_mark) × (enc ≡ group4 → ⊥))
        told r mark next g (inl h) = inl h
        told r mark next g (inr (s, z, m, b)) = inr (s, omega (arith, z, known.held.counted), mark-is r mark next g ∙ m, b)

  -- row n behind a row is row n + 1
  later : (k j : Kept) → stepped k ≡ more j → length j.rows ≡ length k.rows + 1 → (a : Answer) (n : ℕ) → Takes j n (get_or a.marks (length j.rows + n) 0) → Takes k (suc n) (get_or a.marks (length k.rows + suc n) 0)
  unfolding run
  later k j q c a n t = record {
    before = t.before;
    after = t.after;
    reached = rw q t.reached;
    read = rw q t.read;
    inside = t.inside;
    takes = cases t.takes;
  }
    where
      cases : (t.before.state.at < t.after.state.at) ⊎ ((t.before.state.at ≡ t.after.state.at) × (length j.rows + n ≡ 0) × (get_or a.marks (length j.rows + n) 0 ≡ recovered_mark) × (enc ≡ group4 → ⊥))
          → (t.before.state.at < t.after.state.at) ⊎ ((t.before.state.at ≡ t.after.state.at) × (length k.rows + suc n ≡ 0) × (get_or a.marks (length k.rows + suc n) 0 ≡ recovered_mark) × (enc ≡ group4 → ⊥))
      cases (inl h) = inl h
      cases (inr (s, z, m, b)) = absurd (omega (arith, c, z))

  page-tells : (k : Kept) (a : Answer) → ends stepped (rows_left bs) k ≡ done a → Tells k a
  page-tells k a e = ends-ind stepped (λ k a. ends stepped (rows_left bs) k ≡ done a → Tells k a) base goes (rows_left bs) k a e e
    where
      base : (k : Kept) (a : Answer) → stepped k ≡ done a → ends stepped (rows_left bs) k ≡ done a → Tells k a
      base k a q e known n h = absurd (omega (arith, same_rows k a q))

      goes : (k j : Kept) (a : Answer) → stepped k ≡ more j → (ends stepped (rows_left bs) j ≡ done a → Tells j a) → ends stepped (rows_left bs) k ≡ done a → Tells k a
      goes k j a q ih e known = rows
        where
          there : ends stepped (rows_left bs) j ≡ done a
          there = sym (ends_more stepped (rows_left bs) (page-falls enc S wide bs bytes store places) k j q) ∙ e

          counted : length j.rows ≡ length k.rows + 1
          counted = one_more S wide bs bytes store places k j q

          rows : (n : ℕ) → length k.rows + n < length a.rows → Takes k n (get_or a.marks (length k.rows + n) 0)
          rows zero h = first-takes k j a known q (ends-behind enc S wide bs bytes store places j a there)
          rows (suc n) h = later k j q counted a n (ih there (known_next k j q known) n (omega (arith, counted)))

  -- Every row of a page that is read.
  pub read-takes : (n : ℕ) → n < length (read_page S bs store places).rows → RowTakes S bs store places n (get_or (read_page S bs store places).marks n 0)
  unfolding read_page
  read-takes =
      let p = ends-stops stepped (rows_left bs) (page-falls enc S wide bs bytes store places) none_kept in
      subst (λ (a : Answer). (n : ℕ) → n < length a.rows → RowTakes S bs store places n (get_or a.marks n 0)) (sym (ap page_of p.1))
      (λ n h. told p.0 n (page-tells none_kept p.0 p.1 start n (omega arith)))
    where
      start : Known none_kept
      start = record { held = held_start enc S wide bs bytes store places; as_many = refl }

      told : (a : Answer) (n : ℕ) → Takes none_kept n (get_or a.marks (0 + n) 0) → RowTakes S bs store places n (get_or a.marks n 0)
      told a n t = record { before = t.before; after = t.after; reached = t.reached; read = t.read; inside = t.inside; takes = cases t.takes }
        where
          cases : (t.before.state.at < t.after.state.at) ⊎ ((t.before.state.at ≡ t.after.state.at) × (0 + n ≡ 0) × (get_or a.marks (0 + n) 0 ≡ recovered_mark) × (enc ≡ group4 → ⊥))
              → (t.before.state.at < t.after.state.at) ⊎ ((t.before.state.at ≡ t.after.state.at) × Excepted S n (get_or a.marks n 0))
          cases (inl h) = inl h
          cases (inr (s, z, m, b)) = inr (s, record { first = omega (arith, z); recovered = ap (λ (i : ℕ). get_or a.marks i 0) (let y : n ≡ 0 + n = omega arith in y) ∙ m; group_3 = b })

pub rows-take-bits : RowsTakeBits
rows-take-bits bytes settings changes ends marks r changes' ends' marks' called n h =
    subst (RowTakes (strict_if_exact S) (bits_of bytes) (length changes) (places_in ends marks) n) (sym (mark-at bytes settings changes ends marks r changes' ends' marks' called n h))
    (decode-cases S bytes (λ f. n < length (f (length changes) (places_in ends marks)).rows
    → RowTakes (strict_if_exact S) (bits_of bytes) (length changes) (places_in ends marks) n (get_or (f (length changes) (places_in ends marks)).marks n 0))
    (λ m refuses k. absurd (omega arith))
    (λ allowed k.
    let page = read_page (strict_if_exact S) (bits_of bytes) (length changes) (places_in ends marks) in
    subst (λ (ms : List ℕ). RowTakes (strict_if_exact S) (bits_of bytes) (length changes) (places_in ends marks) n (get_or ms n 0)) (sym (short-marks S page))
    (read-takes (strict_if_exact S) allowed.wide (bits_of bytes) (whole-bytes bytes) (length changes) (places_in ends marks) n (omega (arith, ap length (short-rows S page)))))
    (omega (arith, ap (λ (x : Source.Answer). x.rows) called.answer)))
  where
    S : Settings
    S = settings_of settings
