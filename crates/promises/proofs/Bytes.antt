-- The bytes of an answer are as 01's table has them. Assumes nothing.
use mathlib.Core.Path.{◌≡◌, refl, sym, ap, ◌∙◌, subst}
use mathlib.Core.Logic.{◌⊎◌, inl, inr}
use mathlib.Core.Bool.{Bool, true, false, cond, true≢false}
use mathlib.Core.List.{List, []}
use Prim.Native.Nat.{ℕ, suc, ◌+◌, ◌-◌, ◌*◌, ◌≤◌, ◌<◌}
use native.Mathlib.Omega.{arith}
use lib.Dec.{eqb}
use lib.ListN.{length}
use Rattle.rules.specs.Answers.{complete, most_pixels}
use Rattle.rules.specs.Machine.{Out, more, done, run, ends}
use Rattle.rules.specs.Bits.{bits_of}
use Rattle.rules.specs.Lines.{Rules, Line, new_line, Went, went, failed, push, two, read_line}
use Rattle.rules.specs.Rows.{Encoding, group4, group3_1_d, group3_2_d, Settings, State, recovered_mark, RowOut, row, stop, rules_of, bytes_to, finished}
use Rattle.rules.specs.Group4.{eols_before, after_line4, row4}
use Rattle.rules.specs.Group3.{Tagging, untagged, tagged, Before, at_line, at_end, before, line3, kept, whitened, after_line3, row3}
use Rattle.rules.specs.Pages.{Answer, Kept, none_kept, end_with, entries, rows_left, page_of, row_of, read_page, refusal, strict_if_exact, short_of, places_in, one_line}
use Rattle.rules.proofs.Machine.{ends-ind, ends-stops}
use Rattle.rules.proofs.Lines.{Each, Pushes, PushFails, push-pushes, read-broken, data-bound}
use Rattle.rules.proofs.Eols.{eols-ahead, reach}
use Rattle.rules.proofs.Budget.{Bytes, whole-bytes, Sets, before-sets}
use Rattle.rules.proofs.Rows.{row4-cases, row3-cases, mended-cases, line3-damaged}
use Rattle.rules.proofs.Bits.{length-bits_of}
use Rattle.rules.proofs.Answers.{short-cases, Refuses, too_wide, too_long, without_columns, Allowed, decode-cases}
use Rattle.rules.proofs.Pages.{step, room_for, page-cases, page-falls, Held, held_start, held_next, Answered, read-answered}
use Rattle.answer.specs.Answer.{answer_of, row_answer_of}
use Rattle.settings.specs.Settings.{settings_of}
use Rattle.promises.specs.Bytes.{Consumed, PageBytes, BytesOfPage, Passes, LineBytes, BytesOfLine, BytesInSteps}
use Rattle.promises.proofs.Demand1Line as Lined
use Rattle.promises.proofs.PageFaults.{one_more}
use Rattle.promises.proofs.RefusalPlaces.{row-bare, unit-bare}

-- ---- One row

-- a page that ends with 0 does so at a bit of the data or at its end; with any other number it has no bytes
abbrev Stops : List Bool → RowOut → Type 0
Stops bs (row r mark next) = Unit {0}
Stops bs (stop n p b loose) = (n ≡ 0 → (at : ℕ) × (stop n p b loose ≡ finished at) × (at ≤ length bs)) × ((n ≡ 0 → ⊥) → b ≡ 0)

fails-bare : (bs : List Bool) (n p : ℕ) (loose : List ℕ) → 1 ≤ n → Stops bs (stop n p 0 loose)
fails-bare bs n p loose h = ((λ z. absurd (omega arith)), λ z. refl)

ends_at : (bs : List Bool) (at : ℕ) → at ≤ length bs → Stops bs (finished at)
ends_at bs at h = ((λ z. (at, refl, h)), λ z. absurd (z refl))

module _ (S : Settings) (wide : 0 < S.columns) (bs : List Bool) (bytes : Bytes bs) (room : ℕ) (st : State) (inside : st.at ≤ length bs) where
  row4-stops : Stops bs (row4 S bs room st)
  row4-stops = row4-cases S bs room st (Stops bs) (λ e. ends_at bs (eols_before S bs st).at within) (λ e w q. cases w q)
    where
      within : (eols_before S bs st).at ≤ length bs
      within = (eols-ahead (cond S.end_of_block 2 (length bs)) bs st.at).inside inside

      cases : (w : Went) → read_line (rules_of S room) (two st.reference) bs (eols_before S bs st).at ≡ w → Stops bs (after_line4 S bs st w)
      cases (went l) e = tt
      cases (failed n p l) e =
          fails-bare bs n p l.changes (read-broken (rules_of S room) wide (two st.reference) bs (eols_before S bs st).at (length bs) (data-bound bs) within n p l e).numbered.0

  module _ (t : Tagging) where
    abbrev R : Rules
    R = rules_of S room

    sets : (b : Before S t bs) → before S t bs st (eqb st.count 0) ≡ b → Sets S t bs bytes st b
    sets b e = subst (Sets S t bs bytes st) e (before-sets S t bs bytes st)

    -- what is left of a damaged line may still fail
    mended-stops : (at : ℕ) (expected : Bool) (l : Line) (w : Went) → push R 0 (R.width - l.position) (whitened S t bs l) ≡ w → Stops bs (kept S t bs st expected at recovered_mark w)
    mended-stops at expected l (went u) e = tt
    mended-stops at expected l (failed n p u) e =
        fails-bare bs n p u.changes
        (subst (Each (Pushes R (reach bs at) at (whitened S t bs l)) (PushFails R (reach bs at) at (whitened S t bs l))) e (push-pushes R (reach bs at) at 0 (R.width - l.position) (whitened S t bs l))).0

    row3-stops : Stops bs (row3 S t bs room st)
    row3-stops =
        row3-cases S t bs room st (Stops bs)
        (λ at e. ends_at bs at (sets (at_end at) e inside))
        (λ at e. fails-bare bs 1 at [] (omega arith))
        (λ at expected e w q. cases at expected ((sets (at_line at expected) e).inside inside) w q)
      where
        cases : (at : ℕ) (expected : Bool) → at ≤ length bs → (w : Went) → line3 S t bs R st.reference at t ≡ w → Stops bs (after_line3 S t bs R st at expected w)
        cases at expected i (went l) e = tt
        cases at expected i (failed n p l) e =
            mended-cases S t bs R st at expected n p l (Stops bs) (λ q s h w d. mended-stops at expected l w d)
            (fails-bare bs n p l.changes (line3-damaged S t bs R wide st.reference at i n p l e).numbered.0)

  row-stops : (enc : Encoding) → Stops bs (row_of enc S bs room st)
  unfolding row_of
  row-stops group4 = row4-stops
  row-stops group3_1_d = row3-stops untagged
  row-stops group3_2_d = row3-stops tagged

-- ---- A page

module _ (S : Settings) (wide : 0 < S.columns) (bs : List Bool) (bytes : Bytes bs) (store places : ℕ) where
  abbrev enc : Encoding
  enc = S.encoding

  abbrev stepped : Kept → Out Kept Answer
  stepped = step enc S wide bs bytes store places

  -- so many rows behind k the page ends, with the answer's rows and bytes
  record Over (k : Kept) (a : Answer) : Type 0 where
    rows : ℕ
    kept : Kept
    at : ℕ
    reached : run stepped rows k ≡ more kept
    counted : length a.rows ≡ length k.rows + rows
    ends : row_of enc S bs (store - entries kept.rows) kept.state ≡ finished at
    inside : at ≤ length bs
    rounded : a.bytes ≡ bytes_to at

  abbrev Told : Kept → Answer → Type 0
  Told k a = (a.number ≡ complete → Over k a) × ((a.number ≡ complete → ⊥) → a.bytes ≡ 0)

  page-told : (k : Kept) (a : Answer) → ends stepped (rows_left bs) k ≡ done a → Held enc S wide bs bytes store places k → Told k a
  unfolding run
  page-told k a e = ends-ind stepped (λ k a. Held enc S wide bs bytes store places k → Told k a) base goes (rows_left bs) k a e
    where
      stopped : (k : Kept) (n p b : ℕ) (loose : List ℕ) → row_of enc S bs (room_for enc S wide bs bytes store places k) k.state ≡ stop n p b loose → Stops bs (stop n p b loose) → Told k (end_with k n p b loose)
      stopped k n p b loose e (over, bare) = (
        (λ z. let (at, q, i) = over z in
            record {
              rows = 0;
              kept = k;
              at = at;
              reached = refl;
              counted = omega arith;
              ends = e ∙ q;
              inside = i;
              rounded = let y : b ≡ bytes_to at = cc in y;
            }),
        bare,
      )

      base : (k : Kept) (a : Answer) → stepped k ≡ done a → Held enc S wide bs bytes store places k → Told k a
      base k a =
          page-cases enc S wide bs bytes store places k (λ o. o ≡ done a → Held enc S wide bs bytes store places k → Told k a)
          (λ r mark next e l q h. absurd (let z : ◌≡◌ {A = ℕ} 0 1 = cc in omega arith))
          (λ r mark next e l q h. subst (Told k) (let g : end_with k 5 0 0 r ≡ a = cc in g) ((λ z. absurd (omega arith)), λ z. refl))
          (λ n p b loose e q h. subst (Told k) (let g : end_with k n p b loose ≡ a = cc in g)
          (stopped k n p b loose e (subst (Stops bs) e (row-stops S wide bs bytes (room_for enc S wide bs bytes store places k) k.state h.inside enc))))

      goes : (k j : Kept) (a : Answer) → stepped k ≡ more j → (Held enc S wide bs bytes store places j → Told j a) → Held enc S wide bs bytes store places k → Told k a
      goes k j a e f h =
          let t = f (held_next enc S wide bs bytes store places k j h e) in (
            (λ z. let o = t.0 z in
                record {
                  rows = suc o.rows;
                  kept = o.kept;
                  at = o.at;
                  reached = rw e o.reached;
                  counted = omega (arith, o.counted, one_more S wide bs bytes store places k j e);
                  ends = o.ends;
                  inside = o.inside;
                  rounded = o.rounded;
                }),
            t.1,
          )

  abbrev page : Answer
  page = read_page S bs store places

  -- of a page that is read
  pub read-bytes : (page.number ≡ complete → Consumed S bs store places (length page.rows) page.bytes) × ((page.number ≡ complete → ⊥) → page.bytes ≡ 0)
  unfolding read_page
  read-bytes =
      let p = ends-stops stepped (rows_left bs) (page-falls enc S wide bs bytes store places) none_kept in
      subst (λ (a : Answer). (a.number ≡ complete → Consumed S bs store places (length a.rows) a.bytes) × ((a.number ≡ complete → ⊥) → a.bytes ≡ 0)) (sym (ap page_of p.1))
      (told p.0 (page-told none_kept p.0 p.1 (held_start enc S wide bs bytes store places)))
    where
      told : (a : Answer) → Told none_kept a → (a.number ≡ complete → Consumed S bs store places (length a.rows) a.bytes) × ((a.number ≡ complete → ⊥) → a.bytes ≡ 0)
      told a (over, bare) = (
        (λ z. let o = over z in
            record {
              kept = o.kept;
              at = o.at;
              reached = subst (λ (n : ℕ). run stepped n none_kept ≡ more o.kept) (let y : o.rows ≡ length a.rows = omega (arith, o.counted) in y) o.reached;
              ends = o.ends;
              inside = o.inside;
              rounded = o.rounded;
            }),
        bare,
      )

-- ---- The page form

pub bytes-of-page : BytesOfPage
bytes-of-page bytes settings changes ends marks r changes' ends' marks' called =
    subst (PageBytes bytes settings changes ends marks) (sym called.answer)
    (decode-cases S bytes (λ f. PageBytes bytes settings changes ends marks (answer_of (f store places)))
    (λ n refuses. refused n refuses)
    (λ allowed. short-cases S page (λ a. PageBytes bytes settings changes ends marks (answer_of a)) (λ k. lacking allowed) (λ k. is_read allowed)))
  where
    S : Settings
    S = settings_of settings

    store : ℕ
    store = length changes

    places : ℕ
    places = places_in ends marks

    page : Answer
    page = read_page (strict_if_exact (settings_of settings)) (bits_of bytes) (length changes) (places_in ends marks)

    refused : (n : ℕ) → Refuses S bytes n → PageBytes bytes settings changes ends marks (answer_of (refusal n))
    refused n refuses = record { none = λ z. refl; without_columns = λ z. refl; done = λ z w. absurd (not_done n refuses z w); most = omega arith }
      where
        not_done : (n : ℕ) → Refuses S bytes n → n ≡ 0 → 0 < settings.columns → ⊥
        not_done n (too_wide e) z w = omega (arith, z)
        not_done n (too_long h) z w = omega (arith, z)
        not_done n (without_columns e) z w = omega (arith, e, w)

    -- short of rows
    lacking : Allowed S bytes → PageBytes bytes settings changes ends marks (answer_of (short_of page))
    lacking allowed = record { none = λ z. refl; without_columns = λ z. refl; done = λ z w. absurd (omega (arith, z)); most = omega arith }

    is_read : Allowed S bytes → PageBytes bytes settings changes ends marks (answer_of page)
    is_read allowed = record {
      none = b.1;
      without_columns = λ z. absurd (omega (arith, z, allowed.wide));
      done = λ z w. b.0 z;
      most = omega (arith, a.few_bytes, length-bits_of bytes);
    }
      where
        b : (page.number ≡ complete → Consumed (strict_if_exact S) (bits_of bytes) store places (length page.rows) page.bytes) × ((page.number ≡ complete → ⊥) → page.bytes ≡ 0)
        b = read-bytes (strict_if_exact S) allowed.wide (bits_of bytes) (whole-bytes bytes) store places

        a : Answered S.encoding (strict_if_exact S) allowed.wide (bits_of bytes) (whole-bytes bytes) store places page
        a = read-answered S.encoding (strict_if_exact S) allowed.wide (bits_of bytes) (whole-bytes bytes) store places refl

-- ---- One line

module _ (bytes : List ℕ) (at columns : ℕ) (strict : Bool) (reference changes : List ℕ) where
  -- a line that was not read whole has its changes loose
  broken : (n p : ℕ) (l : Line) → (Passes bytes columns reference → 8 * length bytes < at → (n ≡ 2) × (length l.changes ≡ 0)) → LineBytes bytes at columns reference (row_answer_of (one_line (failed n p l)))
  unfolding entries
  broken n p l past = record { failed = λ x y. (refl, refl, refl); past = past }

  line-bytes : {a : Answer} → Lined.Said bytes at columns strict reference changes a → LineBytes bytes at columns reference (row_answer_of a)
  unfolding entries
  line-bytes (Lined.is-six e) = record { failed = λ x y. absurd (omega arith); past = λ p h. absurd (none p e) }
    where
      none : Passes bytes columns reference → (columns ≡ 0) ⊎ (columns ≡ most_pixels) → ⊥
      none p (inl e) = p.some e
      none p (inr e) = p.narrow e
  line-bytes (Lined.is-seven n l) = record { failed = λ x y. absurd (omega arith); past = λ p h. absurd (omega (arith, p.short, l)) }
  line-bytes (Lined.is-eight n l e) = record { failed = λ x y. absurd (omega arith); past = λ p h. absurd (true≢false (sym p.ascending ∙ e)) }
  line-bytes (Lined.past_end n l up beyond) = broken 2 (length (bits_of bytes)) (new_line at) (λ p h. (refl, refl))
  line-bytes (Lined.is_read n l up i) = cases (read_line (record { width = columns; strict = strict; exact = false; room = length changes }) (two reference) (bits_of bytes) at)
    where
      before-end : 8 * length bytes < at → ⊥
      before-end h = omega (arith, i, length-bits_of bytes)

      cases : (w : Went) → LineBytes bytes at columns reference (row_answer_of (one_line w))
      cases (went s) = record { failed = λ x y. absurd (omega arith); past = λ p h. absurd (before-end h) }
      cases (failed m p s) = broken m p s (λ q h. absurd (before-end h))

pub bytes-of-line : BytesOfLine
bytes-of-line bytes at columns strict reference changes r changes' called =
    subst (LineBytes bytes at columns reference) (sym called.answer) (line-bytes bytes at columns strict reference changes (Lined.said bytes at columns strict reference changes))

-- ---- The forms in steps

pub bytes-in-steps : BytesInSteps
bytes-in-steps = record { row_form = λ bytes settings c g e. (row-bare bytes settings c g (inr e)).1; unit_form = λ bytes settings c g e. (unit-bare bytes settings c g (inr e)).1 }
