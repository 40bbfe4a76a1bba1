-- The marks of a page (A5): one for each kept row; each is 0, 1 or 2, and 0 where the page is read strictly; and what each of them says of the row.
-- Assumes nothing.
use mathlib.Core.Path.{◌≡◌, refl, sym, ◌∙◌, subst}
use mathlib.Core.Bool.{Bool, true, false, cond, true≢false}
use mathlib.Core.List.{List, [], ◌∷◌, ◌++◌}
use Prim.Native.Nat.{ℕ, zero, suc, ◌-◌, ◌≤◌}
use native.Mathlib.Omega.{arith}
use lib.Dec.{eqb, ltb}
use lib.ListN.{length, drop, get_or, length-append}
use Rattle.rules.specs.Machine.{Out, more, done, ends}
use Rattle.rules.specs.Bits.{front_bit, bits_of}
use Rattle.rules.specs.Lines.{Line, new_line, Went, went, failed, Kind, one, two, read_line}
use Rattle.rules.specs.Rows.{Encoding, group4, group3_1_d, group3_2_d, Settings, State, page_start, read_mark, recovered_mark, RowOut, row, stop, rules_of}
use Rattle.rules.specs.Group4.{eols_before, after_line4, row4}
use Rattle.rules.specs.Group3.{Tagging, untagged, tagged, at_line, before, tagged_line, line_of_tag, line3, kept, after_line3, row3}
use Rattle.rules.specs.Pages.{Answer, Kept, none_kept, with_row, end_with, entries, keep_row, page_step, rows_left, page_of, row_of, read_page, strict_if_exact, decode}
use Rattle.rules.proofs.Machine.{run-keeps}
use Rattle.rules.proofs.Rows.{row4-cases, row3-cases, mended-cases}
use Rattle.rules.proofs.Exact.{strict-reads}
use Rattle.rules.specs.Marks.{Refused, refused, strict_of, row_line, Begins, NotRead, Told, Came, none_yet, and_row}
use Rattle.rules.proofs.Clean.{Twin, alike, apart, cut_of, line-twins, read-twins}
use Rattle.rules.proofs.Answers.{short-cases, decode-cases}

-- ---- The line of a row

-- exact implies strict (A12), as in the settings under which `decode` reads
abbrev pub Implied : Settings → Type 0
Implied S = S.exact ≡ true → S.strict ≡ true

pub implied : (S : Settings) → Implied (strict_if_exact S)
implied S e = rw e

abbrev RowTold : Encoding → Settings → List Bool → ℕ → State → RowOut → Type 0
RowTold enc S bs room st (row r mark next) = Told enc S bs room st r mark
RowTold enc S bs room st (stop n place bytes loose) = Unit {0}

module _ (S : Settings) (implies : Implied S) (bs : List Bool) (room : ℕ) (st : State) where
  abbrev own : Encoding → ℕ → Went
  own enc = row_line enc S bs room st.reference

  abbrev strict : Encoding → ℕ → Went
  strict enc = row_line enc (strict_of S) bs room st.reference

  -- both read a line of one kind from one bit; or its tag bit is missing
  both-lines : (C : Went → Went → Type 0) → ((kind : Kind) (at : ℕ) → C (read_line (rules_of (strict_of S) room) kind bs at) (read_line (rules_of S room) kind bs at))
      → ((at : ℕ) → C (failed 2 (length bs) (new_line at)) (failed 2 (length bs) (new_line at))) → (enc : Encoding) (at : ℕ) → C (strict enc at) (own enc at)
  both-lines C reads lacks group4 at = reads (two st.reference) at
  both-lines C reads lacks group3_1_d at = reads one at
  both-lines C reads lacks group3_2_d at = of-tag (ltb at (length bs))
    where
      by-tag : (b : Bool) → C (tagged_line (strict_of S) tagged bs (rules_of (strict_of S) room) st.reference at b) (tagged_line S tagged bs (rules_of S room) st.reference at b)
      by-tag true = reads one (suc at)
      by-tag false = reads (two st.reference) (suc at)

      of-tag : (b : Bool) → C (line_of_tag (strict_of S) tagged bs (rules_of (strict_of S) room) st.reference at b) (line_of_tag S tagged bs (rules_of S room) st.reference at b)
      of-tag true = by-tag (front_bit (drop at bs))
      of-tag false = lacks at

  -- a lenient page's lines
  lenient-twins : S.strict ≡ false → (enc : Encoding) (at : ℕ) → Twin cut_of Refused false (strict enc at) (own enc at)
  lenient-twins f =
      both-lines (Twin cut_of Refused false)
      (λ kind a. subst (λ (x : Bool). Twin cut_of Refused false (read_line (rules_of (strict_of S) room) kind bs a) (read_line (record { width = S.columns; strict = S.strict; exact = x; room = room }) kind bs a))
      (sym (off S.exact refl)) (line-twins S.columns room kind bs a S.strict))
      (λ a. alike refl)
    where
      off : (x : Bool) → S.exact ≡ x → S.exact ≡ false
      off true e = absurd (true≢false (sym (implies e) ∙ f))
      off false e = e

  failed-not : {n p : ℕ} {t : Line} (w : Went) → w ≡ failed n p t → NotRead w
  failed-not w e l q = let z : ◌≡◌ {A = ℕ} 0 1 = cc in omega arith

  module _ (enc : Encoding) (at : ℕ) (begins : Begins enc S bs st at) where
    -- a line that was read
    read_told : (l : Line) → own enc at ≡ went l → Told enc S bs room st l.changes (read_mark l)
    read_told l e =
        cases (strict enc at) refl
        (both-lines (λ v w. w ≡ went l → Twin cut_of Refused false v (went l)) (λ kind a. read-twins S.columns room kind bs a S.strict S.exact implies l)
        (λ a q. absurd (failed-not _ refl l q)) enc at e)
      where
        cases : (v : Went) → strict enc at ≡ v → Twin cut_of Refused false v (went l) → Told enc S bs room st l.changes (read_mark l)
        cases v q (alike c) =
            subst (λ (b : Bool). Told enc S bs room st l.changes (cond b 1 0)) (sym c)
            (record {
              at = at;
              begins = begins;
              few = omega arith;
              when_strict = λ h. refl;
              clean = λ h. (l, e, q, refl);
              cut = λ h. absurd (omega arith);
              recovered = λ h. absurd (omega arith);
            })
        cases v q (apart refused c d) =
            subst (λ (b : Bool). Told enc S bs room st l.changes (cond b 1 0)) (sym d)
            (record {
              at = at;
              begins = begins;
              few = omega arith;
              when_strict = λ h. absurd (failed-not (strict enc at) q l
                  (both-lines (λ v w. w ≡ went l → v ≡ went l) (λ kind a. strict-reads S.columns room S.strict S.exact h kind bs a l) (λ a x. x) enc at e));
              clean = λ h. absurd (omega arith);
              cut = λ h. (l, e, refl, subst Refused (sym q) refused);
              recovered = λ h. absurd (omega arith);
            })

    -- a line that failed, and was mended
    mended-told : (n p : ℕ) (l : Line) → own enc at ≡ failed n p l → S.strict ≡ false → (r : List ℕ) → Told enc S bs room st r recovered_mark
    mended-told n p l e lenient r = record {
      at = at;
      begins = begins;
      few = omega arith;
      when_strict = λ h. absurd (let z : ◌≡◌ {A = ℕ} 0 1 = cc in omega arith);
      clean = λ h. absurd (omega arith);
      cut = λ h. absurd (omega arith);
      recovered = λ h. (failed-not (own enc at) e, cases (strict enc at) (subst (Twin cut_of Refused false (strict enc at)) e (lenient-twins lenient enc at)));
    }
      where
        cases : (v : Went) → Twin cut_of Refused false v (failed n p l) → NotRead v
        cases v (alike c) = failed-not v refl
        cases v (apart refused c d) = failed-not v refl

  row4-told : RowTold group4 S bs room st (row4 S bs room st)
  row4-told = row4-cases S bs room st (RowTold group4 S bs room st) (λ e. tt) (λ e w q. cases w q)
    where
      cases : (w : Went) → own group4 (eols_before S bs st).at ≡ w → RowTold group4 S bs room st (after_line4 S bs st w)
      cases (went l) q = read_told group4 (eols_before S bs st).at refl l q
      cases (failed n p l) q = tt

  -- an encoding of Group 3 and its tagging
  module _ (enc : Encoding) (t : Tagging) (same : (at : ℕ) → own enc at ≡ line3 S t bs (rules_of S room) st.reference at t)
      (starts : (at : ℕ) (expected : Bool) → before S t bs st (eqb st.count 0) ≡ at_line at expected → Begins enc S bs st at) where
    row3-told : RowTold enc S bs room st (row3 S t bs room st)
    row3-told = row3-cases S t bs room st (RowTold enc S bs room st) (λ at e. tt) (λ at e. tt) (λ at expected e w q. cases at expected (starts at expected e) w (same at ∙ q))
      where
        keeps : (at : ℕ) (expected : Bool) → Begins enc S bs st at → (n p : ℕ) (l : Line) → own enc at ≡ failed n p l → S.strict ≡ false → (w : Went) → RowTold enc S bs room st (kept S t bs st expected at recovered_mark w)
        keeps at expected b n p l q f (went u) = mended-told enc at b n p l q f u.changes
        keeps at expected b n p l q f (failed m r u) = tt

        cases : (at : ℕ) (expected : Bool) → Begins enc S bs st at → (w : Went) → own enc at ≡ w → RowTold enc S bs room st (after_line3 S t bs (rules_of S room) st at expected w)
        cases at expected b (went l) q = read_told enc at b l q
        cases at expected b (failed n p l) q = mended-cases S t bs (rules_of S room) st at expected n p l (RowTold enc S bs room st) (λ x f k w e. keeps at expected b n p l q f w) tt

  pub row_told : (enc : Encoding) → RowTold enc S bs room st (row_of enc S bs room st)
  unfolding row_of
  row_told group4 = row4-told
  row_told group3_1_d = row3-told group3_1_d untagged (λ at. refl) (λ at expected e. (expected, e))
  row_told group3_2_d = row3-told group3_2_d tagged (λ at. refl) (λ at expected e. (expected, e))

-- a row's mark is one of the list, under any settings
abbrev pub RowMarked : RowOut → Type 0
RowMarked (row r mark next) = mark ≤ 2
RowMarked (stop n place bytes loose) = Unit {0}

module _ (S : Settings) (bs : List Bool) (room : ℕ) (st : State) where
  read-few : (cut : Bool) → cond cut 1 0 ≤ 2
  read-few true = omega arith
  read-few false = omega arith

  row3-marked : (t : Tagging) → RowMarked (row3 S t bs room st)
  row3-marked t = row3-cases S t bs room st RowMarked (λ at e. tt) (λ at e. tt) (λ at expected e w q. cases at expected w)
    where
      keeps : (at : ℕ) (expected : Bool) (w : Went) → RowMarked (kept S t bs st expected at recovered_mark w)
      keeps at expected (went u) = omega arith
      keeps at expected (failed n p u) = tt

      cases : (at : ℕ) (expected : Bool) (w : Went) → RowMarked (after_line3 S t bs (rules_of S room) st at expected w)
      cases at expected (went l) = read-few l.cut
      cases at expected (failed n p l) = mended-cases S t bs (rules_of S room) st at expected n p l RowMarked (λ q f h w e. keeps at expected w) tt

  pub row-marked : (enc : Encoding) → RowMarked (row_of enc S bs room st)
  unfolding row_of
  row-marked group4 = row4-cases S bs room st RowMarked (λ e. tt) (λ e w q. cases w)
    where
      cases : (w : Went) → RowMarked (after_line4 S bs st w)
      cases (went l) = read-few l.cut
      cases (failed n p l) = tt
  row-marked group3_1_d = row3-marked untagged
  row-marked group3_2_d = row3-marked tagged

-- ---- A page

module _ (S : Settings) (implies : Implied S) (bs : List Bool) (store places : ℕ) where
  abbrev row_at : ℕ → State → RowOut
  row_at = row_of S.encoding S bs

  abbrev OutCame : Out Kept Answer → Type 0
  OutCame (more k) = Came S bs k.rows k.marks k.state
  OutCame (done a) = (st : State) × Came S bs a.rows a.marks st

  step-came : (k : Kept) → Came S bs k.rows k.marks k.state → OutCame (page_step row_at store places k)
  unfolding page_step
  step-came k h = cases (row_at (store - entries k.rows) k.state) refl (row_told S implies bs (store - entries k.rows) k.state S.encoding)
    where
      cases : (o : RowOut) → row_at (store - entries k.rows) k.state ≡ o → RowTold S.encoding S bs (store - entries k.rows) k.state o → OutCame (keep_row row_at store places k o)
      cases (row r m st) e t = tests (ltb (length k.rows) places)
        where
          tests : (b : Bool) → OutCame (cond b (more (with_row k r m st)) (done (end_with k 5 0 0 r)))
          tests true = and_row h (store - entries k.rows) r m st e t
          tests false = (k.state, h)
      cases (stop n place bytes loose) e t = (k.state, h)

  -- Every page's rows came so.
  pub page-came : (st : State) × Came S bs (read_page S bs store places).rows (read_page S bs store places).marks st
  unfolding read_page ends
  page-came = ended (ends (page_step row_at store places) (rows_left bs) none_kept) (run-keeps OutCame (page_step row_at store places) step-came (suc (rows_left bs none_kept)) (more none_kept) none_yet)
    where
      ended : (o : Out Kept Answer) → OutCame o → (st : State) × Came S bs (page_of o).rows (page_of o).marks st
      ended (more k) h = (page_start, none_yet)
      ended (done a) h = h

-- and so did those of whatever `decode` answers, which reads strictly where exact is set (A12)
pub decode-came : (S : Settings) (bytes : List ℕ) (store places : ℕ) → (st : State) × Came (strict_if_exact S) (bits_of bytes) (decode S bytes store places).rows (decode S bytes store places).marks st
decode-came S bytes store places = decode-cases S bytes (λ f. Rows-came (f store places)) (λ n r. (page_start, none_yet)) (λ ok. short-cases S (read_page (strict_if_exact S) (bits_of bytes) store places) Rows-came (λ l. read) (λ n. read))
  where
    Rows-came : Answer → Type 0
    Rows-came a = (st : State) × Came (strict_if_exact S) (bits_of bytes) a.rows a.marks st

    read : Rows-came (read_page (strict_if_exact S) (bits_of bytes) store places)
    read = page-came (strict_if_exact S) (implied S) (bits_of bytes) store places

-- marks of which none is above `most`
pub data AtMost (most : ℕ) : List ℕ → Type 0 where
  no-marks : AtMost most []
  mark-then : {m : ℕ} {ms : List ℕ} → m ≤ most → AtMost most ms → AtMost most (m ∷ ms)

at-most-snoc : {most : ℕ} {ms : List ℕ} {m : ℕ} → AtMost most ms → m ≤ most → AtMost most (ms ++ m ∷ [])
at-most-snoc no-marks h = mark-then h no-marks
at-most-snoc (mark-then k ms) h = mark-then k (at-most-snoc ms h)

pub at-most-at : {most : ℕ} {ms : List ℕ} → AtMost most ms → (n : ℕ) → get_or ms n 0 ≤ most
unfolding get_or
at-most-at no-marks n = omega arith
at-most-at (mark-then h hs) zero = h
at-most-at (mark-then h hs) (suc n) = at-most-at hs n

module _ {S : Settings} {bs : List Bool} where
  -- as many marks as rows,
  pub came-as-many : {rows : List (List ℕ)} {marks : List ℕ} {st : State} → Came S bs rows marks st → length marks ≡ length rows
  came-as-many none_yet = refl
  came-as-many (and_row {rows = rows} {marks = marks} c room r mark next e t) = omega (arith, length-append marks (mark ∷ []), length-append rows (r ∷ []), came-as-many c)

  -- each of the list,
  pub came-listed : {rows : List (List ℕ)} {marks : List ℕ} {st : State} → Came S bs rows marks st → AtMost 2 marks
  came-listed none_yet = no-marks
  came-listed (and_row c room r mark next e t) = at-most-snoc (came-listed c) t.few

  -- and clean where the page is read strictly
  pub came-strict : {rows : List (List ℕ)} {marks : List ℕ} {st : State} → S.strict ≡ true → Came S bs rows marks st → AtMost 0 marks
  came-strict h none_yet = no-marks
  came-strict h (and_row c room r mark next e t) = at-most-snoc (came-strict h c) (let z = t.when_strict h in omega arith)
