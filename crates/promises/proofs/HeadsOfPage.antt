-- Heads of a page that `decode` handed over. Assumes nothing.
use mathlib.Core.Path.{◌≡◌, refl, sym, ap, ap₂, ◌∙◌, subst}
use mathlib.Core.Bool.{Bool, true, false, cond, ◌&&◌, true≢false}
use mathlib.Core.List.{List, [], ◌∷◌, ◌++◌}
use mathlib.Core.Logic.{◌⊎◌, inl, inr}
use Prim.Native.Nat.{ℕ, zero, suc, ◌+◌, ◌≤◌, ◌<◌}
use native.Mathlib.Omega.{arith}
use lib.Dec.{ltb}
use lib.ListN.{length, get_or, take, replicate, length-append, length-take, length-replicate, get_or-replicate, get_or-append}
use lib.Seq.{get_or-take, take-append-le, take-append_seam, get_or-append_seam}
use borrow.Author.Tests.{ltb-true, ltb-false}
use Rattle.rules.specs.Answers.{complete, most_pixels}
use Rattle.rules.specs.Bits.{bits_of}
use Rattle.rules.specs.Codes.{white}
use Rattle.rules.specs.Lines.{Went, went, failed}
use Rattle.rules.specs.Rows.{Encoding, group4, group3_1_d, group3_2_d, Settings, State, recovered_mark, RowOut, row, stop, rules_of}
use Rattle.rules.specs.Group4.{after_line4}
use Rattle.rules.specs.Group3.{Tagging, untagged, tagged, kept, after_line3, row3}
use Rattle.rules.specs.Pages as Page
use Rattle.rules.specs.Pages.{row_of, joined, ends_from, places_in, strict_if_exact, decode}
use Rattle.rules.specs.Write.{page_bits, ends_rise, all_ascend, rows_in, write_page}
use Rattle.rules.specs.WriteGroup3.{layout_1d, page3_bits, write_1d}
use Rattle.rules.specs.Damage.{Arrived, own, other, Spared, no_lines, unchanged, any_row}
use Rattle.rules.specs.Pixels.{pixels_of}
use Rattle.rules.proofs.Ascending.{rises-ascends}
use Rattle.rules.specs.Rising.{Rows, no_rows, row_then}
use Rattle.rules.proofs.Rows.{row4-cases, row3-cases, mended-cases}
use Rattle.rules.proofs.Store.{length-joined, length-ends, length-rows_in}
use Rattle.rules.specs.Marks.{Came, none_yet, and_row, Told}
use Rattle.rules.proofs.Marks.{came-as-many}
use Rattle.answer.specs.declared.Answer.{Answer}
use Rattle.settings.specs.declared.DecodeSettings.{DecodeSettings}
use Rattle.settings.specs.Settings.{settings_of}
use Rattle.rules.proofs.Stored.{ends-rise}
use Rattle.row_store.specs.Store.{good_rows}
use Rattle.writer.specs.Outcome as Writer
use Rattle.heads.specs.Form.{Page, pixel, marked, sound}
use Rattle.heads.specs.declared.Box.{Box}
use Rattle.heads.proofs.RowsAt.{rows-length}
use Rattle.heads.proofs.Marks as Mark
use Rattle.promises.specs.Demand1Write.{WriteListed}
use Rattle.promises.specs.Rooms.{Call, rows_of, marks_of, Reading}
use Rattle.promises.specs.Heads.{In, box_at, Touched}
use Rattle.promises.specs.WriteGroup3.{Write3Listed}
use Rattle.promises.specs.BadLines.{Arrival}
use Rattle.promises.specs.HeadsOfPage.{asked_of, DecodedPagePasses, ByItsLine, HeadsOfPage, WrittenFormKeepsHeads, LinesOf, BadLinesKeepHeads}
use Rattle.promises.proofs.Demand1.{decode-answers, changes-front, ends-front, marks-front, all-marked}
use Rattle.promises.proofs.Demand1Write.{write-page-answers}
use Rattle.promises.proofs.Demand3.{written-page-reads-back}
use Rattle.promises.proofs.Marks.{decode-marks, marks-tell, written-page-is-clean}
use Rattle.promises.proofs.WriteGroup3.{write-1d-answers}
use Rattle.promises.proofs.BadLines.{k-bad-lines}
use Rattle.promises.proofs.Heads.{zero-passes, heads-are-ticked, quota-left, heads-refused, only-clean-rows, same-pixels-same-heads}

-- ---- How each row came

module _ (S : Settings) (bs : List Bool) where
  -- a row that is kept is the next reference
  abbrev Refers : RowOut → Type 0
  Refers (row r mark next) = next.reference ≡ r
  Refers (stop n place bytes loose) = Unit {0}

  row3-refers : (t : Tagging) (room : ℕ) (st : State) → Refers (row3 S t bs room st)
  row3-refers t room st = row3-cases S t bs room st Refers (λ at e. tt) (λ at e. tt) (λ at expected e w q. cases at expected w)
    where
      keeps : (at mark : ℕ) (expected : Bool) (w : Went) → Refers (kept S t bs st expected at mark w)
      keeps at mark expected (went l) = refl
      keeps at mark expected (failed n p l) = tt

      cases : (at : ℕ) (expected : Bool) (w : Went) → Refers (after_line3 S t bs (rules_of S room) st at expected w)
      cases at expected (went l) = refl
      cases at expected (failed n p l) = mended-cases S t bs (rules_of S room) st at expected n p l Refers (λ q f h w e. keeps at recovered_mark expected w) tt

  row-refers : (enc : Encoding) (room : ℕ) (st : State) → Refers (row_of enc S bs room st)
  unfolding row_of
  row-refers group4 room st = row4-cases S bs room st Refers (λ e. tt) (λ e w q. cases w)
    where
      cases : (w : Went) → Refers (after_line4 S bs st w)
      cases (went l) = refl
      cases (failed n p l) = tt
  row-refers group3_1_d room st = row3-refers untagged room st
  row-refers group3_2_d room st = row3-refers tagged room st

  -- the last row is the reference
  came-refers : {rows : List (List ℕ)} {marks : List ℕ} {st : State} → Came S bs rows marks st → st.reference ≡ get_or ([] ∷ rows) (length rows) []
  came-refers none_yet = refl
  came-refers (and_row {rows = rows} {st = st} c room r mark next e t) =
      subst Refers e (row-refers S.encoding room st)
      ∙ sym (ap (λ n. get_or ([] ∷ (rows ++ r ∷ [])) n []) (let q : length (rows ++ r ∷ []) ≡ suc (length rows) = omega (arith, length-append rows (r ∷ [])) in q) ∙ get_or-append_seam rows r [] [])

  -- the row at y, with its mark
  pub record At (rows : List (List ℕ)) (marks : List ℕ) (y : ℕ) : Type 0 where
    pub state : State
    pub behind : Came S bs (take y rows) (take y marks) state
    pub under : state.reference ≡ get_or ([] ∷ rows) y []
    pub room : ℕ
    pub told : Told S.encoding S bs room state (get_or rows y []) (get_or marks y 0)

  pub came-at : {rows : List (List ℕ)} {marks : List ℕ} {st : State} → Came S bs rows marks st → (y : ℕ) → y < length rows → At rows marks y
  came-at none_yet y h = absurd (omega arith)
  came-at (and_row {rows = rows} {marks = marks} {st = st} c room r mark next e t) y h =
      by (ltb y (length rows)) (ltb-true y (length rows)) (ltb-false y (length rows)) (λ k. came-at c y k)
    where
      above : (y : ℕ) → y ≤ length rows → get_or ([] ∷ (rows ++ r ∷ [])) y [] ≡ get_or ([] ∷ rows) y []
      above y k = get_or-append ([] ∷ rows) (r ∷ []) [] y (omega arith)

      by : (b : Bool) → (b ≡ true → y < length rows) → (b ≡ false → length rows ≤ y) → (y < length rows → At rows marks y) → At (rows ++ r ∷ []) (marks ++ mark ∷ []) y
      by true f g before =
          let l = f refl in
          let k = before l in
          let m = came-as-many c in
          record {
            state = k.state;
            behind = rw (take-append-le y rows (r ∷ []) (omega arith), take-append-le y marks (mark ∷ []) (omega arith)) k.behind;
            under = k.under ∙ sym (above y (omega arith));
            room = k.room;
            told = rw (get_or-append rows (r ∷ []) [] y l, get_or-append marks (mark ∷ []) 0 y (omega arith)) k.told;
          }
      by false f g before =
          let q : y ≡ length rows = omega (arith, g refl, h, length-append rows (r ∷ [])) in
          let p : y ≡ length marks = omega (arith, q, came-as-many c) in
          record {
            state = st;
            behind = rw (ap (λ n. take n (rows ++ r ∷ [])) q ∙ take-append_seam rows (r ∷ []), ap (λ n. take n (marks ++ mark ∷ [])) p ∙ take-append_seam marks (mark ∷ [])) c;
            under = came-refers c ∙ sym (ap (λ n. get_or ([] ∷ (rows ++ r ∷ [])) n []) q ∙ above (length rows) (omega arith));
            room = room;
            told = rw (ap (λ n. get_or (rows ++ r ∷ []) n []) q ∙ get_or-append_seam rows r [] [], ap (λ n. get_or (marks ++ mark ∷ []) n 0) p ∙ get_or-append_seam marks mark [] 0) t;
          }

-- ---- A page that was handed over

rows-ascend : {width : ℕ} {rows : List (List ℕ)} → Rows width rows → all_ascend width rows ≡ true
unfolding all_ascend
rows-ascend no_rows = refl
rows-ascend (row_then r rs) = rw (rises-ascends r) (rows-ascend rs)

module _ (bytes : List ℕ) (settings : DecodeSettings) (c : Call) (narrow : settings.columns ≤ most_pixels) (read : Reading bytes settings c) where
  abbrev said : Page.Answer
  said = decode (settings_of settings) bytes (length c.changes) (places_in c.ends c.marks)

  abbrev rows : ℕ
  rows = c.answer.rows

  ends_are : take rows c.ends' ≡ ends_from 0 said.rows
  ends_are = ends-front said c.changes c.ends c.marks c.answer c.changes' c.ends' c.marks' read

  rows_are : rows ≡ length said.rows
  rows_are = ap (λ (x : Answer). x.rows) read.answer

  ends-kept : length (take rows c.ends') ≡ rows
  ends-kept = ap length ends_are ∙ length-ends 0 said.rows ∙ sym rows_are

  marks-kept : length (take rows c.marks') ≡ rows
  marks-kept =
      let m = all-marked settings bytes c.changes c.ends c.marks in
      ap length (marks-front said c.changes c.ends c.marks c.answer c.changes' c.ends' c.marks' read m) ∙ m ∙ sym rows_are

  good-rows : good_rows settings.columns c.changes' 0 (take rows c.ends') ≡ true
  good-rows =
      let front = changes-front said c.changes c.ends c.marks c.answer c.changes' c.ends' c.marks' read in
      ap₂ ◌&&◌
      (ap (ends_rise (length c.changes') 0) ends_are
      ∙ ends-rise (length c.changes') 0 said.rows
      (omega (arith, ap length front, length-take (c.answer.entries + c.answer.loose) c.changes', length-append (joined said.rows) said.loose, length-joined said.rows)))
      (rows-ascend (decode-answers bytes settings c.changes c.ends c.marks c.answer c.changes' c.ends' c.marks' narrow read).2.rising)

  module _ (count : ℕ) (enough : rows ≤ count) where
    -- the mark of a row is the same in as many of the marks as are lent
    mark-at : (n : ℕ) → n < rows → get_or (take count c.marks') n 0 ≡ get_or c.marks' n 0
    mark-at n h = get_or-take count c.marks' n 0 (omega arith)

    marks-few : marked (length (take rows c.ends')) (take count c.marks') ≡ true
    marks-few =
        rw ends-kept
        (Mark.all-marked rows (take count c.marks') (omega (arith, marks-kept, length-take rows c.marks', length-take count c.marks'))
        (λ n h. rw (mark-at n h) (decode-marks bytes settings c.changes c.ends c.marks c.answer c.changes' c.ends' c.marks' read n h).0))

    is-sound : sound settings.columns c.changes' (take rows c.ends') (take count c.marks') ≡ true
    unfolding sound
    is-sound = ap₂ ◌&&◌ good-rows marks-few

pub decoded-page-passes : DecodedPagePasses
decoded-page-passes bytes settings c narrow read count enough form least quota r shape answers e =
    true≢false (sym (is-sound bytes settings c narrow read count enough) ∙ (heads-refused (asked_of settings c count form least quota) r shape answers).eight.0 e)

pub heads-of-page : HeadsOfPage
heads-of-page bytes settings c narrow read count enough form least quota r shape answers z =
    let asked = asked_of settings c count form least quota in
    let t = heads-are-ticked asked r shape answers z in
    record { tens = t.0; units = t.1; one_each = t.2; heads_are = t.3; left_is = (quota-left asked r shape answers z).1; by_lines = lines }
  where
    lines : (y x : ℕ) → Touched (asked_of settings c count form least quota) y x → ByItsLine (strict_if_exact (settings_of settings)) (bits_of bytes) (rows_of c) (marks_of c) y
    lines y x touched =
        let h : y < c.answer.rows = omega (arith, touched.row, ends-kept bytes settings c narrow read) in
        let came = marks-tell bytes settings c.changes c.ends c.marks c.answer c.changes' c.ends' c.marks' read in
        let k = came-at (strict_if_exact (settings_of settings)) (bits_of bytes) came.1 y (omega (arith, touched.row, rows-length 0 c.changes' (take c.answer.rows c.ends'))) in
        let clean : get_or (marks_of c) y 0 ≡ 0 =
        get_or-take c.answer.rows c.marks' y 0 h ∙ sym (mark-at bytes settings c narrow read count enough y h)
        ∙ only-clean-rows (asked_of settings c count form least quota) r shape answers z y x touched in
        record {
          state = k.state;
          behind = k.behind;
          under = k.under;
          room = k.room;
          told = subst (λ (m : ℕ). Told (settings_of settings).encoding (strict_if_exact (settings_of settings)) (bits_of bytes) k.room k.state (get_or (rows_of c) y []) m) clean k.told;
        }

-- ---- A form that was written

-- what was written passed the test of its rows
written-good : (columns : ℕ) (changes ends out : List ℕ) (w : Answer) (out' : List ℕ) → Writer.Answers (write_page columns changes ends out) out w out' → w.number ≡ complete
    → good_rows columns changes 0 ends ≡ true
written-good columns changes ends out w out' written z = by (good_rows columns changes 0 ends) refl
  where
    l : WriteListed columns out (good_rows columns changes 0 ends) (length (page_bits columns (rows_in 0 changes ends))) w out'
    l = write-page-answers columns changes ends out w out' written

    by : (b : Bool) → good_rows columns changes 0 ends ≡ b → good_rows columns changes 0 ends ≡ true
    by true e = e
    by false e =
        let no_line : (columns ≡ 0) ⊎ (columns ≡ most_pixels) → ⊥ = λ n. absurd (omega (arith, z, l.six.1 n)) in
        absurd (omega (arith, z, l.eight.1 (no_line, (λ t. absurd (omega (arith, z, l.seven.1 (no_line, t)))), e)))

good-sound : (columns : ℕ) (changes ends : List ℕ) → good_rows columns changes 0 ends ≡ true → sound columns changes ends (replicate (length ends) 0) ≡ true
unfolding sound
good-sound columns changes ends good =
    ap₂ ◌&&◌ good
    (Mark.all-marked (length ends) (replicate (length ends) 0) (omega (arith, length-replicate {A = ℕ} (length ends) 0))
    (λ n h. omega (arith, get_or-replicate {A = ℕ} (length ends) n 0 0 h)))

pub written-form-keeps-heads : WrittenFormKeepsHeads
written-form-keeps-heads columns changes ends out w out' narrow written z bytes small same settings plain counted c roomy placed marked' read count enough form least quota r s shape answers answers' =
    same-pixels-same-heads (asked_of settings c count form least quota) (record { columns = columns; changes = changes; ends = ends; marks = replicate (length ends) 0; form = form; least = least; quota = quota })
    r s shape answers answers' refl refl refl
    (is-sound bytes settings c fits read count enough)
    (good-sound columns changes ends (written-good columns changes ends out w out' written z))
    (Mark.all-clean settings.columns (length (take c.answer.rows c.ends')) (take count c.marks') form (λ n h. clean_after n (omega (arith, ends-kept bytes settings c fits read))))
    (Mark.all-clean columns (length ends) (replicate (length ends) 0) form (λ n h. get_or-replicate (length ends) n 0 0 h))
    (λ digit column y x hd hc inside. ap₂ (λ n rows. pixel (record { columns = n; rows = rows }) y x) plain.same_columns back)
  where
    fits : settings.columns ≤ most_pixels
    fits = omega (arith, plain.same_columns)

    back : rows_in 0 c.changes' (take c.answer.rows c.ends') ≡ rows_in 0 changes ends
    back = (written-page-reads-back columns changes ends out w out' narrow written z bytes small same settings plain counted c.changes c.ends c.marks c.answer c.changes' c.ends' c.marks' roomy placed marked' read).2

    clean_after : (n : ℕ) → n < c.answer.rows → get_or (take count c.marks') n 0 ≡ 0
    clean_after n h =
        mark-at bytes settings c fits read count enough n h
        ∙ written-page-is-clean columns changes ends out w out' narrow written z bytes small same settings plain counted c.changes c.ends c.marks c.answer c.changes' c.ends' c.marks' roomy placed marked' read n h

-- ---- A form with bad lines

written-1d-good : (columns : ℕ) (changes ends out : List ℕ) (fill : ℕ) (w : Answer) (out' : List ℕ) → Writer.Answers (write_1d true fill columns changes ends out) out w out' → w.number ≡ complete
    → good_rows columns changes 0 ends ≡ true
written-1d-good columns changes ends out fill w out' written z = by (good_rows columns changes 0 ends) refl
  where
    l : Write3Listed (fill ≤ 64) columns changes ends out (length (page3_bits columns (layout_1d true fill) (rows_in 0 changes ends))) w out'
    l = write-1d-answers columns changes ends out true fill w out' written

    no_line : (columns ≡ 0) ⊎ (columns ≡ most_pixels) → ⊥
    no_line n = absurd (omega (arith, z, l.six.1 n))

    by : (b : Bool) → good_rows columns changes 0 ends ≡ b → good_rows columns changes 0 ends ≡ true
    by true e = e
    by false e = absurd (allowed-or (ltb 64 fill) (ltb-true 64 fill) (ltb-false 64 fill))
      where
        short : Page.most_bytes < length out → ⊥
        short t = absurd (omega (arith, z, l.seven.1 (no_line, t)))

        allowed-or : (b : Bool) → (b ≡ true → 64 < fill) → (b ≡ false → fill ≤ 64) → ⊥
        allowed-or true f g = let h = f refl in omega (arith, z, l.ten.1 (no_line, short, λ k. omega arith))
        allowed-or false f g = omega (arith, z, l.eight.1 (no_line, short, g refl, inr e))

-- a row whose line is its own is that row
spared-own : (lines : List Arrived) (rows : List (List ℕ)) (marks : List ℕ) → Spared lines rows marks
    → (n : ℕ) (r : List ℕ) → n < length lines → get_or lines n (own []) ≡ own r → get_or rows n [] ≡ r
spared-own lines rows marks no_lines n r h e = absurd (omega arith)
spared-own lines rows marks (unchanged s) zero r h e = same-own e
  where
    row_of_line : Arrived → List ℕ
    row_of_line (own xs) = xs
    row_of_line (other bits) = []

    same-own : {a b : List ℕ} → own a ≡ own b → a ≡ b
    same-own q = ap row_of_line q
spared-own lines rows marks (unchanged s) (suc n) r h e = spared-own _ _ _ s n r (omega arith) e
spared-own lines rows marks (any_row s) zero r h e = absurd (not_own e)
  where
    is_own : Arrived → Bool
    is_own (own xs) = true
    is_own (other bits) = false

    not_own : {bits : List Bool} {r : List ℕ} → other bits ≡ own r → ⊥
    not_own q = true≢false (sym (ap is_own q))
spared-own lines rows marks (any_row s) (suc n) r h e = spared-own _ _ _ s n r (omega arith) e

-- behind a list there is nothing
past : (rows : List (List ℕ)) (n : ℕ) → length rows ≤ n → get_or rows n [] ≡ []
past [] n h = refl
past (r ∷ rs) zero h = absurd (omega arith)
past (r ∷ rs) (suc n) h = past rs n (omega arith)

-- two pages with the same row there
same-pixel : (columns : ℕ) (rows rows' : List (List ℕ)) (y x : ℕ) → (x < columns → get_or rows y [] ≡ get_or rows' y []) → pixel (record { columns = columns; rows = rows }) y x ≡ pixel (record { columns = columns; rows = rows' }) y x
unfolding pixel
same-pixel columns rows rows' y x f = by (ltb x columns) (ltb-true x columns)
  where
    by : (b : Bool) → (b ≡ true → x < columns) → cond b (pixels_of (get_or rows y []) x) white ≡ cond b (pixels_of (get_or rows' y []) x) white
    by true g = ap (λ (r : List ℕ). pixels_of r x) (f (g refl))
    by false g = refl

pub bad-lines-keep-heads : BadLinesKeepHeads
bad-lines-keep-heads columns changes ends out fill w out' written z lines of bytes settings c a count enough form least quota r s shape answers nought answers' untouched =
    same-pixels-same-heads (asked_of settings c count form least quota) (record { columns = columns; changes = changes; ends = ends; marks = replicate (length ends) 0; form = form; least = least; quota = quota })
    r s shape answers answers' refl refl refl
    (is-sound bytes settings c fits a.reading count enough)
    (good-sound columns changes ends (written-1d-good columns changes ends out fill w out' written z))
    (zero-passes (asked_of settings c count form least quota) r shape answers nought).clean
    (Mark.all-clean columns (length ends) (replicate (length ends) 0) form (λ n h. get_or-replicate (length ends) n 0 0 h))
    (λ digit column y x hd hc inside.
    ap (λ n. pixel (record { columns = n; rows = rows_of c }) y x) a.set.same_columns
    ∙ same-pixel columns (rows_of c) (rows_in 0 changes ends) y x (λ k. same_row digit column y x hd hc inside k (ltb y (length ends)) (ltb-true y (length ends)) (ltb-false y (length ends))))
  where
    fits : settings.columns ≤ most_pixels
    fits = omega (arith, a.set.same_columns, a.narrow)

    saved : (c.answer.number ≡ complete) × (c.answer.rows ≡ length lines) × Spared lines (rows_of c) (marks_of c)
    saved = k-bad-lines columns fill lines bytes settings c a

    as_many : length lines ≡ length ends
    as_many = of.as_many ∙ length-rows_in 0 changes ends

    -- a line under a box is its row's own
    by-line : (y x : ℕ) → y < length ends → Touched (asked_of settings c count form least quota) y x → (l : Arrived) → get_or lines y (own []) ≡ l → get_or (rows_of c) y [] ≡ get_or (rows_in 0 changes ends) y []
    by-line y x h touched (own r') e =
        spared-own lines (rows_of c) (marks_of c) saved.2 y r' (omega (arith, as_many)) e
        ∙ sym (of.owned y r' (omega (arith, length-rows_in 0 changes ends)) e)
    by-line y x h touched (other bits) e = absurd (untouched y x touched bits e)

    same_row : (digit column y x : ℕ) → digit < 10 → column < 2 → In (box_at form digit column) y x → x < columns
        → (b : Bool) → (b ≡ true → y < length ends) → (b ≡ false → length ends ≤ y) → get_or (rows_of c) y [] ≡ get_or (rows_in 0 changes ends) y []
    same_row digit column y x hd hc inside k true f g =
        by-line y x (f refl)
        (record {
          digit = digit;
          column = column;
          of_ten = hd;
          of_two = hc;
          inside = inside;
          row = omega (arith, f refl, ends-kept bytes settings c fits a.reading, saved.1, as_many);
          place = omega (arith, k, a.set.same_columns);
        })
        (get_or lines y (own [])) refl
    same_row digit column y x hd hc inside k false f g =
        let h = g refl in
        past (rows_of c) y (omega (arith, h, rows-length 0 c.changes' (take c.answer.rows c.ends'), ends-kept bytes settings c fits a.reading, saved.1, as_many))
        ∙ sym (past (rows_in 0 changes ends) y (omega (arith, h, length-rows_in 0 changes ends)))
