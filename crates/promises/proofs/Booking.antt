-- The steward's number: a line that says counted means what it should, and a form that we wrote has the verdict of its rows. Assumes nothing.
use mathlib.Core.Path.{◌≡◌, refl, sym, ap, ◌∙◌, subst}
use mathlib.Core.Bool.{Bool, true, false, not, ◌&&◌}
use mathlib.Core.Logic.{inl}
use mathlib.Core.List.{List, ◌∷◌, ◌++◌}
use Prim.Native.Nat.{ℕ, ◌≤◌}
use native.Mathlib.Omega.{arith}
use lib.ListN.{length, take, replicate, length-take}
use lib.Seq.{take-take}
use borrow.Author.Tests.{eqb-false}
use Rattle.rules.specs.Pages as Page
use Rattle.rules.specs.Pages.{most_bytes, places_in, changes_after, ends_after, marks_after}
use Rattle.rules.specs.Proper.{is_proper, parts_in}
use Rattle.rules.specs.Write.{rows_in, write_page}
use Rattle.rules.proofs.RoundTrip.{page-written}
use Rattle.rules.proofs.Store.{length-rows_in}
use Rattle.answer.specs.Answer.{answer_of}
use Rattle.answer.specs.declared.Answer.{Answer}
use Rattle.settings.specs.Settings.{encoding_of, settings_of}
use Rattle.settings.specs.declared.DecodeSettings.{DecodeSettings}
use Rattle.settings.specs.declared.EncodingMode.{EncodingMode}
use Rattle.settings.specs.declared.EncodingMode.TheVariants.{Group4}
use Rattle.ccitt.specs.Decode.{Decodes}
use Rattle.writer.specs.Outcome as Writer
use Rattle.heads.specs.Form as Heads
use Rattle.listing_text.specs.Text.{tab, decimal}
use Rattle.ledger.specs.Books.{booked}
use Rattle.ledger.specs.Said.{shown}
use Rattle.ledger.specs.declared.Ledger.{Ledger}
use Rattle.ledger.specs.declared.Verdict.{Verdict}
use Rattle.form_file.specs.Heard.{has_shift}
use Rattle.form_file.specs.FormFile.{box_at}
use Rattle.form_file.specs.declared.Form.{Form}
use Rattle.booking.specs.Tests.{on_page}
use Rattle.booking.specs.Means.{Counts}
use Rattle.booking.specs.Verdict.{verdict_of, verdict_on}
use Rattle.booking.specs.Booked.{Given, form_read, boxes_after, places_after, page_settings, page_read, page_gave_up, unsound, is_sound, verdict_from, Books}
use Rattle.booking.specs.declared.Booked.{Booked}
use Rattle.booking.proofs.Findings.{rows_fit, is_whole}
use Rattle.booking.proofs.Means as Means
use Rattle.booking.proofs.Findable as Findable
use Rattle.rules.proofs.Stored.{decode-modest}
use Rattle.promises.specs.Rooms.{Call}
use Rattle.promises.specs.Booking.{form_of, Ticked, CountedAt, Counted, CountedLine, CountedMeans, boxes_there, places_there, FoundLine, FoundMeans, Arrived, WrittenFormIsCounted}
use Rattle.promises.proofs.Demand3.{page-is-whole, written-page-reads-back}
use Rattle.promises.proofs.NeverBack.{sure-gives-none-up}
use Rattle.promises.proofs.Proper.{written-page-is-proper}
use Rattle.promises.proofs.Ledgers.{entered}
use Rattle.promises.proofs.CountedTicks.{Alone, ticks, clean-boxes}
use Rattle.promises.proofs.CountedRows.{clean-place, read-row}
use Rattle.promises.proofs.CountedLine.{counted-line}

-- ---- The form

module _ (g : Given) where
  abbrev on_form : Verdict
  on_form = verdict_on (form_of g) (boxes_after g) (places_after g) (page_settings g) g.src (page_gave_up g) (page_read g)

  -- by a form that is sound the page is judged,
  sound-verdict : is_sound (form_read g).formed ≡ true → verdict_from g ≡ on_form
  unfolding verdict_from
  sound-verdict e = rw (verdict_from, e)

  -- and one that is not is told with its number
  counted-sound : (verdict_from g).number ≡ 0 → is_sound (form_read g).formed ≡ true
  unfolding verdict_from
  counted-sound = by (is_sound (form_read g).formed) refl
    where
      by : (t : Bool) → is_sound (form_read g).formed ≡ t → (elim t as (λ z. Verdict) [ false ↦ unsound (form_read g).formed | true ↦ on_form ]).number ≡ 0
          → is_sound (form_read g).formed ≡ true
      by true e z = e
      by false e z = absurd (eqb-false (form_read g).formed.number 0 e z)

  -- ---- A page that is counted

  abbrev places : ℕ
  places = places_in g.ends g.marks

  -- the ticks of the form's numbers are those of the statement
  ticked-alone : (boxes : List ℕ) (column digit : ℕ) → Alone (page_settings g) g.src (length g.changes) places boxes (form_of g).tick column digit → Ticked g boxes column digit
  ticked-alone boxes column digit t = record { of_ten = t.of_ten; each = t.each }

  -- wherever the form lies
  counted-at : (boxes lies : List ℕ) → Counts (form_of g) boxes lies (page_settings g) g.src (page_gave_up g) (page_read g) on_form.heads → CountedAt g boxes lies on_form
  counted-at boxes lies c =
      let t = ticks (page_settings g) g.src (length g.changes) places boxes (form_of g).tick c.answer in
      record {
        tens = t.tens;
        units = t.units;
        of_tens = ticked-alone boxes 0 t.tens t.of_tens;
        of_units = ticked-alone boxes 1 t.units t.of_units;
        heads_are = c.heads_are ∙ t.heads_are;
        box_rows = λ k y h u.
            read-row (page_settings g) g.src (length g.changes) places y u.row
            (clean-boxes (page_settings g) g.src (length g.changes) places boxes (form_of g).tick c.answer k y h
            (box_at boxes k) refl u.top u.bottom u.wide u.left u.row);
        place_rows = λ k y h u.
            read-row (page_settings g) g.src (length g.changes) places y u.row
            (clean-place (form_of g) boxes lies (page_settings g) g.src (page_gave_up g) (page_read g) on_form.heads c k y h
            u.top u.bottom u.wide u.left u.row);
        counts = c;
      }

module _ (name : List ℕ) (b : Ledger) (g : Given) (out : List ℕ) (r : Booked) (boxes places changes ends marks out' : List ℕ)
    (books : Books name b g out r boxes places changes ends marks out') (z : r.verdict.number ≡ 0) (some : r.text ≡ 0 → ⊥) where
  number : (verdict_from g).number ≡ 0
  number = sym (ap (λ (v : Verdict). v.number) books.found.verdict) ∙ z

  sound : is_sound (form_read g).formed ≡ true
  sound = counted-sound g number

  -- the verdict is that on the form,
  on : r.verdict ≡ on_form g
  on = books.found.verdict ∙ sound-verdict g sound

  on-number : (on_form g).number ≡ 0
  on-number = sym (ap (λ (v : Verdict). v.number) on) ∙ z

  -- and the line is written by it
  said : (rest : List ℕ) × (take r.text out' ≡ shown name ++ tab ∷ (decimal 0 ++ tab ∷ (decimal r.verdict.heads ++ tab ∷ rest)))
  said =
      let line =
      (entered name b (verdict_from g) out (record { ledger = r.ledger; text = r.text }) out'
      (record { books = books.ledger; length-is = books.length-is; array = books.array }) some).line in
      let words = counted-line name (verdict_from g) (booked b (verdict_from g)) number in (
        words.0,
        line ∙ words.1
            ∙ ap (λ (v : Verdict). shown name ++ tab ∷ (decimal 0 ++ tab ∷ (decimal v.heads ++ tab ∷ words.0))) (sym books.found.verdict),
      )

  line-counts : has_shift (form_of g) ≡ false → CountedLine g name r out'
  line-counts still = record {
    sound = sound;
    counted =
        subst (Counted g) (sym on)
        (counted-at g (boxes_after g) (places_after g) (Means.counted-means (form_of g) (boxes_after g) (places_after g) (page_settings g) g.src (page_gave_up g) (page_read g) still on-number));
    rest = said.0;
    line = said.1;
  }

  line-found : has_shift (form_of g) ≡ true → FoundLine g name r out'
  line-found shifts =
      let f = Findable.found-means (form_of g) (boxes_after g) (places_after g) (page_settings g) g.src (page_gave_up g) (page_read g) shifts on-number in
      record {
        sound = sound;
        offset = f.offset;
        near = f.near;
        fitting = f.fitting;
        each = λ j h e. subst (CountedAt g (boxes_there g j) (places_there g j)) (sym on) (counted-at g (boxes_there g j) (places_there g j) (f.each j h e));
        rest = said.0;
        line = said.1;
      }

pub counted-means : CountedMeans
counted-means name b g out r boxes places changes ends marks out' books still z some =
    line-counts name b g out r boxes places changes ends marks out' books z some still

pub found-means : FoundMeans
found-means name b g out r boxes places changes ends marks out' books shifts z some =
    line-found name b g out r boxes places changes ends marks out' books z some shifts

-- ---- A form that was written

module _ (columns : ℕ) (changes ends out : List ℕ) (w : Answer) (out' : List ℕ) (narrow : columns ≤ 4294967295)
    (written : Writer.Answers (write_page columns changes ends out) out w out') (z : w.number ≡ 0) (g : Given) (came : Arrived columns changes ends w out' g) where
  -- the page's bytes are no more than were written, nor than a page has,
  few : length g.src ≤ w.bytes
  few = omega (arith, ap length came.bytes, length-take w.bytes out')

  small : length g.src ≤ most_bytes
  small =
      let p = page-written columns narrow changes ends out (sym (ap (λ (x : Answer). x.number) written.answer) ∙ z) in
      omega (arith, ap length came.bytes, length-take w.bytes out', written.size, p.short)

  -- and begin with what was written
  same : take w.bytes g.src ≡ take w.bytes out'
  same = ap (take w.bytes) came.bytes ∙ take-take w.bytes w.bytes out' (omega arith)

  -- what was read: 0, with as many bytes as were written, their rows, and each of them clean
  record ReadsBack : Type 0 where
    done : (page_read g).number ≡ 0
    all_bytes : (page_read g).bytes ≡ w.bytes
    rows_are : (page_read g).rows ≡ rows_in 0 changes ends
    marks_are : (page_read g).marks ≡ replicate (length ends) 0

  reads-back : ReadsBack
  reads-back =
      let back =
      written-page-reads-back columns changes ends out w out' narrow written z g.src small same (page_settings g) came.plainly came.all_rows g.changes g.ends g.marks
      (answer_of (page_read g)) (changes_after (page_read g) g.changes) (ends_after (page_read g) g.ends) (marks_after (page_read g) g.marks)
      came.changes_room came.ends_room came.marks_room (record { answer = refl; changes = refl; ends = refl; marks = refl }) in
      let is =
      page-is-whole columns changes ends out w out' narrow written z g.src small same (page_settings g) came.plainly came.all_rows g.changes g.ends g.marks
      came.changes_room came.ends_room came.marks_room in
      record {
        done = back.0;
        all_bytes = back.1;
        rows_are = ap (λ (x : Page.Answer). x.rows) is;
        marks_are = ap (λ (x : Page.Answer). x.marks) is ∙ ap (λ (n : ℕ). replicate n 0) (length-rows_in 0 changes ends);
      }

-- the same is found on the same page, whatever it is known by
found-same : (form : Form) (boxes places : List ℕ) (encoding : EncodingMode) (columns : ℕ) (rows : List (List ℕ)) (marks : List ℕ)
    → (encoding' : EncodingMode) (columns' : ℕ) (rows' : List (List ℕ)) (marks' : List ℕ) → encoding ≡ encoding' → columns ≡ columns' → rows ≡ rows' → marks ≡ marks'
    → on_page form boxes places encoding (record { columns = columns; rows = rows }) marks ≡ on_page form boxes places encoding' (record { columns = columns'; rows = rows' }) marks'
found-same form boxes places encoding columns rows marks encoding' columns' rows' marks' e f g h = rw (e, f, g, h)

-- a proper page is not refused for it
unasked : (t p : Bool) → p ≡ true → (t && not p) ≡ false
unasked t true e = either t
  where
    either : (b : Bool) → (b && false) ≡ false
    either true = refl
    either false = refl
unasked t false e = absurd (let z : ◌≡◌ {A = ℕ} 0 1 = cc in omega arith)

pub written-form-is-counted : WrittenFormIsCounted
unfolding verdict_on
written-form-is-counted columns changes ends out w out' narrow written z g came sound still fit wide enough few_rows =
    sound-verdict g sound
    ∙ ap (verdict_of (page_read g))
    (sym
    (rows_fit form boxes places s.encoding proper parts page a.marks (length ends) (sym count) enough few_rows (unasked form.proper proper is-proper)
    ∙ is_whole form boxes places s (length g.src) gave proper parts a fit b.done same_width modest all kept)
    ∙ Means.still form boxes places s g.src gave a still
    ∙ found-same form boxes places s.encoding s.columns a.rows a.marks Group4 columns (rows_in 0 changes ends) (replicate (length ends) 0)
    came.plainly.group_4 came.plainly.same_columns b.rows_are b.marks_are)
  where
    form : Form
    form = form_of g

    boxes : List ℕ
    boxes = boxes_after g

    places : List ℕ
    places = places_after g

    s : DecodeSettings
    s = page_settings g

    a : Page.Answer
    a = page_read g

    page : Heads.Page
    page = record { columns = s.columns; rows = a.rows }

    b : ReadsBack columns changes ends out w out' narrow written z g came
    b = reads-back columns changes ends out w out' narrow written z g came

    count : length a.rows ≡ length ends
    count = ap length b.rows_are ∙ length-rows_in 0 changes ends

    same_width : s.columns ≡ form.columns
    same_width = came.plainly.same_columns ∙ sym wide

    modest : a.bytes ≤ length g.src
    modest = (decode-modest (settings_of s) g.src (length g.changes) (places_in g.ends g.marks)).few_bytes

    gave : Bool
    gave = page_gave_up g

    proper : Bool
    proper = is_proper (settings_of s) g.src a

    parts : ℕ
    parts = parts_in (settings_of s) g.src a

    -- a call of `check` that read the page
    call : Call
    call = record {
      changes = g.changes;
      ends = g.ends;
      marks = g.marks;
      answer = answer_of a;
      changes' = changes_after a g.changes;
      ends' = ends_after a g.ends;
      marks' = marks_after a g.marks;
    }

    decodes : Decodes g.src s g.changes g.ends g.marks (answer_of a) (changes_after a g.changes) (ends_after a g.ends) (marks_after a g.marks)
    decodes = record { answer = refl; changes = refl; ends = refl; marks = refl }

    -- it is proper, and Group 4 gives no EOLs up
    is-proper : proper ≡ true
    is-proper =
        written-page-is-proper columns changes ends out w out' narrow written z g.src (small columns changes ends out w out' narrow written z g came)
        (same columns changes ends out w out' narrow written z g came) s came.plainly came.all_rows call (record { answer = answer_of a; parts = parts; gave_up = gave; proper = proper })
        (record { store = came.changes_room; places = came.ends_room; marks = came.marks_room })
        (record { checks = record { decodes = decodes; gave_up = refl; proper = refl; parts = refl }; answer = refl })

    kept : gave ≡ false
    kept = sure-gives-none-up g.src s call gave (record { decodes = decodes; gave_up = refl }) (inl (ap encoding_of came.plainly.group_4))

    all : length g.src ≤ a.bytes
    all = omega (arith, b.all_bytes, few columns changes ends out w out' narrow written z g came)
