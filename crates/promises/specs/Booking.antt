-- The steward's number, over the contract of `book_page`: what a line that says counted means, from the form's text and the page's bytes; and that a form that we wrote has the
-- verdict of the rows that were written.
use Rattle.std.specs.Prelude.{◌≡◌, Bool, true, false, ◌⊎◌, List, ◌∷◌, ◌++◌, ℕ, ◌+◌, ◌*◌, ◌≤◌, ◌<◌, eqb, length, take, replicate}
use Rattle.rules.specs.Bits.{bits_of}
use Rattle.rules.specs.Pages.{entries, strict_if_exact}
use Rattle.rules.specs.Write.{rows_in, write_page}
use Rattle.answer.specs.declared.Answer.{Answer}
use Rattle.settings.specs.Settings.{settings_of}
use Rattle.settings.specs.declared.EncodingMode.TheVariants.{Group4}
use Rattle.writer.specs.Outcome as Writer
use Rattle.heads.specs.Form as Heads
use Rattle.heads.specs.Form.{black_in, ticked}
use Rattle.heads.specs.declared.Box.{Box}
use Rattle.listing_text.specs.Text.{tab, decimal}
use Rattle.ledger.specs.Said.{shown}
use Rattle.ledger.specs.declared.Ledger.{Ledger}
use Rattle.ledger.specs.declared.Verdict.{Verdict}
use Rattle.form_file.specs.Heard.{has_shift}
use Rattle.form_file.specs.FormFile.{box_at, place_at}
use Rattle.form_file.specs.declared.Form.{Form}
use Rattle.booking.specs.Tests.{on_page}
use Rattle.booking.specs.Verdict.{fits, verdict_of}
use Rattle.booking.specs.Means.{Counts, reach_of, fits_on, boxes_on, places_on}
use Rattle.booking.specs.Booked.{Given, form_read, boxes_after, places_after, page_settings, page_read, page_gave_up, is_sound, verdict_from, Books}
use Rattle.booking.specs.declared.Booked.{Booked}
use Rattle.promises.specs.Demand3.{Plainly}
use Rattle.promises.specs.HeadsOfPage.{ByItsLine}

-- ---- A page that is counted

module _ (g : Given) where
  -- the form that was read, and the page
  abbrev pub form_of : Form
  form_of = (form_read g).formed.form

  abbrev pub page_of : Heads.Page
  page_of = record { columns = (page_settings g).columns; rows = (page_read g).rows }

  -- in a column (0 tens, 1 units) one digit's box is ticked in the page's pixels, and no other, by the numbers of the boxes
  pub record Ticked (boxes : List ℕ) (column digit : ℕ) : Type 0 where
    pub of_ten : digit < 10
    pub each : (other : ℕ) → other < 10 → ticked form_of.tick (black_in page_of (box_at boxes (2 * other + column))) ≡ eqb other digit

  -- a row of the page that lies under a box, and of which it holds a pixel
  pub record Under (b : Box) (y : ℕ) : Type 0 where
    pub top : b.top ≤ y
    pub bottom : y < b.bottom
    pub wide : b.left < b.right
    pub left : b.left < (page_settings g).columns
    pub row : y < length (page_read g).rows

  -- it is as its line says it: the page's reader and the strict reader both read this row from the bit at which its line began (specs/HeadsOfPage.antt)
  abbrev pub Read : ℕ → Type 0
  Read y = ByItsLine (strict_if_exact (settings_of (page_settings g))) (bits_of g.src) (page_read g).rows (page_read g).marks y

  -- by the numbers of the boxes and the places where the form lies
  pub record CountedAt (boxes places : List ℕ) (v : Verdict) : Type 0 where
    -- "the heads whose boxes alone are ticked in the page's pixels"
    pub tens : ℕ
    pub units : ℕ
    pub of_tens : Ticked boxes 0 tens
    pub of_units : Ticked boxes 1 units
    pub heads_are : v.heads ≡ 10 * tens + units
    -- "every row under a box or place read by its own line"
    pub box_rows : (k y : ℕ) → k < 20 → Under (box_at boxes k) y → Read y
    pub place_rows : (k y : ℕ) → k < form_of.places → Under (place_at places k) y → Read y
    -- "as many rows as the form says, no byte left over, every place as it must be, no box in doubt"; EOLs were not given up, and the page
    -- is proper where the form asks for that
    pub counts : Counts form_of boxes places (page_settings g) g.src (page_gave_up g) (page_read g) v.heads

  -- at its place
  abbrev pub Counted : Verdict → Type 0
  Counted v = CountedAt (boxes_after g) (places_after g) v

  -- the form is sound, its text was read, and the line that was written begins with the name, the number 0 and the heads in decimal; the quota left and the words are the rest
  pub record CountedLine (name : List ℕ) (r : Booked) (out' : List ℕ) : Type 0 where
    pub sound : is_sound (form_read g).formed ≡ true
    pub counted : Counted r.verdict
    pub rest : List ℕ
    pub line : take r.text out' ≡ shown name ++ tab ∷ (decimal 0 ++ tab ∷ (decimal r.verdict.heads ++ tab ∷ rest))

-- by a form that has no shift
abbrev pub CountedMeans : Type 0
CountedMeans =
    (name : List ℕ) (b : Ledger) (g : Given) (out : List ℕ) (r : Booked) (boxes places changes ends marks out' : List ℕ)
    → Books name b g out r boxes places changes ends marks out'
    → has_shift (form_of g) ≡ false → r.verdict.number ≡ 0 → (r.text ≡ 0 → ⊥)
    → CountedLine g name r out'

-- ---- A form that is found

module _ (g : Given) where
  -- how many offsets there are within reach, and whether the form fits at one; its boxes and its places there (booking: specs/Found.antt)
  abbrev pub reach_in : ℕ
  reach_in = reach_of (form_of g) (boxes_after g) (places_after g) (page_settings g) g.src (page_gave_up g) (page_read g)

  abbrev pub fits_at : ℕ → Bool
  fits_at = fits_on (form_of g) (boxes_after g) (places_after g) (page_settings g) g.src (page_gave_up g) (page_read g)

  abbrev pub boxes_there : ℕ → List ℕ
  boxes_there = boxes_on (form_of g) (boxes_after g) (places_after g) (page_settings g) g.src (page_gave_up g) (page_read g)

  abbrev pub places_there : ℕ → List ℕ
  places_there = places_on (form_of g) (boxes_after g) (places_after g) (page_settings g) g.src (page_gave_up g) (page_read g)

  -- the form fits at an offset, and at every offset at which it fits the page counts these very heads
  pub record FoundLine (name : List ℕ) (r : Booked) (out' : List ℕ) : Type 0 where
    pub sound : is_sound (form_read g).formed ≡ true
    pub offset : ℕ
    pub near : offset < reach_in
    pub fitting : fits_at offset ≡ true
    pub each : (j : ℕ) → j < reach_in → fits_at j ≡ true → CountedAt g (boxes_there j) (places_there j) r.verdict
    pub rest : List ℕ
    pub line : take r.text out' ≡ shown name ++ tab ∷ (decimal 0 ++ tab ∷ (decimal r.verdict.heads ++ tab ∷ rest))

-- by a form that has one
abbrev pub FoundMeans : Type 0
FoundMeans =
    (name : List ℕ) (b : Ledger) (g : Given) (out : List ℕ) (r : Booked) (boxes places changes ends marks out' : List ℕ)
    → Books name b g out r boxes places changes ends marks out'
    → has_shift (form_of g) ≡ true → r.verdict.number ≡ 0 → (r.text ≡ 0 → ⊥)
    → FoundLine g name r out'

-- ---- A form that was written

-- the page's bytes are those that `write_page` wrote, it is read as in demand 3, and there is room for its rows
pub record Arrived (columns : ℕ) (changes ends : List ℕ) (w : Answer) (out' : List ℕ) (g : Given) : Type 0 where
  pub bytes : g.src ≡ take w.bytes out'
  pub plainly : Plainly columns (page_settings g)
  pub all_rows : ((page_settings g).rows ≡ 0) ⊎ ((page_settings g).rows ≡ length ends)
  pub changes_room : entries (rows_in 0 changes ends) ≤ length g.changes
  pub ends_room : length ends ≤ length g.ends
  pub marks_room : length ends ≤ length g.marks

-- "a form that our writers wrote, unharmed, is counted with its ticks", of `write_page`: the verdict is what the tests find on the rows that were written, each of them
-- clean, by a form that has no shift; and so it is counted where one box of each column is ticked in them, the places are as they must be and no box is in doubt
abbrev pub WrittenFormIsCounted : Type 0
WrittenFormIsCounted =
    (columns : ℕ) (changes ends out : List ℕ) (w : Answer) (out' : List ℕ) → columns ≤ 4294967295
    → Writer.Answers (write_page columns changes ends out) out w out' → w.number ≡ 0
    → (g : Given) → Arrived columns changes ends w out' g
    → is_sound (form_read g).formed ≡ true → has_shift (form_of g) ≡ false → fits (form_of g) (page_settings g) ≡ true
    → (form_of g).columns ≡ columns → (form_of g).least ≤ length ends → length ends ≤ (form_of g).most
    → verdict_from g
    ≡ verdict_of (page_read g)
    (on_page (form_of g) (boxes_after g) (places_after g) Group4 (record { columns = columns; rows = rows_in 0 changes ends }) (replicate (length ends) 0))
