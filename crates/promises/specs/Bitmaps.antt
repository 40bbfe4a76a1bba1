-- Pixels in bytes: a page that is read from fax data and painted has the pixels of the rows that the rules read; a bitmap that is read
-- into rows and written has its own
-- pixels when the page is read back; and painting and reading a bitmap undo each other. What bits behind the width hold is said of
-- painting alone: they are white.
-- A statement is about whatever answers and arrays a function's contract permits.
use Rattle.std.specs.Prelude.{◌≡◌, ◌⊎◌, Bool, List, [], ℕ, ◌*◌, ◌≤◌, ◌<◌, length, get_or, take}
use Rattle.rules.specs.Answers.{complete, bad_rows, most_pixels}
use Rattle.rules.specs.Codes.{white}
use Rattle.rules.specs.Pages.{most_bytes, entries, decode}
use Rattle.rules.specs.Pixels.{pixels_of}
use Rattle.rules.specs.Rising.{Rows}
use Rattle.rules.specs.Rows.{bytes_to}
use Rattle.rules.specs.Write.{rows_in, write_page}
use Rattle.answer.specs.declared.Answer.{Answer}
use Rattle.settings.specs.declared.DecodeSettings.{DecodeSettings}
use Rattle.settings.specs.Settings.{settings_of}
use Rattle.writer.specs.Outcome as Writer
use Rattle.bitmap.specs.Packed.{pixels_at, paint, unpaint}
use Rattle.bitmap.specs.Outcome.{Paints, Unpaints}
use Rattle.promises.specs.Demand3.{Plainly}
use Rattle.promises.specs.OneAnswer.{OneWith}
use Rattle.promises.specs.Rooms.{Call, places, rows_of, Reading}
use Rattle.promises.specs.WriteGroup3.{GivesBack}

-- the bytes show these rows: each pixel inside the width is the row's, row y beginning y strides behind the first
abbrev pub Shows : Bool → ℕ → ℕ → List (List ℕ) → List ℕ → Type 0
Shows one columns stride rows bytes = (y x : ℕ) → y < length rows → x < columns → pixels_at one bytes (y * stride) x ≡ pixels_of (get_or rows y []) x

-- behind the width, up to the end of each row's last byte, they show white
abbrev pub WhiteBehind : Bool → ℕ → ℕ → ℕ → List ℕ → Type 0
WhiteBehind one columns stride rows bytes = (y x : ℕ) → y < rows → columns ≤ x → x < 8 * bytes_to columns → pixels_at one bytes (y * stride) x ≡ white

-- ---- Painting

-- a call of `paint`
abbrev pub Painting : Bool → ℕ → ℕ → List ℕ → List ℕ → List ℕ → Answer → List ℕ → Type 0
Painting one columns stride changes ends out r out' = Paints (paint one columns stride changes ends out) r out'

abbrev pub PaintShows : Type 0
PaintShows =
    (one : Bool) (columns stride : ℕ) (changes ends out : List ℕ) (r : Answer) (out' : List ℕ) → Painting one columns stride changes ends
    out r out' → r.number ≡ complete
    → Shows one columns stride (rows_in 0 changes ends) out' × WhiteBehind one columns stride (length ends) out' × (length out' ≡ length out)

-- From fax bytes to pixels: what a call of `decode` left, with any settings and whatever it answered, is no store that `paint` refuses;
-- and it shows the rows that the rules read.
abbrev pub DecodedShows : Type 0
DecodedShows =
    (bytes : List ℕ) (settings : DecodeSettings) (c : Call) → settings.columns ≤ most_pixels → Reading bytes settings c
    → (one : Bool) (stride : ℕ) (out : List ℕ) (r : Answer) (out' : List ℕ)
    → Painting one settings.columns stride c.changes' (take c.answer.rows c.ends') out r out'
    → (r.number ≡ bad_rows → ⊥)
    ×
    (r.number ≡ complete → Shows one settings.columns stride (decode (settings_of settings) bytes (length c.changes) (places c)).rows out')

-- ---- Reading a bitmap

-- a call of `unpaint`: so many rows, out of bytes, into a store
abbrev pub Unpainting : Bool → ℕ → ℕ → ℕ → List ℕ → List ℕ → List ℕ → Answer → List ℕ → List ℕ → Type 0
Unpainting one columns stride rows bytes changes ends r changes' ends' =
    Unpaints (unpaint one columns stride rows bytes (length changes) (length ends)) changes ends r changes' ends'

-- The rows that lie in the store then are as many as were asked for, ascend strictly below the width, and are those that the bytes show.
abbrev pub UnpaintShows : Type 0
UnpaintShows =
    (one : Bool) (columns stride rows : ℕ) (bytes changes ends : List ℕ) (r : Answer) (changes' ends' : List ℕ)
    → Unpainting one columns stride rows bytes changes ends r changes' ends' → r.number ≡ complete
    → (r.rows ≡ rows) × (length (rows_in 0 changes' (take rows ends')) ≡ rows) × Rows columns (rows_in 0 changes' (take rows ends'))
    × Shows one columns stride (rows_in 0 changes' (take rows ends')) bytes

-- From pixels to fax bytes, and back: a bitmap that was read into rows, which `write_page` wrote, shows the rows that `decode` reads out
-- of what was written.
abbrev pub WrittenShows : Type 0
WrittenShows =
    (one : Bool) (columns stride rows : ℕ) (bitmap changes ends : List ℕ) (r : Answer) (changes' ends' : List ℕ)
    → Unpainting one columns stride rows bitmap changes ends r changes' ends' → r.number ≡ complete
    → (out : List ℕ) (w : Answer) (out' : List ℕ) → columns ≤ most_pixels
    → Writer.Answers (write_page columns changes' (take rows ends') out) out w out' → w.number ≡ complete
    → (bytes : List ℕ) → length bytes ≤ most_bytes → take w.bytes bytes ≡ take w.bytes out'
    → (settings : DecodeSettings) → Plainly columns settings → (settings.rows ≡ 0) ⊎ (settings.rows ≡ rows)
    → (c : Call) → r.entries ≤ length c.changes → rows ≤ length c.ends → rows ≤ length c.marks → Reading bytes settings c
    → (c.answer.number ≡ complete) × (length (rows_of c) ≡ rows) × Shows one columns stride (rows_of c) bitmap

-- The same of both Group 3 writers, of which `Written1DReadsBack`, `Written2DReadsBack` and what they say of zero bytes behind a page give back the rows.
abbrev pub GivenBackShows : Type 0
GivenBackShows =
    (one : Bool) (columns stride rows : ℕ) (bitmap changes ends : List ℕ) (r : Answer) (changes' ends' : List ℕ)
    → Unpainting one columns stride rows bitmap changes ends r changes' ends' → r.number ≡ complete
    → (w : Answer) (bytes : List ℕ) (settings : DecodeSettings) → GivesBack changes' (take rows ends') w settings bytes
    → (c : Call) → r.entries ≤ length c.changes → rows ≤ length c.ends → rows ≤ length c.marks → Reading bytes settings c
    → (c.answer.number ≡ complete) × (length (rows_of c) ≡ rows) × Shows one columns stride (rows_of c) bitmap

-- ---- Each undoes the other

-- rows that are painted are read back, given room for them
abbrev pub PaintedReadsBack : Type 0
PaintedReadsBack =
    (one : Bool) (columns stride : ℕ) (changes ends out : List ℕ) (r : Answer) (out' : List ℕ) → Painting one columns stride changes ends
    out r out' → r.number ≡ complete
    → (store places : List ℕ) (s : Answer) (store' places' : List ℕ) → entries (rows_in 0 changes ends) ≤ length store → length ends ≤
    length places
    → Unpainting one columns stride (length ends) out' store places s store' places'
    → (s.number ≡ complete) × (rows_in 0 store' (take (length ends) places') ≡ rows_in 0 changes ends)

-- and a bitmap that is read is painted again, in either choice of black and with any stride: each bit inside the width stands for the
-- same pixel
abbrev pub ReadPaintsBack : Type 0
ReadPaintsBack =
    (one : Bool) (columns stride rows : ℕ) (bytes changes ends : List ℕ) (r : Answer) (changes' ends' : List ℕ)
    → Unpainting one columns stride rows bytes changes ends r changes' ends' → r.number ≡ complete
    → (other : Bool) (step : ℕ) (out : List ℕ) (s : Answer) (out' : List ℕ) → Painting other columns step changes' (take rows ends') out s
    out' → s.number ≡ complete
    → (y x : ℕ) → y < rows → x < columns → pixels_at other out' (y * step) x ≡ pixels_at one bytes (y * stride) x

-- ---- Pinned down

abbrev pub PaintPinned : Type 0
PaintPinned = (one : Bool) (columns stride : ℕ) (changes ends out : List ℕ) → OneWith (Painting one columns stride changes ends out)

abbrev pub UnpaintPinned : Type 0
UnpaintPinned =
    (one : Bool) (columns stride rows : ℕ) (bytes changes ends : List ℕ) (r s : Answer) (xs ys es fs : List ℕ)
    → Unpainting one columns stride rows bytes changes ends r xs es → Unpainting one columns stride rows bytes changes ends s ys fs
    → (r ≡ s) × (xs ≡ ys) × (es ≡ fs)
