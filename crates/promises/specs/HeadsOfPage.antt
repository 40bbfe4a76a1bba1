-- `decode`, and then `heads` on what it left, as the desk calls them (02 A11 above A5): a page that was handed over is never refused with 8; heads that are answered
-- are ticked in pixels that the page's lines say, each of them read clean; and a form that we wrote has the heads that it had before.
use Rattle.std.specs.Prelude.{◌≡◌, ◌⊎◌, Bool, true, List, [], ◌∷◌, ℕ, ◌+◌, ◌*◌, ◌≤◌, ◌<◌, ℤ, pos, ◌-ℤ◌, length, get_or, take, replicate}
use Rattle.rules.specs.Answers.{complete, bad_rows, most_pixels}
use Rattle.rules.specs.Bits.{bits_of}
use Rattle.rules.specs.Rows.{Settings, State}
use Rattle.rules.specs.Pages.{most_bytes, entries, strict_if_exact}
use Rattle.rules.specs.Write.{rows_in, write_page}
use Rattle.rules.specs.WriteGroup3.{write_1d}
use Rattle.rules.specs.Damage.{Arrived, own, other}
use Rattle.rules.specs.Marks.{Came, Told}
use Rattle.answer.specs.declared.Answer.{Answer}
use Rattle.settings.specs.declared.DecodeSettings.{DecodeSettings}
use Rattle.settings.specs.Settings.{settings_of}
use Rattle.writer.specs.Outcome as Writer
use Rattle.heads.specs.declared.Box.{Box}
use Rattle.heads.specs.declared.HeadsAnswer.{HeadsAnswer}
use Rattle.promises.specs.Demand3.{Plainly}
use Rattle.promises.specs.Rooms.{Call, rows_of, marks_of, Reading}
use Rattle.promises.specs.BadLines.{Arrival}
use Rattle.promises.specs.Heads.{Asked, Answers, Shaped, Touched, OneEach}

-- What `heads` is asked of a page that a call of `decode` left: the array of changes, the ends of the rows that were kept, and the first of the marks, one for each
-- row or more.
abbrev pub asked_of : DecodeSettings → Call → ℕ → List (List Box) → ℕ → ℤ → Asked
asked_of settings c count form least quota = record {
  columns = settings.columns;
  changes = c.changes';
  ends = take c.answer.rows c.ends';
  marks = take count c.marks';
  form = form;
  least = least;
  quota = quota;
}

-- from any data, with any settings and into any store, whatever `decode` answered
abbrev pub DecodedPagePasses : Type 0
DecodedPagePasses =
    (bytes : List ℕ) (settings : DecodeSettings) (c : Call) → settings.columns ≤ most_pixels → Reading bytes settings c
    → (count : ℕ) → c.answer.rows ≤ count
    → (form : List (List Box)) (least : ℕ) (quota : ℤ) (r : HeadsAnswer) → Shaped form → Answers (asked_of settings c count form least quota) r
    → r.number ≡ bad_rows → ⊥

-- A row as its line says it. Behind the rows before it its line began, under the last of them; and from that line's first bit the page's reader and the strict reader
-- both read this row (`Told`, with the mark 0).
pub record ByItsLine (S : Settings) (bits : List Bool) (rows : List (List ℕ)) (marks : List ℕ) (y : ℕ) : Type 0 where
  pub state : State
  pub behind : Came S bits (take y rows) (take y marks) state
  pub under : state.reference ≡ get_or ([] ∷ rows) y []
  pub room : ℕ
  pub told : Told S.encoding S bits room state (get_or rows y []) 0

-- Heads that are answered: in each column one digit's box is ticked and no other, by the pixels of the page's rows; they are subtracted from the quota; and each row
-- of which a box holds a pixel is as its line says it. (An exact page's reader is strict too.)
pub record Counted (bytes : List ℕ) (settings : DecodeSettings) (c : Call) (asked : Asked) (r : HeadsAnswer) : Type 0 where
  pub tens : ℕ
  pub units : ℕ
  pub one_each : OneEach asked tens units
  pub heads_are : r.heads ≡ 10 * tens + units
  pub left_is : r.left ≡ asked.quota -ℤ pos r.heads
  pub by_lines : (y x : ℕ) → Touched asked y x → ByItsLine (strict_if_exact (settings_of settings)) (bits_of bytes) (rows_of c) (marks_of c) y

abbrev pub HeadsOfPage : Type 0
HeadsOfPage =
    (bytes : List ℕ) (settings : DecodeSettings) (c : Call) → settings.columns ≤ most_pixels → Reading bytes settings c
    → (count : ℕ) → c.answer.rows ≤ count
    → (form : List (List Box)) (least : ℕ) (quota : ℤ) (r : HeadsAnswer) → Shaped form → Answers (asked_of settings c count form least quota) r → r.number ≡ complete
    → Counted bytes settings c (asked_of settings c count form least quota) r

-- A form that `write_page` wrote, read as in demand 3, is answered as the written rows are, each of them clean: the same heads, the same quota left, the same refusal.
abbrev pub WrittenFormKeepsHeads : Type 0
WrittenFormKeepsHeads =
    (columns : ℕ) (changes ends out : List ℕ) (w : Answer) (out' : List ℕ) → columns ≤ most_pixels
    → Writer.Answers (write_page columns changes ends out) out w out' → w.number ≡ complete
    → (bytes : List ℕ) → length bytes ≤ most_bytes → take w.bytes bytes ≡ take w.bytes out'
    → (settings : DecodeSettings) → Plainly columns settings → (settings.rows ≡ 0) ⊎ (settings.rows ≡ length ends)
    → (c : Call) → entries (rows_in 0 changes ends) ≤ length c.changes → length ends ≤ length c.ends → length ends ≤ length c.marks
    → Reading bytes settings c
    → (count : ℕ) → c.answer.rows ≤ count
    → (form : List (List Box)) (least : ℕ) (quota : ℤ) (r s : HeadsAnswer) → Shaped form → Answers (asked_of settings c count form least quota) r
    → Answers (record { columns = columns; changes = changes; ends = ends; marks = replicate (length ends) 0; form = form; least = least; quota = quota }) s
    → r ≡ s

-- ---- A form with bad lines (A13)

-- the lines of a page that was written: each is its row's own, or others
pub record LinesOf (rows : List (List ℕ)) (lines : List Arrived) : Type 0 where
  pub as_many : length lines ≡ length rows
  pub owned : (n : ℕ) (row : List ℕ) → n < length rows → get_or lines n (own []) ≡ own row → get_or rows n [] ≡ row

-- A form that `write_group3_1d` wrote with EOLs and three zeros of fill or more, and of which any lines arrived as other bits: where heads are answered and no box holds a pixel of a row whose line was bad,
-- they are those of the rows that were written, each of them clean. So a bad line changes no heads unless a box touches its row; and there a row that is not marked clean is 13.
abbrev pub BadLinesKeepHeads : Type 0
BadLinesKeepHeads =
    (columns : ℕ) (changes ends out : List ℕ) (fill : ℕ) (w : Answer) (out' : List ℕ) → Writer.Answers (write_1d true fill columns changes ends out) out w out' → w.number ≡ complete
    → (lines : List Arrived) → LinesOf (rows_in 0 changes ends) lines
    → (bytes : List ℕ) (settings : DecodeSettings) (c : Call) → Arrival columns fill lines bytes settings c
    → (count : ℕ) → c.answer.rows ≤ count
    → (form : List (List Box)) (least : ℕ) (quota : ℤ) (r s : HeadsAnswer) → Shaped form → Answers (asked_of settings c count form least quota) r → r.number ≡ complete
    → Answers (record { columns = columns; changes = changes; ends = ends; marks = replicate (length ends) 0; form = form; least = least; quota = quota }) s
    → ((y x : ℕ) → Touched (asked_of settings c count form least quota) y x → (bits : List Bool) → get_or lines y (own []) ≡ other bits → ⊥)
    → r ≡ s
