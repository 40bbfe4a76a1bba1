-- A13, carried on to a page that is cut: of a page by `write_group3_1d` with EOLs, cut after any byte, `decode` gives its own first rows, and the row in which the cut fell is marked, or the answer says
-- so. Only a cut between two lines, where no row is cut, is told by the number of rows alone; read exactly with the true number of rows, it is 14.
use Rattle.std.specs.Prelude.{◌≡◌, true, List, ◌⊎◌, ℕ, ◌≤◌, length, take}
use Rattle.rules.specs.Answers.{complete, most_pixels}
use Rattle.rules.specs.Bits.{bits_of}
use Rattle.rules.specs.Write.{rows_in}
use Rattle.rules.specs.WriteGroup3.{write_1d}
use Rattle.rules.specs.Cut.{CutTold}
use Rattle.answer.specs.declared.Answer.{Answer}
use Rattle.settings.specs.declared.DecodeSettings.{DecodeSettings}
use Rattle.settings.specs.declared.EncodingMode.TheVariants.{Group3_1D}
use Rattle.writer.specs.Outcome.{Answers}
use Rattle.promises.specs.Rooms.{Call, rows_of, marks_of, Reading}

-- `rows` is the true number, or 0. Nothing is said of the other settings: strict, lenient or exact, with either end_of_block, end_of_line and alignment.
pub record ForCut (columns rows : ℕ) (settings : DecodeSettings) : Type 0 where
  pub same_columns : settings.columns ≡ columns
  pub group_3 : settings.encoding ≡ Group3_1D
  pub counted : (settings.rows ≡ 0) ⊎ (settings.rows ≡ rows)

-- With any fill and any room (`CutTold`). Cut behind its last byte it is the page whole.
abbrev pub CutIsTold : Type 0
CutIsTold =
    (columns : ℕ) (changes ends out : List ℕ) (fill : ℕ) (w : Answer) (out' : List ℕ) → columns ≤ most_pixels
    → Answers (write_1d true fill columns changes ends out) out w out' → w.number ≡ complete
    → (cut : ℕ) (settings : DecodeSettings) → ForCut columns (length ends) settings
    → (c : Call) → Reading (take cut (take w.bytes out')) settings c
    → CutTold columns fill (rows_in 0 changes ends) (bits_of (take cut (take w.bytes out'))) c.answer.number (rows_of c) (marks_of c)

-- So with exact and the true number of rows nothing is left untold: 0 is answered only where all rows are there.
abbrev pub ExactTellsEveryCut : Type 0
ExactTellsEveryCut =
    (columns : ℕ) (changes ends out : List ℕ) (fill : ℕ) (w : Answer) (out' : List ℕ) → columns ≤ most_pixels
    → Answers (write_1d true fill columns changes ends out) out w out' → w.number ≡ complete
    → (cut : ℕ) (settings : DecodeSettings) → ForCut columns (length ends) settings → settings.exact ≡ true → settings.rows ≡ length ends
    → (c : Call) → Reading (take cut (take w.bytes out')) settings c
    → c.answer.number ≡ complete → rows_of c ≡ rows_in 0 changes ends
