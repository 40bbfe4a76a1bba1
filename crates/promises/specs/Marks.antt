-- A5: each kept row has a mark beside its end, 0 read clean, 1 cut to width, 2 recovered; a page that is read strictly has clean rows only, and so has what our
-- writers wrote; and what a mark is worth: a row marked clean is the one that the strict reader reads there, and one marked cut or recovered is not.
use Rattle.std.specs.Prelude.{◌≡◌, ◌⊎◌, Bool, true, false, List, ◌++◌, ℕ, ◌≤◌, ◌<◌, length, get_or, take, drop}
use Rattle.rules.specs.Answers.{complete, invalid_code, most_pixels}
use Rattle.rules.specs.Bits.{bits_of}
use Rattle.rules.specs.Lines.{two}
use Rattle.rules.specs.Rows.{State}
use Rattle.rules.specs.Pages.{most_bytes, entries, strict_if_exact}
use Rattle.rules.specs.Write.{line_bits, rows_in, write_page}
use Rattle.rules.specs.Rising.{Rising}
use Rattle.rules.specs.Marks.{Came}
use Rattle.answer.specs.declared.Answer.{Answer}
use Rattle.settings.specs.declared.DecodeSettings.{DecodeSettings}
use Rattle.settings.specs.Settings.{settings_of}
use Rattle.one_line.specs.OneLine.{ReadOne}
use Rattle.writer.specs.Outcome.{Answers}
use Rattle.ccitt.specs.Decode.{Decodes}
use Rattle.promises.specs.Demand3.{Plainly}

-- ---- The page form

-- every kept row is marked, and clean where the page is read strictly, or exactly (A12)
abbrev pub DecodeMarks : Type 0
DecodeMarks =
    (bytes : List ℕ) (settings : DecodeSettings) (changes ends marks : List ℕ) (r : Answer) (changes' ends' marks' : List ℕ)
    → Decodes bytes settings changes ends marks r changes' ends' marks'
    → (n : ℕ) → n < r.rows
    → (get_or marks' n 0 ≤ 2) × (settings.strict ≡ true → get_or marks' n 0 ≡ 0) × (settings.exact ≡ true → get_or marks' n 0 ≡ 0)

-- How the rows in the store came, each with its mark: of every one it is told at which bit its line began, under the row before it, and what the page's reader
-- and the strict reader read from there (`Came`, and `Told` in it). Clean: both read this row and take the same bits. Cut: the strict reader answers 1.
-- Recovered: neither reads a line. An exact page's reader is strict too.
abbrev pub MarksTell : Type 0
MarksTell =
    (bytes : List ℕ) (settings : DecodeSettings) (changes ends marks : List ℕ) (r : Answer) (changes' ends' marks' : List ℕ)
    → Decodes bytes settings changes ends marks r changes' ends' marks'
    → (st : State) × Came (strict_if_exact (settings_of settings)) (bits_of bytes) (rows_in 0 changes' (take r.rows ends')) (take r.rows marks') st

-- what `write_page` wrote is read back clean, strict or not
abbrev pub WrittenPageIsClean : Type 0
WrittenPageIsClean =
    (columns : ℕ) (changes ends out : List ℕ) (w : Answer) (out' : List ℕ) → columns ≤ most_pixels
    → Answers (write_page columns changes ends out) out w out' → w.number ≡ complete
    → (bytes : List ℕ) → length bytes ≤ most_bytes → take w.bytes bytes ≡ take w.bytes out'
    → (settings : DecodeSettings) → Plainly columns settings → (settings.rows ≡ 0) ⊎ (settings.rows ≡ length ends)
    → (store places marks : List ℕ) (r : Answer) (store' places' marks' : List ℕ) → entries (rows_in 0 changes ends) ≤ length store → length ends ≤ length places → length ends ≤ length marks
    → Decodes bytes settings store places marks r store' places' marks'
    → (n : ℕ) → n < r.rows → get_or marks' n 0 ≡ 0

-- ---- One line

-- a line read alone is never recovered; it has a mark other than 0 only where it was read, and leniently
abbrev pub ReadLineMarks : Type 0
ReadLineMarks =
    (bytes : List ℕ) (at columns : ℕ) (strict : Bool) (reference changes : List ℕ) (r : Answer) (changes' : List ℕ)
    → ReadOne bytes at columns strict reference changes r changes'
    → (r.mark ≤ 1) × (r.mark ≡ 1 → r.number ≡ complete) × (strict ≡ true → r.mark ≡ 0)

-- the same line read leniently and strictly: clean, the answers and the arrays are one; cut, the strict one is 1
abbrev pub LineMarkTells : Type 0
LineMarkTells =
    (bytes : List ℕ) (at columns : ℕ) (reference changes : List ℕ) (r s : Answer) (changes' changes'' : List ℕ)
    → ReadOne bytes at columns false reference changes r changes'
    → ReadOne bytes at columns true reference changes s changes''
    → r.number ≡ complete
    → (r.mark ≡ 0 → (s ≡ r) × (changes'' ≡ changes')) × (r.mark ≡ 1 → s.number ≡ invalid_code)

-- a written line is read back clean, strict or not, whatever stands around it
abbrev pub WrittenLineIsClean : Type 0
WrittenLineIsClean =
    (columns : ℕ) (reference row : List ℕ) → 0 < columns → columns < most_pixels → Rising columns 0 reference → Rising columns 0 row
    → (bytes : List ℕ) (at : ℕ) (rest : List Bool) → length bytes ≤ most_bytes → drop at (bits_of bytes) ≡ line_bits columns (two reference) row ++ rest
    → (strict : Bool) (changes : List ℕ) (r : Answer) (changes' : List ℕ) → length row ≤ length changes
    → ReadOne bytes at columns strict reference changes r changes'
    → r.mark ≡ 0
