-- Demand 1, the bytes of an answer as 01's table has them: "consumed, rounded up to a byte" with 0, and 0 with every other number; 0 without columns.
-- For one line "the bit after the line" stands in their place; a line that was not read whole has none, and no row and no entries. A call in steps that goes on has none.
use Rattle.std.specs.Prelude.{◌≡◌, Bool, true, List, ℕ, ◌-◌, ◌*◌, ◌≤◌, ◌<◌, length}
use Rattle.rules.specs.Answers.{complete, invalid_code, unexpected_eof, no_entry, more_to_come, most_pixels}
use Rattle.rules.specs.Machine.{more, run}
use Rattle.rules.specs.Bits.{bits_of}
use Rattle.rules.specs.Rows.{Settings, bytes_to, finished}
use Rattle.rules.specs.Pages.{Kept, none_kept, entries, page_step, row_of, strict_if_exact, most_bytes, ascends, places_in}
use Rattle.answer.specs.declared.Answer.{Answer}
use Rattle.settings.specs.declared.DecodeSettings.{DecodeSettings}
use Rattle.settings.specs.Settings.{settings_of}
use Rattle.ccitt.specs.Decode.{Decodes}
use Rattle.one_line.specs.OneLine.{ReadOne}
use Rattle.promises.specs.ByRow.{RowCall, RowReading}
use Rattle.promises.specs.ByUnit.{UnitCall, UnitReading}

-- ---- The page form

-- "consumed, rounded up to a byte": behind its rows the page is found to end at a bit of the data, or at its end
pub record Consumed (S : Settings) (bs : List Bool) (store places rows bytes : ℕ) : Type 0 where
  pub kept : Kept
  pub at : ℕ
  pub reached : run (page_step (row_of S.encoding S bs) store places) rows none_kept ≡ more kept
  pub ends : row_of S.encoding S bs (store - entries kept.rows) kept.state ≡ finished at
  pub inside : at ≤ length bs
  pub rounded : bytes ≡ bytes_to at

pub record PageBytes (bytes : List ℕ) (settings : DecodeSettings) (changes ends marks : List ℕ) (r : Answer) : Type 0 where
  -- 1 to 5 have none, nor have the refusals, nor 14 (A12)
  pub none : (r.number ≡ complete → ⊥) → r.bytes ≡ 0
  -- "Columns 0, once the tests that apply are passed, gives 0, no rows, 0 bytes", and with a refusal there are none either
  pub without_columns : settings.columns ≡ 0 → r.bytes ≡ 0
  -- 0: what was consumed; an exact page is read strictly (A12)
  pub done : r.number ≡ complete → 0 < settings.columns → Consumed (strict_if_exact (settings_of settings)) (bits_of bytes) (length changes) (places_in ends marks) r.rows r.bytes
  -- so they are never more than the data's
  pub most : r.bytes ≤ length bytes

abbrev pub BytesOfPage : Type 0
BytesOfPage =
    (bytes : List ℕ) (settings : DecodeSettings) (changes ends marks : List ℕ) (r : Answer) (changes' ends' marks' : List ℕ)
    → Decodes bytes settings changes ends marks r changes' ends' marks'
    → PageBytes bytes settings changes ends marks r

-- ---- One line

-- 6, 7 and 8 are passed
pub record Passes (bytes : List ℕ) (columns : ℕ) (reference : List ℕ) : Type 0 where
  pub some : columns ≡ 0 → ⊥
  pub narrow : columns ≡ most_pixels → ⊥
  pub short : length bytes ≤ most_bytes
  pub ascending : ascends columns reference ≡ true

pub record LineBytes (bytes : List ℕ) (at columns : ℕ) (reference : List ℕ) (r : Answer) : Type 0 where
  -- 1 to 4: "A line read whole counts as one kept row", and one that is not counts as none
  pub failed : invalid_code ≤ r.number → r.number ≤ no_entry → (r.rows ≡ 0) × (r.entries ≡ 0) × (r.bytes ≡ 0)
  -- "A start past the data is 2", and has read nothing; at the end of the data a line may still be looked for
  pub past : Passes bytes columns reference → 8 * length bytes < at → (r.number ≡ unexpected_eof) × (r.loose ≡ 0)

abbrev pub BytesOfLine : Type 0
BytesOfLine =
    (bytes : List ℕ) (at columns : ℕ) (strict : Bool) (reference changes : List ℕ) (r : Answer) (changes' : List ℕ)
    → ReadOne bytes at columns strict reference changes r changes'
    → LineBytes bytes at columns reference r

-- ---- The forms in steps

-- "A call in steps that is neither refused nor ends the page answers 15, more to come, with bytes 0"; the end has the page form's (`FormsAgree`, `UnitsAgree`)
pub record BytesInSteps : Type 0 where
  pub row_form : (bytes : List ℕ) (settings : DecodeSettings) (c : RowCall) → RowReading bytes settings c
      → c.step.answer.number ≡ more_to_come → c.step.answer.bytes ≡ 0
  pub unit_form : (bytes : List ℕ) (settings : DecodeSettings) (c : UnitCall) → UnitReading bytes settings c
      → c.turn.answer.number ≡ more_to_come → c.turn.answer.bytes ≡ 0
