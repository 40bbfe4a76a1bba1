-- The unit form's state as the sixteen numbers that C lends. Of an open page: what comes next (0 an EOL or a line, 1 a mode code, 2 and 3 a code of a horizontal code's first
-- and second run), the next bit, the EOLs before the next line, the rows kept, the line's position, colour, changes and cut flag, the run's sum and its first bit, the
-- mode code's bit, whether the first run moved nothing, and four zeros. Of one that has ended: its rows and loose entries at their places, and in the place of the four
-- zeros one more than the number it ended with, its entries, bytes and place; the others are zero. All are zero at a page's start.
use Rattle.std.specs.Prelude.{◌≡◌, ◌⊎◌, cond, List, [], ◌∷◌, ℕ, ◌+◌, ◌≤◌, eqb, length, Option, Some, None}
use Rattle.rules.specs.InSteps.{says_only}
use Rattle.settings.specs.declared.DecodeSettings.{DecodeSettings}
use Rattle.by_unit.specs.declared.Phase.{Phase}
use Rattle.by_unit.specs.declared.Saved.{Saved}
use Rattle.by_unit.specs.declared.PageEnd.{PageEnd}
use Rattle.by_unit.specs.declared.EndCounts.{EndCounts}
use Rattle.by_unit.specs.declared.Reading.{Reading}
use Rattle.by_unit.specs.declared.Reading.TheVariants.{Open, Ended}
use Rattle.by_unit.specs.declared.Turn.{Turn}
use Rattle.by_unit.specs.Standing.{answer_of}
use Rattle.by_unit.specs.Reading.{said_of, ReadsUnits}
use Rattle.exports.specs.declared.UnitAnswer.{UnitAnswer}
use Rattle.exports.specs.declared.row_state.EndNumbers.{EndNumbers}
use Rattle.exports.specs.RowState as Row
use Rattle.exports.specs.RowState.{flag_number, unfit}

-- ---- The numbers

abbrev pub phase_number : Phase → ℕ
phase_number Phase.Eols = 0
phase_number Phase.Mode = 1
phase_number Phase.First = 2
phase_number Phase.Second = 3

-- one more than the number that the page ended with; its place, bytes and loose entries, which are 0 where 01 allows that number none
abbrev pub end_numbers : PageEnd → EndNumbers
end_numbers e =
    let s = said_of e (record { rows = 0; entries = 0 }) in
    Row.ended_numbers (s.number + 1) s.place s.bytes s.loose

-- the end that numbers would be, if they are some end's
abbrev pub end_from : EndNumbers → PageEnd
end_from n =
    cond (eqb n.number 1) (PageEnd.Done n.bytes)
    (cond (eqb n.number 2) (PageEnd.InvalidCode n.place n.loose)
    (cond (eqb n.number 3) (PageEnd.UnexpectedEof n.place n.loose)
    (cond (eqb n.number 4) (PageEnd.Overflow n.place n.loose) (cond (eqb n.number 5) (PageEnd.NoEntry n.loose) (cond (eqb n.number 6) (PageEnd.NoRowEnd n.loose) PageEnd.Short)))))

abbrev pub open_numbers : Saved → List ℕ
open_numbers s =
    phase_number s.phase ∷ s.at ∷ s.eols ∷ s.rows ∷ s.position ∷ flag_number s.black ∷ s.loose ∷ flag_number s.cut
    ∷ s.run ∷ s.run_at ∷ s.mode_at ∷ flag_number s.blank ∷ 0 ∷ 0 ∷ 0 ∷ 0 ∷ []

abbrev pub ended_numbers : PageEnd → EndCounts → List ℕ
ended_numbers e c =
    0 ∷ 0 ∷ 0 ∷ c.rows ∷ 0 ∷ 0 ∷ (end_numbers e).loose ∷ 0
    ∷ 0 ∷ 0 ∷ 0 ∷ 0 ∷ (end_numbers e).number ∷ c.entries ∷ (end_numbers e).bytes ∷ (end_numbers e).place ∷ []

abbrev pub numbers_of : Reading → List ℕ
numbers_of (Open s) = open_numbers s
numbers_of (Ended e c) = ended_numbers e c

-- a position and a sum have 32 bits
abbrev pub Wordy : Reading → Type 0
Wordy (Open s) = (s.position ≤ 4294967295) × (s.run ≤ 4294967295)
Wordy (Ended e c) = Unit {0}

-- Numbers are told to be those of a reading, or those that none has. So an end that no page has is none: a number off the list, or one with a count that 01 never
-- gives it, as 0 with a place or 1 with bytes.
abbrev pub EndTold : ℕ → ℕ → ℕ → ℕ → Option PageEnd → Type 0
EndTold number place bytes loose (Some e) = end_numbers e ≡ Row.ended_numbers number place bytes loose
EndTold number place bytes loose None = (e : PageEnd) → end_numbers e ≡ Row.ended_numbers number place bytes loose → ⊥

abbrev pub ReadingTold : List ℕ → Option Reading → Type 0
ReadingTold numbers (Some r) = Wordy r × (numbers_of r ≡ numbers)
ReadingTold numbers None = (r : Reading) → Wordy r → numbers_of r ≡ numbers → ⊥

-- ---- The call

-- the unit form's call from the reading that the numbers are
pub record Called (bytes : List ℕ) (settings : DecodeSettings) (xs es ms numbers : List ℕ) (n : ℕ) (r : UnitAnswer) (ys fs ns numbers' : List ℕ) : Type 0 where
  pub reading : Reading
  pub wordy : Wordy reading
  pub is : numbers_of reading ≡ numbers
  pub turn : Turn
  pub reads : ReadsUnits bytes settings xs es ms reading n turn ys fs ns
  pub answer : r.answer ≡ turn.answer
  pub units : r.units ≡ turn.units
  pub handed_back : numbers' ≡ numbers_of turn.reading

-- 8 where there is none: "another length, or numbers that no state has"; 10, 6 and 7 come first, and everything stays as found
abbrev pub unfit_for : ℕ → ℕ → ℕ → ℕ
unfit_for n columns size = cond (eqb n 0) 10 (unfit columns size)

pub record Unfit (bytes : List ℕ) (settings : DecodeSettings) (xs es ms numbers : List ℕ) (n : ℕ) (r : UnitAnswer) (ys fs ns numbers' : List ℕ) : Type 0 where
  pub none : (reading : Reading) → Wordy reading → numbers_of reading ≡ numbers → ⊥
  pub answer : r.answer ≡ answer_of (says_only (unfit_for n settings.columns (length bytes)))
  pub units : r.units ≡ 0
  pub same_changes : ys ≡ xs
  pub same_ends : fs ≡ es
  pub same_marks : ns ≡ ms
  pub same_numbers : numbers' ≡ numbers

abbrev pub ReadsUnitsForC : List ℕ → DecodeSettings → List ℕ → List ℕ → List ℕ → List ℕ → ℕ → UnitAnswer → List ℕ → List ℕ → List ℕ → List ℕ → Type 0
ReadsUnitsForC bytes settings xs es ms numbers n r ys fs ns numbers' =
    Called bytes settings xs es ms numbers n r ys fs ns numbers' ⊎ Unfit bytes settings xs es ms numbers n r ys fs ns numbers'
