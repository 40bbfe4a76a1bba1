-- A7, "for other answers it is 0": the place of a refusal, and of a call in steps that goes on, in every form whose answer has a place. `heads` answers without one.
use Rattle.std.specs.Prelude.{◌≡◌, ◌⊎◌, Bool, List, ℕ, ◌≤◌}
use Rattle.rules.specs.Answers.{bad_width, bad_number, mended_row, more_to_come}
use Rattle.rules.specs.Write.{Written}
use Rattle.answer.specs.declared.Answer.{Answer}
use Rattle.settings.specs.declared.DecodeSettings.{DecodeSettings}
use Rattle.ccitt.specs.Decode.{Decodes}
use Rattle.one_line.specs.OneLine.{ReadOne}
use Rattle.writer.specs.Outcome.{Answers}
use Rattle.exports.specs.RowState.{ReadsRowForC}
use Rattle.exports.specs.UnitState.{ReadsUnitsForC}
use Rattle.exports.specs.declared.UnitAnswer.{UnitAnswer}
use Rattle.promises.specs.ByRow.{RowCall, RowReading}
use Rattle.promises.specs.ByUnit.{UnitCall, UnitReading}

-- 6 to 9, which "leave everything as found and give zero counts", and the "later numbers" that do so too: 10, and 11 to 13, which are those of `heads`
abbrev pub Refusal : ℕ → Type 0
Refusal n = (bad_width ≤ n) × (n ≤ mended_row)

-- neither done, nor at fault
abbrev pub NamesNone : Answer → Type 0
NamesNone r = (Refusal r.number ⊎ (r.number ≡ more_to_come)) → r.place ≡ 0

-- Whatever each form is called on. The writers have one kind of contract; of the functions for C only the forms in steps have contracts of their own.
pub record RefusalPlaces : Type 0 where
  pub page : (bytes : List ℕ) (settings : DecodeSettings) (changes ends marks : List ℕ) (r : Answer) (changes' ends' marks' : List ℕ)
      → Decodes bytes settings changes ends marks r changes' ends' marks' → NamesNone r
  pub line : (bytes : List ℕ) (at columns : ℕ) (strict : Bool) (reference changes : List ℕ) (r : Answer) (changes' : List ℕ)
      → ReadOne bytes at columns strict reference changes r changes' → NamesNone r
  pub row_form : (bytes : List ℕ) (settings : DecodeSettings) (c : RowCall) → RowReading bytes settings c → NamesNone c.step.answer
  pub unit_form : (bytes : List ℕ) (settings : DecodeSettings) (c : UnitCall) → UnitReading bytes settings c → NamesNone c.turn.answer
  pub c_row : (bytes : List ℕ) (settings : DecodeSettings) (encoding : ℕ) (state first second : List ℕ) (r : Answer) (state' first' second' : List ℕ)
      → ReadsRowForC bytes settings encoding state first second r state' first' second' → NamesNone r
  pub c_units : (bytes : List ℕ) (settings : DecodeSettings) (changes ends marks state : List ℕ) (n : ℕ) (r : UnitAnswer) (changes' ends' marks' state' : List ℕ)
      → ReadsUnitsForC bytes settings changes ends marks state n r changes' ends' marks' state' → NamesNone r.answer
  pub writers : (w : Written) (out : List ℕ) (r : Answer) (out' : List ℕ) → Answers w out r out' → NamesNone r

-- "Later numbers give zero counts": so does the unit form's 10 (A9), as the refusals from 6 to 9 of every form do (`Refused`, `LineRefused`, `Left`, `WriteListed`).
abbrev pub TenCountsNothing : Type 0
TenCountsNothing =
    (bytes : List ℕ) (settings : DecodeSettings) (c : UnitCall) → UnitReading bytes settings c → c.turn.answer.number ≡ bad_number
    → (c.turn.answer.rows ≡ 0) × (c.turn.answer.entries ≡ 0) × (c.turn.answer.loose ≡ 0) × (c.turn.answer.bytes ≡ 0)
