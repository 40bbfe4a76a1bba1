-- What a form in steps says at a page's end beside the number (01's list; A7), whatever state the call was handed: a state can hold no end but one that 01 allows, so that no other, as 0 with a
-- place or 1 with bytes, can be repeated.
use Rattle.std.specs.Prelude.{ℕ, ◌<◌, List}
use Rattle.settings.specs.declared.DecodeSettings.{DecodeSettings}
use Rattle.settings.specs.Ends.{Allowed}
use Rattle.by_row.specs.ByRow as Row
use Rattle.by_unit.specs.Reading as Unit
use Rattle.promises.specs.ByRow.{RowCall, RowReading}
use Rattle.promises.specs.ByUnit.{UnitCall, UnitReading}

-- bytes with 0 alone, a place with 1, 2 and 3 alone, and no loose entries with 0 and 14
abbrev pub RowEndsAllowed : Type 0
RowEndsAllowed =
    (bytes : List ℕ) (settings : DecodeSettings) (c : RowCall) → RowReading bytes settings c
    → let a = c.step.answer in
    Row.Ending a.number → Allowed a.number a.place a.bytes a.loose

abbrev pub UnitEndsAllowed : Type 0
UnitEndsAllowed =
    (bytes : List ℕ) (settings : DecodeSettings) (c : UnitCall) → UnitReading bytes settings c → 0 < c.n
    → let a = c.turn.answer in
    Unit.Ending a.number → Allowed a.number a.place a.bytes a.loose
