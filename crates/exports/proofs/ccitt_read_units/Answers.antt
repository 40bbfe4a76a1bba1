-- `exports::ccitt_read_units` meets its contract: the numbers are a reading's or none's. Assumes nothing.
use mathlib.Core.Path.{sym, ap, ◌∙◌, subst}
use mathlib.Core.Bool.{false}
use lib.ListN.{length}
use Rattle.settings.specs.declared.EncodingMode.TheVariants.{Group4}
use Rattle.exports.specs.Exports.{settings_for}
use Rattle.exports.specs.UnitState.{ReadingTold}
use Rattle.exports.proofs.UnitState.{sixteen, no-reading, called}
use Rattle.exports.proofs.ccitt_read_units.Goals as goal

pub put-requires : goal.put-requires
put-requires c =
    sym (ap length (subst (ReadingTold c.args.state.now) c.in-Some.is c.reading_in.ensures).1) ∙ sixteen c.in-Some.reading

pub returns-in-None : goal.returns-in-None
returns-in-None c =
    let a = c.args in
    no-reading a.src.now (settings_for a.columns a.rows a.end_of_block false a.rows_are_byte_aligned Group4 a.strict a.exact a.plain) a.changes.now a.ends.now a.marks.now a.state.now a.n
    (subst (ReadingTold a.state.now) c.in-None.is c.reading_in.ensures) _ c.no_reading.ensures.0 c.no_reading.ensures.1

pub returns-in-Some : goal.returns-in-Some
returns-in-Some c =
    let a = c.args in
    let told = subst (ReadingTold a.state.now) c.in-Some.is c.reading_in.ensures in
    called a.src.now (settings_for a.columns a.rows a.end_of_block false a.rows_are_byte_aligned Group4 a.strict a.exact a.plain) a.changes.now a.ends.now a.marks.now a.state.now a.n
    c.in-Some.reading told.0 told.1 c.read_units-turn.result _ _ _ c.read_units-turn.ensures _ c.put.ensures
