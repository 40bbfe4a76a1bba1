-- `booking::reading::read_as` meets its contract: one arm for each number. Assumes nothing.
use mathlib.Core.Path.{◌∙◌}
use Rattle.booking.proofs.Readings.{by-desk, leniently, strictly}
use Rattle.booking.proofs.reading.read_as.Goals as goal

pub returns-then-how-eq-AS_THE_DESK : goal.returns-then-how-eq-AS_THE_DESK
returns-then-how-eq-AS_THE_DESK c = let s = c.args in c.reading.ensures ∙ by-desk s.form s.settings s.how _ c.columns_for-columns.ensures _ c.by_lines-exact.ensures c.if-how-eq-AS_THE_DESK.true

pub returns-then-how-eq-LENIENTLY : goal.returns-then-how-eq-LENIENTLY
returns-then-how-eq-LENIENTLY c = let s = c.args in c.reading-then-how-eq-LENIENTLY.ensures ∙ leniently s.form s.settings s.how _ c.columns_for-columns.ensures c.if-how-eq-AS_THE_DESK.false c.if-how-eq-LENIENTLY.true

pub returns : goal.returns
returns c = let s = c.args in c.reading-2.ensures ∙ strictly s.form s.settings s.how _ c.columns_for-columns.ensures c.if-how-eq-AS_THE_DESK.false c.if-how-eq-LENIENTLY.false
