-- `booking::reading::columns_for` meets its contract: the form's columns, or the settings'. Assumes nothing.
use Rattle.booking.proofs.Readings.{without_columns, own-columns}
use Rattle.booking.proofs.reading.columns_for.Goals as goal

pub returns-then-settings-eq0 : goal.returns-then-settings-eq0
returns-then-settings-eq0 c = without_columns c.args.form c.args.settings c.if-settings-eq0.true

pub returns : goal.returns
returns c = own-columns c.args.form c.args.settings c.if-settings-eq0.false
