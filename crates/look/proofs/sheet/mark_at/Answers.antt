-- `look::sheet::mark_at` meets its contract. Assumes nothing.
use lib.ListN.{get_or-eq_default}
use mathlib.Core.Path.{sym}
use Rattle.look.proofs.sheet.mark_at.Goals as goal

pub returns-else-y-marks : goal.returns-else-y-marks
returns-else-y-marks c = sym (get_or-eq_default c.args.marks.now 0 c.if-y-marks.false)
