-- `booking::tests::unclean_row` meets its contract: rows are told from 1. Assumes nothing.
use mathlib.Core.Path.{◌∙◌}
use native.Mathlib.Numerals.{add-one}
use native.Mathlib.Omega.{arith}
use Rattle.booking.proofs.tests.unclean_row.Goals as goal

pub overflow_cast-marks : goal.overflow_cast-marks
overflow_cast-marks c = omega (arith, c.type_inv.marks c.args.y)

pub returns : goal.returns
returns c = c.found.ensures ∙ rw (add-one c.args.y)
