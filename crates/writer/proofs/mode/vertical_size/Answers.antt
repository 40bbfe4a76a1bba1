-- `writer::mode::vertical_size` meets its contract. By the cases of `vertical_size`. Assumes nothing.
use native.Mathlib.Omega.{arith}
use Rattle.writer.proofs.ModeCodes.{size-most}
use Rattle.writer.proofs.mode.vertical_size.Goals as goal

pub returns-in-3-to-4294967295 : goal.returns-in-3-to-4294967295
returns-in-3-to-4294967295 c = size-most c.args.distance (omega arith)
