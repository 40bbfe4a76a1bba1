-- `bit_reader::buffer::feed` meets its contract: up to the limit a shift takes bits off the buffer. Assumes nothing.
use mathlib.Core.Path.{refl}
use native.Mathlib.Omega.{arith}
use Rattle.bit_reader.proofs.Window.{fed}
use Rattle.bit_reader.proofs.buffer.feed.Goals as goal

pub returns-then-next-b : goal.returns-then-next-b
returns-then-next-b c =
    record { place = refl; loaded = fed c.args.n c.requires.loaded (omega arith) (omega arith) }
