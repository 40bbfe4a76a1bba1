-- `bitmap::pixels::turned` meets its contract. Flat bits are turned against ones. Assumes nothing.
use Rattle.bitmap.proofs.Packing.{turned-flat}
use Rattle.bitmap.proofs.pixels.turned.Goals as goal

pub returns : goal.returns
returns c = turned-flat c.args.black c.args.bits c.args.at c.requires.0 c.requires.1
