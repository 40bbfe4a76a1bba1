-- `look::bmp::head_of` meets its contract. Assumes nothing.
use Rattle.look.specs.Bitmap.{head_of}
use Rattle.look.proofs.bmp.head_of.Goals as goal

pub returns : goal.returns
unfolding head_of
returns c = cc
