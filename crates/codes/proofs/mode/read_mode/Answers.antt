-- `codes::mode::read_mode` meets its contract: the next 32 bits, and the mode by them. Assumes nothing.
use Rattle.codes.proofs.mode.read_mode.Goals as goal

pub returns : goal.returns
returns g c = c.by_zeros.ensures
