-- `bit_reader::at_end` meets its contract: bytes are compared in place of bits. Assumes nothing.
use mathlib.Core.Path.{ap, ◌∙◌}
use lib.Dec.{leb}
use Rattle.bit_reader.proofs.Cursor.{past_bytes}
use Rattle.bit_reader.proofs.at_end.Goals as goal

pub returns : goal.returns
returns c = ap (leb c.args.len) c.byte_pos.ensures ∙ past_bytes c.args.len c.args.at
