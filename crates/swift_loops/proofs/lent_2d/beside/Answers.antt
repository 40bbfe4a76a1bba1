-- The code of a pixel beside b1, where the bits show it.
use Rattle.swift_loops.proofs.Beside.{turned-asks, one-zero, one-sided, one-read}
use Rattle.swift_loops.proofs.lent_2d.beside.Goals as goal

pub vertical-requires : goal.vertical-requires
vertical-requires c =
    one-sided _ _ c.bit_of.ensures (turned-asks c.requires.0 c.requires.1 c.change_or-b1.ensures c.if-b1-s.false)

pub returns : goal.returns
returns c =
    record {
      took = λ bytes live h k. c.vertical.ensures.0 bytes
          (one-read _ _ c.bit_of.ensures h k (one-zero _ c.if-rest-ne1.false));
      turned = c.vertical.ensures.1;
    }
