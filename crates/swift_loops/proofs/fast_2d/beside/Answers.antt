-- The code of a pixel beside b1, where the bits show it.
use mathlib.Core.Path.{refl}
use Rattle.swift_loops.proofs.Beside.{turned-asks, one-zero, one-sided, one-read}
use Rattle.swift_loops.proofs.fast_2d.beside.Goals as goal

pub returns-then-rest-ne1 : goal.returns-then-rest-ne1
returns-then-rest-ne1 c = record { took = λ bytes live h k. refl; turned = tt }

pub returns-then-b1-s : goal.returns-then-b1-s
returns-then-b1-s c = record { took = λ bytes live h k. refl; turned = tt }

pub vertical-requires : goal.vertical-requires
vertical-requires c =
    one-sided _ _ c.bit_of.ensures (turned-asks c.requires.0 c.requires.1 c.change_or-b1.ensures c.if-b1-s.false)

pub returns : goal.returns
returns c =
    record {
      took = λ bytes live h k. c.vertical.ensures.0 bytes (one-read _ _ c.bit_of.ensures h k (one-zero _ c.if-rest-ne1.false));
      turned = c.vertical.ensures.1;
    }
