-- `writer::kinds::turn` meets its contract. Assumes nothing.
use mathlib.Core.Path.{ap, ◌∙◌}
use Prim.Native.Nat.{◌+◌}
use lib.ListN.{drop}
use Rattle.rules.specs.Bits.{bits_of, front_bit}
use Rattle.writer.specs.Meeting3.{open_turn}
use Rattle.writer.proofs.KindsLaws.{turn-open, turn-known}
use Rattle.writer.proofs.kinds.turn.Goals as goal

pub open_turn-requires : goal.open_turn-requires
open_turn-requires c = c.requires.1 c.if-every-eq0.true

pub returns-then-every-eq0 : goal.returns-then-every-eq0
returns-then-every-eq0 c =
    c.open_turn.ensures ∙ ap (λ b. open_turn b c.args.left) c.tag.ensures ∙ turn-open (front_bit (drop (c.args.at + 12) (bits_of c.args.src.now))) c.args.every c.args.left c.if-every-eq0.true

pub returns : goal.returns
returns c = c.known_turn.ensures ∙ turn-known (front_bit (drop (c.args.at + 12) (bits_of c.args.src.now))) c.args.every c.args.left c.if-every-eq0.false
