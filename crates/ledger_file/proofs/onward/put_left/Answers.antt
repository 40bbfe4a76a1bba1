-- `ledger_file::onward::put_left` meets its contract. Assumes nothing.
use Rattle.ledger_file.proofs.Naming.{kept-room, kept-said, passed-room, passed-said}
use native.Mathlib.Omega.{arith}
use mathlib.Core.Path.{sym, ◌∙◌}
use Rattle.ledger_file.proofs.onward.put_left.Goals as goal

pub put_number-requires : goal.put_number-requires
put_number-requires c = passed-room c.args.out.now c.args.b c.size_left-size.result c.size_left-size.ensures (omega (arith, c.size_left-size.type_inv)) c.requires c.put_byte-p.ensures

pub returns-then-is_passed : goal.returns-then-is_passed
returns-then-is_passed c = passed-said c.args.out.now c.args.b c.size_left-size.result c.size_left-size.ensures (omega (arith, c.size_left-size.type_inv)) c.requires c.put_byte-p.ensures (sym c.is_passed.ensures ∙ c.if-is_passed.true) c.put_number.ensures

pub put_number-requires-2 : goal.put_number-requires-2
put_number-requires-2 c = kept-room c.args.out.now c.args.b c.size_left-size.result c.size_left-size.ensures (omega (arith, c.size_left-size.type_inv)) c.requires

pub returns : goal.returns
returns c = kept-said c.args.out.now c.args.b c.size_left-size.result c.size_left-size.ensures (omega (arith, c.size_left-size.type_inv)) c.requires (sym c.is_passed.ensures ∙ c.if-is_passed.false) c.put_number-2.ensures
