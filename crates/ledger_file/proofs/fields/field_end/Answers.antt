-- `ledger_file::fields::field_end` meets its contract. The invariant: no tab stands in what was passed. Assumes nothing.
use mathlib.Core.Path.{◌≡◌, subst}
use native.Mathlib.Omega.{arith}
use lib.ListN.{length}
use Rattle.ledger_file.specs.Fields.{FieldTo}
use Rattle.listing_text.proofs.Piecing.{passed_none, passed-next, piece-last, piece-ends}
use Rattle.ledger_file.proofs.Fielding.{field-to}
use Rattle.ledger_file.proofs.fields.field_end.Goals as goal

pub loop-i-init : goal.loop-i-init
loop-i-init c = passed_none _ _ _ c.requires

pub returns-then-line-i-eq9 : goal.returns-then-line-i-eq9
returns-then-line-i-eq9 c = field-to (piece-ends c.loop-i.invariant c.loop-i-test.true c.if-line-i-eq9.true)

pub loop-i-preserved : goal.loop-i-preserved
loop-i-preserved c = passed-next c.loop-i.invariant c.loop-i-test.true c.if-line-i-eq9.false

pub returns : goal.returns
returns c =
    let e : c.loop-i.i ≡ length c.args.line.now = omega arith in
    subst (FieldTo c.args.line.now c.args.at) e (field-to (piece-last c.loop-i.invariant c.loop-i-test.false))
