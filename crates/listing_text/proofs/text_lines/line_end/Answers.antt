-- `listing_text::text_lines::line_end` meets its contract. The invariant: no line feed stands in what was passed. Assumes nothing.
use mathlib.Core.Path.{◌≡◌, subst}
use native.Mathlib.Omega.{arith}
use lib.ListN.{length}
use Rattle.listing_text.specs.Lines.{LineTo}
use Rattle.listing_text.proofs.Piecing.{passed_none, passed-next, piece-last, piece-ends}
use Rattle.listing_text.proofs.Lining.{line-to}
use Rattle.listing_text.proofs.text_lines.line_end.Goals as goal

pub loop-i-init : goal.loop-i-init
loop-i-init c = passed_none _ _ _ c.requires

pub bounds-text-i : goal.bounds-text-i
bounds-text-i c = omega arith

pub returns-then-text-i-eq10 : goal.returns-then-text-i-eq10
returns-then-text-i-eq10 c = line-to (piece-ends c.loop-i.invariant c.loop-i-test.true c.if-text-i-eq10.true)

pub loop-i-preserved : goal.loop-i-preserved
loop-i-preserved c = passed-next c.loop-i.invariant c.loop-i-test.true c.if-text-i-eq10.false

pub returns : goal.returns
returns c =
    let e : c.loop-i.i ≡ length c.args.text.now = omega arith in
    subst (LineTo c.args.text.now c.args.at) e (line-to (piece-last c.loop-i.invariant c.loop-i-test.false))
