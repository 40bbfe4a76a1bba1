-- `writer::met::by_bits` meets its contract. The loop's invariant: the bits that are left come to the code's. Assumes nothing.
use native.Mathlib.Omega.{arith}
use mathlib.Core.Path.{sym, ◌∙◌}
use Rattle.writer.proofs.Leaving.{left-all}
use Rattle.writer.proofs.BitsMet.{data-ends, bit-differs, bit-met, all-met}
use Rattle.writer.proofs.met.by_bits.Goals as goal

pub loop-left-init : goal.loop-left-init
loop-left-init c = (left-all _ c.requires.0, omega arith)

pub returns-then-src-next : goal.returns-then-src-next
returns-then-src-next c = data-ends c.loop-left.left _ _ c.loop-left.invariant.0 c.loop-left-test.true c.if-src-next.true

pub returns-then-bit-due : goal.returns-then-bit-due
returns-then-bit-due c = bit-differs c.loop-left.left _ _ c.loop-left.invariant.0 c.loop-left-test.true (λ e. c.if-bit-due.true (c.bit.ensures ∙ e))

pub loop-left-preserved : goal.loop-left-preserved
loop-left-preserved c =
    (bit-met c.loop-left.left _ _ c.loop-left.invariant.0 c.loop-left-test.true c.if-src-next.false (sym c.bit.ensures ∙ c.if-bit-due.false), omega (arith, c.loop-left.invariant.1))

pub returns : goal.returns
returns c = all-met c.loop-left.left _ _ c.loop-left.invariant.0 c.loop-left-test.false
