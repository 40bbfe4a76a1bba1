-- `form_file::words::uncommented` meets its contract. The invariant: no comment begins in what was passed. Assumes nothing.
use native.Mathlib.Omega.{arith}
use Rattle.form_file.specs.Steps.{is_plain}
use Rattle.form_file.proofs.Ahead.{walked-first, walked_next, walked_stop, walked_end, at-comment, at_other}
use Rattle.form_file.proofs.words.uncommented.Goals as goal

pub loop-i-init : goal.loop-i-init
loop-i-init c = walked-first is_plain _ 0

pub returns-then-line-i-eq35 : goal.returns-then-line-i-eq35
returns-then-line-i-eq35 c = omega (arith, walked_stop is_plain c.args.line.now 0 c.loop-i.invariant c.loop-i-test.true (at-comment _ c.if-line-i-eq35.true))

pub loop-i-preserved : goal.loop-i-preserved
loop-i-preserved c = walked_next is_plain c.args.line.now 0 c.loop-i.invariant c.loop-i-test.true (at_other _ c.if-line-i-eq35.false)

pub returns : goal.returns
returns c = omega (arith, c.loop-i-test.false, walked_end is_plain c.args.line.now 0 c.loop-i.invariant c.loop-i-test.false)
