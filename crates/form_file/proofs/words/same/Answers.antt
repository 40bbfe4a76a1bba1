-- `form_file::words::same` meets its contract. The invariant: the words are as long, and alike as far as they were passed. Assumes nothing.
use native.Mathlib.Omega.{arith}
use Rattle.form_file.proofs.Wording.{same_length, alike-first, alike-differ, alike_next, alike_end}
use Rattle.form_file.proofs.words.same.Goals as goal

pub returns-then-word-with : goal.returns-then-word-with
returns-then-word-with c = same_length _ _ c.if-word-with.true

pub loop-i-init : goal.loop-i-init
loop-i-init c = alike-first _ _ c.if-word-with.false

pub bounds-with-i : goal.bounds-with-i
bounds-with-i c = omega (arith, c.loop-i.invariant.long)

pub returns-then-word-i : goal.returns-then-word-i
returns-then-word-i c = alike-differ c.args.word.now c.args.with.now c.loop-i.invariant c.loop-i-test.true c.if-word-i.true

pub loop-i-preserved : goal.loop-i-preserved
loop-i-preserved c = alike_next c.args.word.now c.args.with.now c.loop-i.invariant c.loop-i-test.true c.if-word-i.false

pub returns : goal.returns
returns c = alike_end c.args.word.now c.args.with.now c.loop-i.invariant c.loop-i-test.false
