-- `ledger_file::namesakes::same_name` meets its contract. Assumes nothing.
use Rattle.ledger_file.proofs.Names.{too_far, no-tab, match-first, match-differ, match-next, match-all}
use native.Mathlib.Omega.{arith}
use Rattle.ledger_file.proofs.namesakes.same_name.Goals as goal

pub overflow_sub-text : goal.overflow_sub-text
overflow_sub-text c = omega (arith, c.requires.0.inside)

pub returns-then-text-s : goal.returns-then-text-s
returns-then-text-s c = let a = c.args in let p = c.requires in too_far a.text.now a.s a.at a.n p.0 p.1 p.2 c.if-text-s.true

pub overflow_add-s : goal.overflow_add-s
overflow_add-s c = omega (arith, c.requires.0.inside)

pub bounds-text-s : goal.bounds-text-s
bounds-text-s c = omega (arith, c.requires.0.inside)

pub returns-then-text-s-ne9 : goal.returns-then-text-s-ne9
returns-then-text-s-ne9 c = let a = c.args in let p = c.requires in no-tab a.text.now a.s a.at a.n p.0 p.1 p.2 c.if-text-s-ne9.true

pub loop-i-init : goal.loop-i-init
loop-i-init c = let a = c.args in let p = c.requires in match-first a.text.now a.s a.at a.n p.0 p.1 p.2

pub overflow_sub-i : goal.overflow_sub-i
overflow_sub-i c = omega arith

pub overflow_add-s-in-loop-i : goal.overflow_add-s-in-loop-i
overflow_add-s-in-loop-i c = omega (arith, c.requires.0.inside, c.loop-i.invariant.low)

pub bounds-text-s-in-loop-i : goal.bounds-text-s-in-loop-i
bounds-text-s-in-loop-i c = omega (arith, c.requires.0.inside, c.loop-i.invariant.low)

pub overflow_add-at : goal.overflow_add-at
overflow_add-at c = omega (arith, c.requires.1.inside, c.requires.2, c.loop-i.invariant.low)

pub bounds-text-at : goal.bounds-text-at
bounds-text-at c = omega (arith, c.requires.1.inside, c.requires.2, c.loop-i.invariant.low)

pub returns-then-text-s-2 : goal.returns-then-text-s-2
returns-then-text-s-2 c = let a = c.args in let p = c.requires in match-differ a.text.now a.s a.at a.n p.0 p.1 p.2 _ (omega (arith, c.loop-i.invariant.low)) c.if-text-s-2.true

pub loop-i-smaller : goal.loop-i-smaller
loop-i-smaller c = omega arith

pub loop-i-preserved : goal.loop-i-preserved
loop-i-preserved c = let a = c.args in let p = c.requires in match-next a.text.now a.s a.at a.n p.0 p.1 p.2 c.loop-i.invariant c.loop-i-test.true c.if-text-s-2.false

pub returns : goal.returns
returns c = let a = c.args in let p = c.requires in match-all a.text.now a.s a.at a.n p.0 p.1 p.2 c.loop-i.invariant c.loop-i-test.false c.if-text-s-ne9.false
