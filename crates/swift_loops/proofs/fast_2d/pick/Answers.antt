-- By the parity.
use mathlib.Core.Bool.{Bool, cond}
use mathlib.Core.Path.{sym, ap}
use borrow.Author.Tests.{eq-eqb, ne_eqb}
use Rattle.swift_loops.proofs.fast_2d.pick.Goals as goal

pub returns-then-parity-eq0 : goal.returns-then-parity-eq0
returns-then-parity-eq0 c = sym (ap (λ (b : Bool). cond b c.args.even.now c.args.odd.now) (eq-eqb c.args.parity 0 c.if-parity-eq0.true))

pub returns-else-parity-eq0 : goal.returns-else-parity-eq0
returns-else-parity-eq0 c = sym (ap (λ (b : Bool). cond b c.args.even.now c.args.odd.now) (ne_eqb c.args.parity 0 c.if-parity-eq0.false))
