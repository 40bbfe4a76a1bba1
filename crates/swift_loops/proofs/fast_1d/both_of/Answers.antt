-- By whether the first run has pixels.
use mathlib.Core.Path.{refl}
use borrow.Author.Tests.{eq-eqb, ne_eqb}
use Rattle.swift_loops.proofs.fast_1d.both_of.Goals as goal

pub returns-then-first-eq0 : goal.returns-then-first-eq0
returns-then-first-eq0 c = rw (eq-eqb c.args.first.pixels 0 c.if-first-eq0.true) refl

pub returns : goal.returns
returns c = rw (ne_eqb c.args.first.pixels 0 c.if-first-eq0.false) refl
