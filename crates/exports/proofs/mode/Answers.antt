use native.Mathlib.Omega.{arith}
use borrow.Author.Tests.{eq-eqb, ne_eqb}
use Rattle.exports.proofs.mode.Goals as goal

pub returns-in-0 : goal.returns-in-0
returns-in-0 c = rw (eq-eqb c.args.encoding 0 (omega arith))

pub returns-in-1 : goal.returns-in-1
returns-in-1 c = rw (ne_eqb c.args.encoding 0 (λ z. omega arith), eq-eqb c.args.encoding 1 (omega arith))

pub returns-in_default : goal.returns-in_default
returns-in_default c = rw (ne_eqb c.args.encoding 0 (λ z. omega arith), ne_eqb c.args.encoding 1 (λ z. omega arith))
