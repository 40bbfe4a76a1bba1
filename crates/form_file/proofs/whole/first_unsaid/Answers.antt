-- `form_file::whole::first_unsaid` meets its contract. The invariant: the first box that is sought lies ahead. Assumes nothing.
use mathlib.Core.Path.{◌≡◌, ◌∙◌}
use native.Mathlib.Omega.{arith}
use borrow.Author.Tests.{eq-eqb, ne_eqb}
use Rattle.form_file.proofs.Firsts.{sought-start, sought-hit, sought-next, sought-none}
use Rattle.form_file.proofs.whole.first_unsaid.Goals as goal

pub loop-k-init : goal.loop-k-init
loop-k-init c = sought-start _ 20 0

pub returns-then-lines-k-eq0 : goal.returns-then-lines-k-eq0
returns-then-lines-k-eq0 c = sought-hit _ c.loop-k.invariant (omega arith) (eq-eqb _ 0 c.if-lines-k-eq0.true)

pub loop-k-preserved : goal.loop-k-preserved
loop-k-preserved c = sought-next _ c.loop-k.invariant (omega arith) (ne_eqb _ 0 c.if-lines-k-eq0.false)

pub returns : goal.returns
returns c = let e : 20 ≡ c.loop-k.k = omega arith in e ∙ sought-none _ c.loop-k.invariant (omega arith)
