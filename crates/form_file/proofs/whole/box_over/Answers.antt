-- `form_file::whole::box_over` meets its contract. The invariant: the first box that is sought lies ahead. Assumes nothing.
use mathlib.Core.Path.{◌≡◌, sym, ◌∙◌}
use native.Mathlib.Omega.{arith}
use Rattle.form_file.proofs.Firsts.{sought-start, sought-hit, sought-next, sought-none}
use Rattle.form_file.proofs.whole.box_over.Goals as goal

pub loop-k-init : goal.loop-k-init
loop-k-init c = sought-start _ 20 0

pub overlaps-requires : goal.overlaps-requires
overlaps-requires c = (omega arith, omega arith)

pub returns-then-overlaps : goal.returns-then-overlaps
returns-then-overlaps c = sought-hit _ c.loop-k.invariant (omega arith) (sym c.overlaps.ensures ∙ c.if-overlaps.true)

pub loop-k-preserved : goal.loop-k-preserved
loop-k-preserved c = sought-next _ c.loop-k.invariant (omega arith) (sym c.overlaps.ensures ∙ c.if-overlaps.false)

pub returns : goal.returns
returns c = let e : 20 ≡ c.loop-k.k = omega arith in e ∙ sought-none _ c.loop-k.invariant (omega arith)
