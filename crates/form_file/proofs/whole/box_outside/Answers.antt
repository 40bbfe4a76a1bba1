-- `form_file::whole::box_outside` meets its contract. The invariant: the first box that is sought lies ahead. Assumes nothing.
use mathlib.Core.Path.{◌≡◌, ◌∙◌}
use native.Mathlib.Omega.{arith}
use Rattle.form_file.specs.Going.{within}
use Rattle.form_file.proofs.Firsts.{told-not, sought-start, sought-hit, sought-next, sought-none}
use Rattle.form_file.proofs.whole.box_outside.Goals as goal

pub loop-k-init : goal.loop-k-init
loop-k-init c = sought-start _ 20 0

pub overflow_mul-k : goal.overflow_mul-k
overflow_mul-k c = omega arith

pub box_at-requires : goal.box_at-requires
box_at-requires c = omega arith

pub returns-then-not-inside : goal.returns-then-not-inside
returns-then-not-inside c = sought-hit _ c.loop-k.invariant (omega arith) (told-not (within c.args.columns c.args.least) c.inside.ensures c.box_at.ensures c.if-not-inside.true-raw)

pub loop-k-preserved : goal.loop-k-preserved
loop-k-preserved c = sought-next _ c.loop-k.invariant (omega arith) (told-not (within c.args.columns c.args.least) c.inside.ensures c.box_at.ensures c.if-not-inside.false-raw)

pub returns : goal.returns
returns c = let e : 20 ≡ c.loop-k.k = omega arith in e ∙ sought-none _ c.loop-k.invariant (omega arith)
