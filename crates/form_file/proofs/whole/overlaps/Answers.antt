-- `form_file::whole::overlaps` meets its contract. The invariant: the first box that is sought lies ahead. Assumes nothing.
use mathlib.Core.Path.{ap, sym, ◌∙◌}
use native.Mathlib.Omega.{arith}
use lib.Dec.{ltb}
use borrow.Author.Tests.{lt-ltb, le-ltb}
use Rattle.heads.specs.declared.Box.{Box}
use Rattle.form_file.specs.FormFile.{apart, box_at}
use Rattle.form_file.proofs.Firsts.{told-not, sought-start, sought-hit, sought-next, sought-none}
use Rattle.form_file.proofs.whole.overlaps.Goals as goal

pub overflow_mul-which : goal.overflow_mul-which
overflow_mul-which c = omega arith

pub box_at-b-requires : goal.box_at-b-requires
box_at-b-requires c = omega arith

pub loop-k-init : goal.loop-k-init
loop-k-init c = sought-start _ _ 0

pub overflow_mul-k : goal.overflow_mul-k
overflow_mul-k c = omega arith

pub box_at-requires : goal.box_at-requires
box_at-requires c = omega arith

pub returns-then-not-apart : goal.returns-then-not-apart
returns-then-not-apart c =
    let a = c.args in
    let h = sought-hit _ c.loop-k.invariant (omega arith) (told-not (λ (b : Box). apart b (box_at a.boxes.now a.which)) (c.apart.ensures ∙ ap (λ (b : Box). apart c.box_at.result b) c.box_at-b.ensures) c.box_at.ensures c.if-not-apart.true-raw) in
    sym (ap (λ r. ltb r a.which) (sym h) ∙ lt-ltb c.loop-k.k a.which (omega arith))

pub loop-k-preserved : goal.loop-k-preserved
loop-k-preserved c =
    let a = c.args in
    sought-next _ c.loop-k.invariant (omega arith) (told-not (λ (b : Box). apart b (box_at a.boxes.now a.which)) (c.apart.ensures ∙ ap (λ (b : Box). apart c.box_at.result b) c.box_at-b.ensures) c.box_at.ensures c.if-not-apart.false-raw)

pub returns : goal.returns
returns c =
    let h = sought-none _ c.loop-k.invariant (omega arith) in
    sym (ap (λ r. ltb r c.args.which) (sym h) ∙ le-ltb c.loop-k.k c.args.which (omega arith))
