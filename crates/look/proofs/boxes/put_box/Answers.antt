-- `look::boxes::put_box` meets its contract. Assumes nothing.
use Prim.Native.Nat.{◌*◌}
use Rattle.look.proofs.Stating.{tells-never, tells-can}
use Rattle.look.specs.Pieces.{box_text}
use Rattle.heads.specs.declared.Box.{Box}
use Rattle.heads.specs.Form.{page_in}
use borrow.Author.Tests.{not-true, not-false}
use mathlib.Core.Path.{◌≡◌, sym, ap, ◌∙◌}
use Rattle.look.proofs.boxes.put_box.Goals as goal

pub returns-then-not-ascend : goal.returns-then-not-ascend
returns-then-not-ascend c = tells-never (sym c.ascend.ensures ∙ not-true _ c.if-not-ascend.true-raw)

pub put_good_box-requires : goal.put_good_box-requires
put_good_box-requires c = sym c.ascend.ensures ∙ not-false _ c.if-not-ascend.false-raw

pub returns : goal.returns
returns c = tells-can (sym c.ascend.ensures ∙ not-false _ c.if-not-ascend.false-raw) (ap (λ (b : Box). box_text (page_in c.args.columns c.args.changes.now c.args.ends.now) b c.args.which c.args.doubt c.args.tick) c.box_at-b.ensures) c.put_good_box.ensures
