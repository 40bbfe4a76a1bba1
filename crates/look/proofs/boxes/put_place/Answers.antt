-- `look::boxes::put_place` meets its contract. Assumes nothing.
use Rattle.look.proofs.Stating.{tells-never, tells-can, place_of}
use Rattle.heads.specs.Form.{page_in}
use borrow.Author.Tests.{not-true, not-false}
use mathlib.Core.Path.{◌≡◌, sym, ◌∙◌}
use Rattle.look.proofs.boxes.put_place.Goals as goal

pub returns-then-not-ascend : goal.returns-then-not-ascend
returns-then-not-ascend c = tells-never (sym c.ascend.ensures ∙ not-true _ c.if-not-ascend.true-raw)

pub put_good_place-requires : goal.put_good_place-requires
put_good_place-requires c = sym c.ascend.ensures ∙ not-false _ c.if-not-ascend.false-raw

pub returns : goal.returns
returns c = tells-can (sym c.ascend.ensures ∙ not-false _ c.if-not-ascend.false-raw) (place_of (page_in c.args.columns c.args.changes.now c.args.ends.now) c.box_at-b.ensures c.number_at-kind.ensures c.number_at-asked.ensures c.number_at-line.ensures) c.put_good_place.ensures
