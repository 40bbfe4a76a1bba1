-- `ledger_file::onward::says_left` meets its contract. Assumes nothing.
use Rattle.ledger_file.proofs.Naming.{printed-front, printed-in}
use Rattle.ledger_file.specs.Fields.{field}
use Rattle.form_file.specs.Words.{same}
use mathlib.Core.Path.{◌∙◌, ap}
use Rattle.ledger_file.proofs.onward.says_left.Goals as goal

pub slice_bounds-is_field-end : goal.slice_bounds-is_field-end
slice_bounds-is_field-end c = printed-in c.put_left-n.ensures

pub returns : goal.returns
returns c = c.is_field.ensures ∙ ap (same (field 3 c.args.line.now)) (printed-front c.put_left-n.ensures)
