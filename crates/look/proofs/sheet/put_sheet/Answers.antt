-- `look::sheet::put_sheet` meets its contract. Assumes nothing.
use Rattle.look.proofs.Stating.{tells_as, sheet-as, at-as}
use Rattle.look.specs.Pieces.{sheet_numbers}
use mathlib.Core.Path.{◌∙◌}
use Rattle.look.proofs.sheet.put_sheet.Goals as goal

pub returns : goal.returns
returns c = tells_as (sheet-as _ c.args.columns c.args.rows c.args.most c.larger-high.ensures ∙ at-as (sheet_numbers c.args.columns c.args.rows c.args.most) 26 c.one.ensures.value) c.tell_with.ensures
