-- `look::ledger_parts::put_plot` meets its contract. Assumes nothing.
use Rattle.look.specs.Pieces.{licence}
use mir.Facts.{to_z-of_z}
use mir.Val.{SFits}
use mir.Syntax.{w32}
use mathlib.Core.Path.{ap, ◌∙◌}
use native.Mathlib.Omega.{arith}
use Rattle.look.proofs.Stating.{tells_as, plot-as}
use Rattle.look.proofs.ledger_parts.put_plot.Goals as goal

pub returns : goal.returns
returns c = let h : SFits w32 c.args.b.quota = record { sfits = omega (arith, c.struct_told-1.given) } in tells_as (plot-as c.args.end c.args.b (c.licence-quota.ensures ∙ ap licence (to_z-of_z h)) c.larger-high.ensures c.one.ensures.value) c.tell_with.ensures
