-- `writer::same_row3::same_ahead` meets its contract. By the layout. Assumes nothing.
use mathlib.Core.Path.{sym, ap}
use Rattle.writer.specs.Paging3.{layout_of}
use Rattle.writer.proofs.Row3Laws.{ahead-bare, ahead-filled, ahead-mixed}
use Rattle.writer.proofs.Leaving.{meets-as}
use Rattle.writer.proofs.CodesMet3.{met-none}
use Rattle.writer.proofs.same_row3.same_ahead.Goals as goal

pub returns-in-Bare : goal.returns-in-Bare
returns-in-Bare c = met-none c.requires (ahead-bare (ap layout_of c.in-Bare.is) _)

pub returns-in-Filled : goal.returns-in-Filled
returns-in-Filled c = meets-as (sym (ahead-filled (ap layout_of c.in-Filled.is) _)) c.same_filled.ensures

pub returns-in-Mixed : goal.returns-in-Mixed
returns-in-Mixed c =
    meets-as (sym (ahead-mixed (ap layout_of c.in-Mixed.is) c.args.single _)) (meets-as c.tagged.ensures.bits c.meet.ensures)
