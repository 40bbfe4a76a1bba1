-- `writer::row3::put_ahead` meets its contract: by the layout. Assumes nothing.
use mathlib.Core.Path.{sym, ap}
use Rattle.writer.specs.Paging3.{layout_of}
use Rattle.writer.proofs.Owing.{code-room, code-puts}
use Rattle.writer.proofs.Row3Laws.{room_as, puts-as, puts_none, ahead-bare, ahead-filled, ahead-mixed}
use Rattle.writer.proofs.row3.put_ahead.Goals as goal

pub put_filled-requires : goal.put_filled-requires
put_filled-requires c =
    room_as (ahead-filled (ap layout_of c.in-Filled.is) _) c.requires.1

pub put-requires : goal.put-requires
put-requires c =
    let s = c.tagged.ensures in
    (code-room s (room_as (ahead-mixed (ap layout_of c.in-Mixed.is) c.args.single _) c.requires.1), s.sound)

pub returns-in-Bare : goal.returns-in-Bare
returns-in-Bare c =
    puts_none (sym (ahead-bare (ap layout_of c.in-Bare.is) _)) c.requires.0

pub returns-in-Filled : goal.returns-in-Filled
returns-in-Filled c = puts-as (sym (ahead-filled (ap layout_of c.in-Filled.is) _)) c.put_filled.ensures

pub returns-in-Mixed : goal.returns-in-Mixed
returns-in-Mixed c =
    puts-as (sym (ahead-mixed (ap layout_of c.in-Mixed.is) c.args.single _)) (code-puts c.tagged.ensures c.put.ensures)
