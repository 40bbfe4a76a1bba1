-- `writer::row3::put_end` meets its contract: by the layout. Assumes nothing.
use mathlib.Core.Path.{sym, ap, ◌∙◌}
use native.Mathlib.Omega.{arith}
use Rattle.rules.specs.WriteGroup3.{times}
use Rattle.writer.specs.Paging3.{layout_of}
use Rattle.writer.proofs.Row3Laws.{room_as, puts-as, puts_none, end-bare, end-mixed, first-eol, five-room, end-puts}
use Rattle.writer.proofs.row3.put_end.Goals as goal

pub put_filled-next-requires : goal.put_filled-next-requires
put_filled-next-requires c =
    first-eol c.args.out.now (layout_of c.args.layout) _ (ap layout_of c.in-Filled.is) c.requires.1

pub put_times-requires : goal.put_times-requires
put_times-requires c =
    let e = ap layout_of c.in-Filled.is in
    let s = c.eol.ensures in
    (omega arith, s.sound, room_as (ap (times 5) (sym s.bits)) (five-room c.args.out.now (layout_of c.args.layout) _ e c.requires.1 c.put_filled-next.ensures))

pub put_times-requires-in-Mixed : goal.put_times-requires-in-Mixed
put_times-requires-in-Mixed c =
    let s = c.tagged.ensures in
    (omega arith, s.sound, room_as (end-mixed (ap layout_of c.in-Mixed.is) ∙ ap (times 6) (sym s.bits)) c.requires.1)

pub returns-in-Bare : goal.returns-in-Bare
returns-in-Bare c =
    puts_none (sym (end-bare (ap layout_of c.in-Bare.is))) c.requires.0

pub returns-in-Filled : goal.returns-in-Filled
returns-in-Filled c =
    end-puts c.args.out.now (layout_of c.args.layout) _ (ap layout_of c.in-Filled.is) c.requires.1 c.put_filled-next.ensures
    (puts-as (ap (times 5) c.eol.ensures.bits) c.put_times.ensures)

pub returns-in-Mixed : goal.returns-in-Mixed
returns-in-Mixed c =
    puts-as (ap (times 6) c.tagged.ensures.bits ∙ sym (end-mixed (ap layout_of c.in-Mixed.is))) c.put_times-in-Mixed.ensures
