-- `writer::line::put_horizontal` meets its contract. A code and two runs, one behind the other.
-- Assumes nothing.
use mathlib.Core.Path.{refl, sym, ap}
use Rattle.rules.specs.Codes.{opposite}
use Rattle.rules.specs.Write.{run_bits}
use Rattle.tables.specs.Tables.{colour_of}
use Rattle.writer.proofs.AlongLine.{colour-turns}
use Rattle.writer.proofs.LineLoop.{across-room, across-put}
use Rattle.writer.proofs.Owing.{first-room, owes-put, last-room, owes-last}
use Rattle.writer.proofs.line.put_horizontal.Goals as goal

pub put-next-requires : goal.put-next-requires
put-next-requires c = across-room _ _ _ c.args.out.now c.requires.2 c.horizontal.ensures

pub put_run-middle-requires : goal.put_run-middle-requires
put_run-middle-requires c = (
  c.requires.0,
  first-room (across-put (colour_of c.args.colour) c.args.first
      c.args.second c.args.out.now c.requires.2 c.horizontal.ensures
      c.put-next.ensures) (run_bits (colour_of c.args.colour)
      c.args.first) (run_bits (opposite (colour_of c.args.colour))
      c.args.second) refl c.requires.2,
)

pub put_run-requires : goal.put_run-requires
put_run-requires c =
    let rest = owes-put (across-put (colour_of c.args.colour) c.args.first c.args.second c.args.out.now c.requires.2
    c.horizontal.ensures c.put-next.ensures) (run_bits (colour_of c.args.colour) c.args.first) (run_bits
    (opposite (colour_of c.args.colour)) c.args.second) refl c.requires.2.inside c.put_run-middle.ensures in
    (c.requires.0, last-room rest _ (ap (λ d. run_bits d c.args.second) (sym (colour-turns c.args.colour c.requires.1))) c.requires.2)

pub returns : goal.returns
returns c =
    let rest = owes-put (across-put (colour_of c.args.colour) c.args.first c.args.second c.args.out.now c.requires.2
    c.horizontal.ensures c.put-next.ensures) (run_bits (colour_of c.args.colour) c.args.first) (run_bits
    (opposite (colour_of c.args.colour)) c.args.second) refl c.requires.2.inside c.put_run-middle.ensures in
    owes-last rest _ (ap (λ d. run_bits d c.args.second) (sym (colour-turns c.args.colour c.requires.1)))
    c.put_run.ensures
