-- `writer::same_line::same_horizontal` meets its contract. A code and two runs, one behind the other. Assumes nothing.
use mathlib.Core.Path.{refl, sym, ap}
use Rattle.rules.specs.Codes.{opposite}
use Rattle.rules.specs.Write.{run_bits}
use Rattle.tables.specs.Tables.{colour_of}
use Rattle.writer.proofs.AlongLine.{colour-turns}
use Rattle.writer.proofs.Leaving.{met-inside, left-parts, left-on, left-last, passed_on}
use Rattle.writer.proofs.CodesMet.{across-parts, across-on}
use Rattle.writer.proofs.same_line.same_horizontal.Goals as goal

pub returns-in_err-met : goal.returns-in_err-met
returns-in_err-met c =
    passed_on _ c.from_residual.ensures.1 (across-parts (colour_of c.args.colour) c.args.first c.args.second c.requires.2 c.horizontal.ensures c.in_err-met.ensures refl)

pub same_run-requires : goal.same_run-requires
same_run-requires c = (c.requires.0, met-inside c.requires.2 c.in_ok-met.ensures)

pub returns-in_err-middle : goal.returns-in_err-middle
returns-in_err-middle c =
    passed_on _ c.from_residual-in_err-middle.ensures.1 (left-parts (across-on (colour_of c.args.colour) c.args.first c.args.second c.requires.2 c.horizontal.ensures c.in_ok-met.ensures refl) (run_bits (colour_of c.args.colour) c.args.first) (run_bits (opposite (colour_of c.args.colour)) c.args.second) refl c.in_err-middle.ensures refl)

pub same_run-requires-2 : goal.same_run-requires-2
same_run-requires-2 c = (c.requires.0, met-inside (met-inside c.requires.2 c.in_ok-met.ensures) c.in_ok-middle.ensures)

pub returns : goal.returns
returns c =
    left-last (left-on (across-on (colour_of c.args.colour) c.args.first c.args.second c.requires.2 c.horizontal.ensures c.in_ok-met.ensures refl) (run_bits (colour_of c.args.colour) c.args.first) (run_bits (opposite (colour_of c.args.colour)) c.args.second) refl c.in_ok-middle.ensures refl) _
    (ap (λ d. run_bits d c.args.second) (sym (colour-turns c.args.colour c.requires.1))) c.same_run-2.ensures
