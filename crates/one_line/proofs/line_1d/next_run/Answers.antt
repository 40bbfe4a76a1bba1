-- Both engines promise the same of the run; a buffer's bit lies in the data.
use native.Mathlib.Omega.{arith}
use Rattle.one_line.proofs.line_1d.next_run.Goals as goal

pub read_run-requires : goal.read_run-requires
read_run-requires c =
    let p = c.requires in
    record { size = p.size; inside = omega (arith, p.loaded.reached, p.loaded.inside) }

pub returns-then-plain : goal.returns-then-plain
returns-then-plain c = c.read_run.ensures

pub read_run-requires-2 : goal.read_run-requires-2
read_run-requires-2 c = c.requires

pub returns : goal.returns
returns c = c.read_run-2.ensures
