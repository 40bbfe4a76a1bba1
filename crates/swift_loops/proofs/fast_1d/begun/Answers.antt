-- The white run that opens a line, by its codes.
use mathlib.Core.Path.{refl}
use Rattle.rules.specs.Codes.{white}
use native.Mathlib.Omega.{arith}
use Rattle.swift_loops.proofs.Fronting.{front_reads}
use Rattle.swift_loops.proofs.Running.{begun-ran, begun-paces}
use Rattle.swift_loops.proofs.fast_1d.begun.Goals as goal

pub front_run_by-first-requires : goal.front_run_by-first-requires
front_run_by-first-requires c = (c.top13.ensures.1, c.requires.1)

pub returns : goal.returns
returns c = λ bytes xs live h k roomy.
    let first = c.front_run_by-first in
    let run = front_reads white refl h (omega arith) c.top13.ensures.0 first.ensures (omega (arith, c.if-first-eq0.false)) in
    let size = first.result.size in
    let pixels = first.result.pixels in
    let fits = c.if-width-first.false in
    let wide = c.requires.0.some_pixels in
    (begun-ran bytes xs _ _ wide roomy h k size run.within pixels run.same (omega (arith, fits)), begun-paces bytes xs _ _ wide roomy h k size run.within pixels run.same (omega (arith, fits)))
