-- The pair that the next bits tell, wherever they stand.
use mathlib.Core.Path.{◌∙◌}
use native.Mathlib.Omega.{arith}
use Rattle.bit_reader.proofs.Window.{ahead-first}
use Rattle.swift_loops.proofs.fast_1d.step.Goals as goal

pub pair_at-pair-requires : goal.pair_at-pair-requires
pair_at-pair-requires c = (c.top13-top.ensures.1, c.requires.1, c.requires.2)

pub returns : goal.returns
returns c =
    let p = c.requires.0.pacing in
    let known = p.paces.known (omega (arith, c.requires.0.here, p.last-is)) in
    c.put.ensures c.args.src.now (λ some. c.pair_at-pair.ensures.read c.args.src.now _ _ c.ahead-window.ensures (omega arith) (c.top13-top.ensures.0 ∙ ahead-first known.next 13 known.enough) some) (c.bits_behind-bits.ensures _ c.ahead-window.ensures (omega arith))
