-- Pairs, and what is left of the line: nothing, or runs to the width.
use native.Mathlib.Omega.{arith}
use Rattle.rules.proofs.Bits.{length-bits_of}
use Rattle.swift_loops.proofs.Running.{ran-holds, ran-done, ran-rest}
use Rattle.one_line.proofs.line_1d.decode_1d_line.Goals as goal

pub pairs-s-requires : goal.pairs-s-requires
pairs-s-requires c = record { tables = c.requires.1; loading = c.requires.0.loading; narrow = c.requires.0.narrow }

pub returns-then-s-width : goal.returns-then-s-width
returns-then-s-width c = rw c.line_of-line.ensures (ran-done c.args.src.now c.args.changes.now c.args.width c.args.at c.args.rules c.requires.0.narrow c.pairs-s.ensures c.if-s-width.true)

pub runs-requires : goal.runs-requires
runs-requires c =
    rw c.line_of-line.ensures
    (record {
      loading = record { size = c.requires.0.loading.size; inside = omega (arith, c.pairs-s.ensures.inside, length-bits_of c.args.src.now) };
      holds = ran-holds c.args.src.now c.args.changes.now c.args.width c.args.at c.args.rules c.requires.0.narrow c.pairs-s.ensures;
    })

pub returns : goal.returns
returns c = ran-rest c.args.src.now c.args.changes.now c.args.width c.args.at c.args.rules c.requires.0.narrow c.pairs-s.ensures (rw c.line_of-line.ensures at c.runs.ensures)
