-- A code that turns the line, and those behind it.
use Rattle.swift_loops.proofs.Beside.{first-other, first_short, first_goes, first_then}
use native.Mathlib.Omega.{arith}
use Rattle.std.proofs.Common.{◌≡◌, None, rules}
use Rattle.swift_loops.proofs.fast_2d.straight.Goals as goal

pub overflow_sub-rest : goal.overflow_sub-rest
overflow_sub-rest c =
    omega (arith, first_short c.requires.0 c.requires.1 c.to_b1.ensures c.in_ok-first.was)

pub overflow_shl-rest : goal.overflow_shl-rest
overflow_shl-rest c =
    omega (arith, first_short c.requires.0 c.requires.1 c.to_b1.ensures c.in_ok-first.was)

pub along-last-requires : goal.along-last-requires
along-last-requires c =
    first_goes c.requires.0 c.requires.1 c.to_b1.ensures c.in_ok-first.was

pub returns-in_err-first : goal.returns-in_err-first
returns-in_err-first c =
    let none : c.from_residual.result ≡ None = search rules in
    rw none (first-other c.requires.0 c.requires.1 c.to_b1.ensures c.in_err-first.was)

pub returns : goal.returns
returns c =
    first_then c.requires.0 c.requires.1 c.to_b1.ensures c.in_ok-first.was c.along-last.ensures
