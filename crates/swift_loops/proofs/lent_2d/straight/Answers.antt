-- A code that turns the line, and those behind it.
use native.Mathlib.Omega.{arith}
use Rattle.std.proofs.Common.{◌≡◌, None, rules}
use Rattle.swift_loops.proofs.Beside.{first-other, first_short, first_goes, first_then}
use Rattle.swift_loops.proofs.lent_2d.straight.Goals as goal

pub overflow_sub-rest : goal.overflow_sub-rest
overflow_sub-rest c =
    let asks = c.requires in
    omega (arith, first_short asks.0 asks.1 c.to_b1.ensures c.in_ok-first.was)

pub overflow_shl-rest : goal.overflow_shl-rest
overflow_shl-rest c =
    let asks = c.requires in
    omega (arith, first_short asks.0 asks.1 c.to_b1.ensures c.in_ok-first.was)

pub along-last-requires : goal.along-last-requires
along-last-requires c =
    let asks = c.requires in
    first_goes asks.0 asks.1 c.to_b1.ensures c.in_ok-first.was

pub returns-in_err-first : goal.returns-in_err-first
returns-in_err-first c =
    let asks = c.requires in
    let none : c.from_residual.result ≡ None = search rules in
    rw none (first-other asks.0 asks.1 c.to_b1.ensures c.in_err-first.was)

pub returns : goal.returns
returns c =
    let asks = c.requires in
    first_then asks.0 asks.1 c.to_b1.ensures c.in_ok-first.was c.along-last.ensures
