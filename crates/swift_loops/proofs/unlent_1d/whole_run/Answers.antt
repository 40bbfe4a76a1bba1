-- As `fast_1d::whole_run`; no table is lent.
use mathlib.Core.Path.{sym}
use mathlib.Core.Bool.{true≢false}
use native.Mathlib.Omega.{arith}
use borrow.Author.Tests.{not-false}
use Rattle.swift_loops.proofs.Running.{begun-fills}
use Rattle.swift_loops.proofs.unlent_1d.whole_run.Goals as goal

pub ahead-requires : goal.ahead-requires
ahead-requires c = let f = c.fit.ensures (not-false _ c.if-not-fit.false-raw) in omega (arith, f.2)

pub begun-requires : goal.begun-requires
begun-requires c =
    let f = c.fit.ensures (not-false _ c.if-not-fit.false-raw) in
    let pre = c.requires in
    (record { some_pixels = f.0; low = omega (arith, pre.inside, pre.size) }, λ e. absurd (true≢false (sym e)))

pub returns : goal.returns
returns c =
    let f = c.fit.ensures (not-false _ c.if-not-fit.false-raw) in
    begun-fills c.begun.ensures c.ahead.ensures (omega arith) f.1 _
    c.in_ok-t.was (omega (arith, c.if-t-width.false))
