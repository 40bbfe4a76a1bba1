-- Each test in turn.
use Prim.Native.Nat.{ℕ, ◌-◌, ◌*◌}
use mathlib.Core.Path.{◌≡◌}
use native.Mathlib.Omega.{arith}
use borrow.Author.Tests.{leb-true}
use Rattle.swift_loops.proofs.fast_1d.fit.Goals as goal

pub returns-then-plain : goal.returns-then-plain
returns-then-plain c = λ e. absurd (let z : ◌≡◌ {A = ℕ} 0 1 = cc in omega arith)

pub returns-then-width-eq0 : goal.returns-then-width-eq0
returns-then-width-eq0 c = λ e. absurd (let z : ◌≡◌ {A = ℕ} 0 1 = cc in omega arith)

pub returns-then-room-width : goal.returns-then-room-width
returns-then-room-width c = λ e. absurd (let z : ◌≡◌ {A = ℕ} 0 1 = cc in omega arith)

pub returns-then-len-lt8 : goal.returns-then-len-lt8
returns-then-len-lt8 c = λ e. absurd (let z : ◌≡◌ {A = ℕ} 0 1 = cc in omega arith)

pub returns : goal.returns
returns c = λ e.
    let h = leb-true c.args.at (8 * c.args.len - 64) e in
    (omega (arith, c.if-width-eq0.false), omega (arith, c.if-room-width.false), omega (arith, h, c.if-len-lt8.false))
