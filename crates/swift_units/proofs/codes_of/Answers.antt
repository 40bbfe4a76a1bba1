use borrow.Author.Tests.{lt-ltb, le-ltb}
use native.Mathlib.Omega.{arith}
use mathlib.Core.Bool.{Bool, cond}
use mathlib.Core.Path.{sym, ap}
use Rattle.swift_units.proofs.codes_of.Goals as goal

-- src/lib.rt:175:1
pub returns-then-pixels-lt64 : goal.returns-then-pixels-lt64
returns-then-pixels-lt64 c = (sym (ap (λ (b : Bool). cond b 1 2) (lt-ltb _ 64 c.if-pixels-lt64.true)), omega arith)

-- src/lib.rt:175:1
pub returns-else-pixels-lt64 : goal.returns-else-pixels-lt64
returns-else-pixels-lt64 c = (sym (ap (λ (b : Bool). cond b 1 2) (le-ltb _ 64 c.if-pixels-lt64.false)), omega arith)
