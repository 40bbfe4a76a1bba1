-- `lent::push_line` meets its contract: a line that passes the tests is one that the core takes, and the core's answer has the number and the line. Assumes nothing.
use mathlib.Core.Path.{◌≡◌}
use lib.ListN.{length}
use native.Mathlib.Omega.{arith}
use Rattle.lent.specs.Lent.{tested}
use Rattle.lent.proofs.Laws.{tested-holds, lends-refused, lends-pushed}
use Rattle.lent.proofs.push_line.Goals as goal

pub returns-then-number-ne-COMPLETE : goal.returns-then-number-ne-COMPLETE
returns-then-number-ne-COMPLETE c =
    let a = c.args in
    lends-refused a.changes.now a.line a.count a.strict _ c.refusal-number.ensures.number (λ e. omega arith)

pub push_pixels-requires : goal.push_pixels-requires
push_pixels-requires c =
    let a = c.args in
    let t = c.refusal-number.ensures in
    let e : tested (length a.changes.now) a.line ≡ 0 = omega arith in
    tested-holds a.changes.now a.line t.small e

pub returns-in-Ok : goal.returns-in-Ok
returns-in-Ok c =
    let a = c.args in
    let t = c.refusal-number.ensures in
    let e : tested (length a.changes.now) a.line ≡ 0 = omega arith in
    lends-pushed a.changes.now a.line a.count a.strict e _ _ c.push_pixels.ensures c.in-Ok.is

pub returns-in-Err : goal.returns-in-Err
returns-in-Err c =
    let a = c.args in
    let t = c.refusal-number.ensures in
    let e : tested (length a.changes.now) a.line ≡ 0 = omega arith in
    lends-pushed a.changes.now a.line a.count a.strict e _ _ c.push_pixels.ensures c.in-Err.is
