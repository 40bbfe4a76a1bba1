-- `lent::refusal` meets its contract: its tests are the definition's, in its order. Assumes nothing.
use native.Mathlib.Omega.{arith}
use borrow.Author.Tests.{eq-eqb, ne_eqb, le-leb, lt-leb}
use Rattle.lent.proofs.refusal.Goals as goal

pub returns-then-line-eq-MOST_PIXELS : goal.returns-then-line-eq-MOST_PIXELS
returns-then-line-eq-MOST_PIXELS c =
    let l = c.args.line in
    record { number = rw (eq-eqb l.width 4294967295 (omega arith)); small = omega arith }

pub returns-then-line : goal.returns-then-line
returns-then-line c =
    let l = c.args.line in
    record { number = rw (ne_eqb l.width 4294967295 (λ e. omega arith), lt-leb l.position l.width (omega arith)); small = omega arith }

pub returns-then-room-line : goal.returns-then-room-line
returns-then-room-line c =
    let a = c.args in
    let l = a.line in
    record { number = rw (ne_eqb l.width 4294967295 (λ e. omega arith), le-leb l.position l.width (omega arith), lt-leb l.changes a.room (omega arith)); small = omega arith }

pub returns-then-line-gt1 : goal.returns-then-line-gt1
returns-then-line-gt1 c =
    let a = c.args in
    let l = a.line in
    record { number = rw (ne_eqb l.width 4294967295 (λ e. omega arith), le-leb l.position l.width (omega arith), le-leb l.changes a.room (omega arith), lt-leb l.colour 1 (omega arith)); small = omega arith }

pub returns-then-line-gt1-2 : goal.returns-then-line-gt1-2
returns-then-line-gt1-2 c =
    let a = c.args in
    let l = a.line in
    record { number = rw (ne_eqb l.width 4294967295 (λ e. omega arith), le-leb l.position l.width (omega arith), le-leb l.changes a.room (omega arith), le-leb l.colour 1 (omega arith), lt-leb l.cut 1 (omega arith)); small = omega arith }

pub returns : goal.returns
returns c =
    let a = c.args in
    let l = a.line in
    record { number = rw (ne_eqb l.width 4294967295 (λ e. omega arith), le-leb l.position l.width (omega arith), le-leb l.changes a.room (omega arith), le-leb l.colour 1 (omega arith), le-leb l.cut 1 (omega arith)); small = omega arith }
