-- Each return is one arm of the definition. Assumes nothing.
use Rattle.booking.proofs.Lying.{at-still, at-no-page, at-page, at-short, at-seekable}
use borrow.Author.Tests.{not-true, not-false}
use native.Mathlib.Omega.{arith}
use mathlib.Core.Path.{◌≡◌, ◌∙◌}
use Rattle.booking.proofs.showing.lies_at.Reads as reads
use Rattle.booking.proofs.showing.lies_at.Lts as lts
use Rattle.booking.proofs.showing.is_listed.Reads as is-listed-reads
use Rattle.booking.proofs.showing.is_sought.Reads as is-sought-reads
use Rattle.booking.proofs.showing.lies_on.Reads as lies-on-reads
use Rattle.booking.proofs.showing.lies_still.Reads as lies-still-reads
use Rattle.booking.proofs.showing.lies_at.Goals as goal

pub returns-then-not-is_sought : goal.returns-then-not-is_sought
returns-then-not-is_sought c =
    let a = c.args in
    c.lies_still.ensures ∙ at-still a.columns a.changes.now a.ends.now a.form a.boxes.now a.places.now c.is_sought.ensures (not-true _ c.if-not-is_sought.true-raw)

pub returns-then-not-is_listed : goal.returns-then-not-is_listed
returns-then-not-is_listed c =
    let a = c.args in
    c.lies_still-then-not-is_listed.ensures ∙ at-no-page a.columns a.changes.now a.ends.now a.form a.boxes.now a.places.now c.is_sought.ensures (not-false _ c.if-not-is_sought.false-raw) c.is_listed.ensures (not-true _ c.if-not-is_listed.true-raw)

pub overflow_cast-ends : goal.overflow_cast-ends
overflow_cast-ends c =
    let a = c.args in
    omega (arith, at-short a.columns a.changes.now a.ends.now a.form a.boxes.now a.places.now c.is_sought.ensures (not-false _ c.if-not-is_sought.false-raw) c.is_listed.ensures (not-false _ c.if-not-is_listed.false-raw))

pub lies_on-requires : goal.lies_on-requires
lies_on-requires c =
    let a = c.args in
    at-seekable a.columns a.changes.now a.ends.now a.form a.boxes.now a.places.now c.is_sought.ensures (not-false _ c.if-not-is_sought.false-raw) c.is_listed.ensures (not-false _ c.if-not-is_listed.false-raw)

pub returns : goal.returns
returns c =
    let a = c.args in
    c.lies_on.ensures ∙ at-page a.columns a.changes.now a.ends.now a.form a.boxes.now a.places.now c.is_sought.ensures (not-false _ c.if-not-is_sought.false-raw) c.is_listed.ensures (not-false _ c.if-not-is_listed.false-raw)
