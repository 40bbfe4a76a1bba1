-- `bitmap::unpaint` meets its contract. The tests one after the other; the rows are counted, and then recorded. Assumes nothing.
use native.Mathlib.Omega.{arith}
use mathlib.Core.Path.{sym}
use lib.ListN.{length}
use Rattle.bitmap.proofs.Fitting.{fits}
use Rattle.bitmap.proofs.Unpainting.{unpaint-refused, unpaint-5, unpaint-4, unpaint-done, lies-counted, lies-recorded}
use Rattle.bitmap.proofs.unpaint.Goals as goal

pub returns-in-Some : goal.returns-in-Some
returns-in-Some c =
    unpaint-refused c.args.changes.now c.args.ends.now c.args.one c.args.columns c.args.stride c.args.rows
    c.args.src.now c.in-Some.ensures.0 c.in-Some.ensures.1 c.refusal.ensures

pub returns-then-ends-count : goal.returns-then-ends-count
returns-then-ends-count c =
    let zero = sym c.in_default.ensures in
    unpaint-5 c.args.changes.now c.args.ends.now c.args.one c.args.columns c.args.stride c.args.rows
    c.args.src.now zero c.if-ends-count.true c.refusal-then-ends-count.ensures

pub end_of-end-requires : goal.end_of-end-requires
end_of-end-requires c =
    let zero = sym c.in_default.ensures in
    (fits c.args.columns c.args.stride c.args.rows (length c.args.src.now) zero).room

pub rows-entries-requires : goal.rows-entries-requires
rows-entries-requires c =
    let zero = sym c.in_default.ensures in
    lies-counted c.args.changes.now c.args.ends.now c.args.one c.args.columns c.args.stride c.args.rows
    c.args.src.now zero c.if-ends-count.false (omega (arith, c.ranges.columns))

pub returns-then-room-entries : goal.returns-then-room-entries
returns-then-room-entries c =
    let zero = sym c.in_default.ensures in
    unpaint-4 c.args.changes.now c.args.ends.now c.args.one c.args.columns c.args.stride c.args.rows
    c.args.src.now zero c.if-ends-count.false
    c.rows-entries.ensures c.if-room-entries.true c.refusal-then-room-entries.ensures

pub rows-requires : goal.rows-requires
rows-requires c =
    let zero = sym c.in_default.ensures in
    lies-recorded c.args.changes.now c.args.ends.now c.args.one c.args.columns c.args.stride c.args.rows
    c.args.src.now zero c.if-ends-count.false
    (omega (arith, c.ranges.columns.fits)) c.rows-entries.ensures
    c.if-room-entries.false

pub returns : goal.returns
returns c =
    let zero = sym c.in_default.ensures in
    unpaint-done c.args.changes.now c.args.ends.now c.args.one c.args.columns c.args.stride c.args.rows
    c.args.src.now zero
    c.if-ends-count.false
    c.rows-entries.ensures
    c.if-room-entries.false
    c.end_of-end.ensures
    c.rows.ensures
