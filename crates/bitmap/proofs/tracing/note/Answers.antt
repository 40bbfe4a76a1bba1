-- `bitmap::tracing::note` meets its contract. Assumes nothing.
use native.Mathlib.Omega.{arith}
use Rattle.bitmap.proofs.Turnings.{set-laid}
use Rattle.bitmap.proofs.tracing.note.Goals as goal

pub offset_bounds-changes-next : goal.offset_bounds-changes-next
offset_bounds-changes-next c =
    omega (arith, c.requires c.if-write.true)

pub bounds-changes-next : goal.bounds-changes-next
bounds-changes-next c = c.requires c.if-write.true

pub returns-then-write : goal.returns-then-write
returns-then-write c =
    rw c.if-write.true (set-laid c.args.next c.args.x c.args.changes.now (c.requires c.if-write.true))
