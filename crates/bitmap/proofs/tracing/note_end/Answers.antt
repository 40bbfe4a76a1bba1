-- `bitmap::tracing::note_end` meets its contract. Assumes nothing.
use native.Mathlib.Omega.{arith}
use Rattle.bitmap.proofs.Turnings.{set-laid}
use Rattle.bitmap.proofs.tracing.note_end.Goals as goal

pub offset_bounds-ends-k : goal.offset_bounds-ends-k
offset_bounds-ends-k c =
    omega (arith, c.requires c.if-write.true)

pub bounds-ends-k : goal.bounds-ends-k
bounds-ends-k c = c.requires c.if-write.true

pub returns-then-write : goal.returns-then-write
returns-then-write c =
    rw c.if-write.true (set-laid c.args.k c.args.next c.args.ends.now (c.requires c.if-write.true))
