-- `bitmap::tracing::rows` meets its contract. The invariant is `Store`: what is read of the rows before. Assumes nothing.
use Rattle.bitmap.proofs.Tracings.{Store}
use Rattle.bitmap.proofs.tracing.rows.Given as goal

abbrev pub invariant-loop-k : goal.invariant-loop-k
invariant-loop-k l = Store l.one l.width l.stride l.src l.count l.write l.initial.changes l.initial.ends l.k l.next l.changes l.ends
