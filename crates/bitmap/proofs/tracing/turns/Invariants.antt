-- `bitmap::tracing::turns` meets its contract. The invariant is `Scan`; the word falls with each change. Assumes nothing.
use Rattle.bitmap.specs.Packed.{pixels_at}
use Rattle.bitmap.proofs.Scanning.{Scan}
use Rattle.bitmap.proofs.tracing.turns.Given as goal

abbrev pub invariant-loop-rest : goal.invariant-loop-rest
invariant-loop-rest l =
    Scan (pixels_at l.one l.src l.at) l.width l.from l.first l.write l.initial.changes l.rest l.next l.black l.changes

abbrev pub decreases-loop-rest : goal.decreases-loop-rest
decreases-loop-rest l =
    l.rest
