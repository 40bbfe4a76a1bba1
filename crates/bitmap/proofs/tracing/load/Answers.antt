-- `bitmap::tracing::load` meets its contract. Assumes nothing.
use native.Mathlib.Omega.{arith}
use Rattle.bitmap.proofs.Turnings.{ahead-packed}
use Rattle.bitmap.proofs.tracing.load.Goals as goal

pub returns-then-at-src : goal.returns-then-at-src
returns-then-at-src c =
    ahead-packed c.args.src.now (λ i. omega (arith, c.type_inv.src i)) c.args.at c.requires.1 c.ahead.ensures
