-- `look::boxes::holds` meets its contract. Assumes nothing.
use Rattle.look.proofs.Stating.{holds-black, holds-white}
use native.Mathlib.Omega.{arith}
use Rattle.look.proofs.boxes.holds.Goals as goal

pub returns-then-kind-eq-BLACK : goal.returns-then-kind-eq-BLACK
returns-then-kind-eq-BLACK c = holds-black c.args.kind c.args.black c.args.asked (omega arith)

pub returns : goal.returns
returns c = holds-white c.args.kind c.args.black c.args.asked (λ z. omega arith)
