-- `look::base64::letter` meets its contract. Assumes nothing.
use Rattle.look.proofs.Coding.{letter-large, letter-small, letter-digit, letter-plus, letter-stroke}
use mathlib.Core.Path.{◌≡◌, ◌∙◌}
use Prim.Native.Nat.{◌+◌, ◌-◌}
use native.Mathlib.Omega.{arith}
use Rattle.look.proofs.base64.letter.Goals as goal

pub returns-then-d-lt26 : goal.returns-then-d-lt26
returns-then-d-lt26 c = letter-large c.args.d (omega arith)

pub returns-then-d-lt52 : goal.returns-then-d-lt52
returns-then-d-lt52 c = let e : 97 + (c.args.d - 26) ≡ 71 + c.args.d = omega arith in e ∙ letter-small c.args.d (omega arith) (omega arith)

pub returns-then-d-lt62 : goal.returns-then-d-lt62
returns-then-d-lt62 c = let e : 48 + (c.args.d - 52) ≡ c.args.d - 4 = omega arith in e ∙ letter-digit c.args.d (omega arith) (omega arith)

pub returns-then-d-eq62 : goal.returns-then-d-eq62
returns-then-d-eq62 c = letter-plus c.args.d (omega arith)

pub returns : goal.returns
returns c = letter-stroke c.args.d (omega arith) (λ z. omega arith)
