-- `writer::line::put_ones` meets its contract. Assumes nothing.
use mathlib.Core.Path.{refl}
use native.Mathlib.Omega.{arith}
use Rattle.writer.proofs.Owing.{code-puts}
use Rattle.writer.proofs.LineLoop.{ones-fit}
use Rattle.writer.proofs.line.put_ones.Goals as goal

pub returns-then-k-eq0 : goal.returns-then-k-eq0
returns-then-k-eq0 c = record { none = λ _. (refl, refl); some = λ h. absurd (omega (arith, c.if-k-eq0.true)) }

pub put-requires : goal.put-requires
put-requires c =
    let s = c.ones.ensures in
    (ones-fit s c.requires.1, s.sound)

pub returns : goal.returns
returns c = record { none = λ z. absurd (c.if-k-eq0.false z); some = λ _. code-puts c.ones.ensures c.put.ensures }
