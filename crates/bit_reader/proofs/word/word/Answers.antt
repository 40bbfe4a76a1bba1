-- `bit_reader::word::word` meets its contract: eight bytes are 64 bits. Assumes nothing.
use mathlib.Core.Path.{◌∙◌}
use native.Mathlib.Omega.{arith}
use Rattle.bit_reader.proofs.Window.{eight}
use Rattle.bit_reader.proofs.word.word.Goals as goal

pub returns-then-i-src : goal.returns-then-i-src
returns-then-i-src c =
    let a = c.args in
    c.fast.ensures ∙ eight a.src.now (λ i. omega (arith, c.type_inv.src i)) a.i
