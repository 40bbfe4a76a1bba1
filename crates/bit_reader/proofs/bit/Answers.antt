-- `bit_reader::bit` meets its contract: the bit is a part of its byte. Assumes nothing.
use native.Mathlib.Omega.{arith}
use Rattle.bit_reader.proofs.Window.{bit_at}
use Rattle.bit_reader.proofs.bit.Goals as goal

pub returns : goal.returns
returns c =
    let a = c.args in
    bit_at a.src.now (λ i. omega (arith, c.type_inv.src i)) a.at
