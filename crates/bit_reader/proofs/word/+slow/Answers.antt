-- `bit_reader::word::slow` meets its contract, byte after byte.
use Rattle.std.proofs.Common.{◌≡◌, ◌+◌, ◌-◌, ◌*◌, drop, arith}
use Rattle.rules.specs.Bits.{bits_of}
use Rattle.rules.proofs.Bits.{peek-lt}
use Rattle.bit_reader.proofs.Window.{room, byte_more}
use Rattle.bit_reader.proofs.word.+slow.Goals as goal

pub returns-then-n-eq0 : goal.returns-then-n-eq0
returns-then-n-eq0 t c =
    let a = c.args in
    let e : a.n ≡ 0 = omega arith in
    rw e (omega (arith, peek-lt 0 (drop (a.i * 8) (bits_of a.src.now))))

pub append-requires : goal.append-requires
append-requires t c =
    let a = c.args in
    rw c.slow.ensures (room (a.n - 1) (drop (a.i * 8) (bits_of a.src.now)) (omega arith))

pub returns : goal.returns
returns t c =
    let a = c.args in
    let e : a.n - 1 + 1 ≡ a.n = omega arith in
    rw (← e) (omega (arith, byte_more a.src.now (λ i. omega (arith, c.type_inv.src i)) a.i (a.n - 1)))
