-- `bit_reader::buffer::top13` meets its contract: at least 13 bits are on top. Assumes nothing.
use native.Mathlib.Omega.{arith}
use borrow.Author.Rules.{rules}
use lib.ListN.{drop}
use Rattle.rules.specs.Bits.{bits_of}
use Rattle.bit_reader.proofs.Window.{top-first}
use Rattle.bit_reader.proofs.buffer.top13.Goals as goal

pub returns : goal.returns
returns c =
    let b = c.args.b in
    record { value = λ bytes h. rw h.holds (top-first 13 h.live (drop b.at (bits_of bytes)) (omega arith) h.most); small = search rules }
