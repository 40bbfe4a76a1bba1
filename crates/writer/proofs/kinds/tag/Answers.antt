-- `writer::kinds::tag` meets its contract. Assumes nothing.
use mathlib.Core.Path.{ap, ◌∙◌}
use native.Mathlib.Omega.{arith}
use lib.Dec.{eqb}
use Prim.Native.Nat.{◌+◌}
use Rattle.rules.specs.Bits.{bits_of}
use Rattle.rules.proofs.Bits.{length-bits_of}
use Rattle.writer.proofs.KindsLaws.{tag-past, tag_read}
use Rattle.writer.proofs.kinds.tag.Goals as goal

pub returns-then-src-place : goal.returns-then-src-place
returns-then-src-place c = tag-past (bits_of c.args.src.now) (c.args.at + 12) (omega (arith, length-bits_of c.args.src.now, c.if-src-place.true))

pub returns : goal.returns
returns c = ap (λ n. eqb n 1) c.bit.ensures ∙ tag_read _
