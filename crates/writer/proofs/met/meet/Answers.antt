-- `writer::met::meet` meets its contract: at once where all bits are there and the same, and else bit by bit. Assumes nothing.
use mathlib.Core.Path.{sym, ap, ◌∙◌}
use Prim.Native.Nat.{◌-◌, ◌/◌, ◌^◌}
use Rattle.writer.proofs.BitsMet.{code-there}
use Rattle.writer.proofs.met.meet.Goals as goal

pub returns-then-peek-code : goal.returns-then-peek-code
returns-then-peek-code c =
    code-there c.requires.1 c.if-end-src.true (ap (λ n. n / 2 ^ (32 - c.args.code.size)) (sym c.peek.ensures) ∙ c.if-peek-code.true)
