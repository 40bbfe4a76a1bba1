-- `writer::same_page::same_zeros` meets its contract. Nothing at the end of a byte, and else a code of zeros. Assumes nothing.
use mathlib.Core.Path.{ap}
use Prim.Native.Nat.{◌-◌}
use Rattle.writer.proofs.PartingLaws.{zeros-none, zeros-sound, zeros-met}
use Rattle.writer.proofs.same_page.same_zeros.Goals as goal

pub returns-then-size-eq0 : goal.returns-then-size-eq0
returns-then-size-eq0 c = zeros-none c.requires _ (ap (λ n. n - c.args.at) c.align.ensures) c.if-size-eq0.true

pub meet-requires : goal.meet-requires
meet-requires c =
    (c.requires, zeros-sound c.requires _ (ap (λ n. n - c.args.at) c.align.ensures) c.if-size-eq0.false)

pub returns : goal.returns
returns c = zeros-met c.requires _ (ap (λ n. n - c.args.at) c.align.ensures) c.if-size-eq0.false c.meet.ensures
