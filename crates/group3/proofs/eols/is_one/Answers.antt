-- `group3::eols::is_one` meets its contract. Assumes nothing.
use mathlib.Core.Path.{sym, ap, ◌∙◌}
use Prim.Native.Nat.{ℕ, ◌*◌}
use native.Mathlib.Omega.{arith}
use lib.Dec.{eqb}
use lib.ListN.{length, drop}
use borrow.Author.Tests.{leb-true, leb-false}
use Rattle.rules.specs.Bits.{bits_of}
use Rattle.rules.proofs.Bits.{length-bits_of}
use Rattle.group3.proofs.TagBits.{past_end, bit-one}
use Rattle.group3.proofs.eols.is_one.Goals as goal

pub returns-then-at_end : goal.returns-then-at_end
returns-then-at_end c =
    let a = c.args in
    sym (past_end (bits_of a.src.now) a.at (omega (arith, leb-true (8 * length a.src.now) a.at (sym c.at_end.ensures ∙ c.if-at_end.true), length-bits_of a.src.now)))

pub bit-requires : goal.bit-requires
bit-requires c = leb-false _ _ (sym c.at_end.ensures ∙ c.if-at_end.false)

pub returns : goal.returns
returns c = let a = c.args in ap (λ (n : ℕ). eqb n 1) c.bit.ensures ∙ bit-one (drop a.at (bits_of a.src.now))
