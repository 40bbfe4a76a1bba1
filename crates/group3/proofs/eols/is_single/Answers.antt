-- `group3::eols::is_single` meets its contract. Assumes nothing.
use mathlib.Core.Path.{sym, ap, ◌∙◌}
use mathlib.Core.Bool.{not, true≢false}
use Prim.Native.Nat.{ℕ}
use native.Mathlib.Omega.{arith}
use lib.Dec.{eqb}
use lib.ListN.{drop}
use borrow.Author.Tests.{eq-eqb}
use Rattle.rules.specs.Bits.{bits_of, peek}
use Rattle.group3.proofs.Swiftly.{twelve, ten-behind}
use Rattle.group3.proofs.eols.is_single.Goals as goal

pub returns-then-src-at : goal.returns-then-src-at
returns-then-src-at c = λ e. absurd (true≢false (sym e))

pub ahead-ahead-requires : goal.ahead-ahead-requires
ahead-ahead-requires c = c.if-src-at.false

pub returns-then-ahead-ne1 : goal.returns-then-ahead-ne1
returns-then-ahead-ne1 c = λ e. absurd (true≢false (sym e))

pub returns : goal.returns
returns c = λ e.
    let a = c.args in (
      rw (eq-eqb (peek 12 (drop a.at (bits_of a.src.now))) 1 (sym (twelve c.ahead-ahead.ensures (omega arith)) ∙ c.if-ahead-ne1.false))
          (ap (λ (n : ℕ). not (eqb n 0)) (sym (ten-behind c.ahead-ahead.ensures (omega arith))) ∙ e),
      c.if-src-at.false,
    )
