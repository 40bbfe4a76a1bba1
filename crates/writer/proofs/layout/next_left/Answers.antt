-- `writer::layout::next_left` meets its contract. Assumes nothing.
use mathlib.Core.Path.{sym, ap, subst}
use Prim.Native.Nat.{◌-◌}
use Rattle.rules.specs.WriteGroup3.{k_of}
use Rattle.writer.specs.Paging3.{layout_of, Laid}
use Rattle.writer.proofs.Row3Laws.{left_less, left-anew}
use Rattle.writer.proofs.layout.next_left.Goals as goal

pub returns-then-left-ne0 : goal.returns-then-left-ne0
returns-then-left-ne0 c = left_less _ _ c.if-left-ne0.true

pub overflow_sub-result-in-Mixed : goal.overflow_sub-result-in-Mixed
overflow_sub-result-in-Mixed c = subst (λ l. Laid (layout_of l)) c.in-Mixed.is c.requires

pub returns-in-Bare : goal.returns-in-Bare
returns-in-Bare c = left-anew _ _ _ c.if-left-ne0.false (ap (λ l. k_of (layout_of l) - 1) (sym c.in-Bare.is))

pub returns-in-Filled : goal.returns-in-Filled
returns-in-Filled c = left-anew _ _ _ c.if-left-ne0.false (ap (λ l. k_of (layout_of l) - 1) (sym c.in-Filled.is))

pub returns-in-Mixed : goal.returns-in-Mixed
returns-in-Mixed c = left-anew _ _ _ c.if-left-ne0.false (ap (λ l. k_of (layout_of l) - 1) (sym c.in-Mixed.is))
