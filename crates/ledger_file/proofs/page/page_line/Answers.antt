-- `ledger_file::page::page_line` meets its contract. Assumes nothing.
use Rattle.ledger_file.proofs.Paging.{not_five, no_number, refused-not, refused-so, counted-not, counted-so}
use Rattle.ledger_file.specs.Page.{page}
use borrow.Author.Tests.{not-true, not-false}
use native.Mathlib.Omega.{arith}
use mathlib.Core.Path.{sym, ap₂, ◌∙◌}
use Prim.Native.Nat.{ℕ}
use Rattle.ledger_file.proofs.page.page_line.Goals as goal

pub returns-then-count-ne5 : goal.returns-then-count-ne5
returns-then-count-ne5 c = c.no_page.ensures ∙ not_five c.args.line.now (λ z. omega (arith, c.count.ensures))

pub returns-then-number-ge-NONE : goal.returns-then-number-ge-NONE
returns-then-number-ge-NONE c = c.no_page-then-number-ge-NONE.ensures ∙ no_number c.args.line.now (omega (arith, c.count.ensures)) (omega (arith, c.number_of-number.ensures))

pub returns-then-not-is_field : goal.returns-then-not-is_field
returns-then-not-is_field c =
    c.no_page-then-not-is_field.ensures
    ∙ refused-not c.args.line.now (omega (arith, c.count.ensures)) (omega (arith, c.number_of-number.ensures)) (λ z. omega (arith, c.number_of-number.ensures))
    (sym c.is_field.ensures ∙ not-true _ c.if-not-is_field.true-raw)

pub returns-then-number-ne0 : goal.returns-then-number-ne0
returns-then-number-ne0 c =
    ap₂ (λ (n m : ℕ). page n m 0) c.length_of-name.ensures c.number_of-number.ensures
    ∙ refused-so c.args.line.now (omega (arith, c.count.ensures)) (omega (arith, c.number_of-number.ensures)) (λ z. omega (arith, c.number_of-number.ensures))
    (sym c.is_field.ensures ∙ not-false _ c.if-not-is_field.false-raw)

pub returns-then-heads-ge-NONE : goal.returns-then-heads-ge-NONE
returns-then-heads-ge-NONE c =
    c.no_page-then-heads-ge-NONE.ensures
    ∙ counted-not c.args.line.now (omega (arith, c.count.ensures)) (omega (arith, c.number_of-number.ensures)) (omega (arith, c.number_of-number.ensures))
    (omega (arith, c.number_of-heads.ensures))

pub returns : goal.returns
returns c =
    ap₂ (λ (n m : ℕ). page n 0 m) c.length_of-name.ensures c.number_of-heads.ensures
    ∙ counted-so c.args.line.now (omega (arith, c.count.ensures)) (omega (arith, c.number_of-number.ensures)) (omega (arith, c.number_of-number.ensures))
    (omega (arith, c.number_of-heads.ensures))
