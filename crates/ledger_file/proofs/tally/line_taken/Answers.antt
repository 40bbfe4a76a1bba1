-- `ledger_file::tally::line_taken` meets its contract. Assumes nothing.
use Rattle.ledger_file.proofs.Tallies.{takes-total, takes_none, takes-page, page-tabbed}
use Rattle.ledger_file.specs.Tallying.{sum_in}
use borrow.Author.Tests.{not-true, not-false}
use lib.ListN.{length, take, drop}
use Prim.Native.Nat.{◌-◌}
use mathlib.Core.Path.{refl, sym, ◌∙◌}
use Rattle.ledger_file.proofs.tally.line_taken.Goals as goal

pub returns-then-is_total : goal.returns-then-is_total
returns-then-is_total c =
    let a = c.args in
    let line = take (a.end - a.at) (drop a.at a.text.now) in
    rw (takes-total a.text.now (length a.starts.now) a.at line (sum_in a.t a.starts.now) (sym c.is_total.ensures ∙ c.if-is_total.true)) (c.total_taken.ensures a.text.now a.starts.now c.requires.2)

pub returns-then-not-p : goal.returns-then-not-p
returns-then-not-p c =
    let a = c.args in
    let line = take (a.end - a.at) (drop a.at a.text.now) in
    record { is = takes_none a.text.now (length a.starts.now) a.at line (sum_in a.t a.starts.now) (sym c.is_total.ensures ∙ c.if-is_total.false) c.page_line-p.ensures (not-true _ c.if-not-p.true); same = refl }

pub page_taken-requires : goal.page_taken-requires
page_taken-requires c =
    let a = c.args in
    let p = page-tabbed a.text.now a.at (a.end - a.at) c.page_line-p.ensures (not-false _ c.if-not-p.false) in
    (c.requires.2, p.0, p.1)

pub returns : goal.returns
returns c =
    let a = c.args in
    let line = take (a.end - a.at) (drop a.at a.text.now) in
    rw (takes-page a.text.now (length a.starts.now) a.at line (sum_in a.t a.starts.now) (sym c.is_total.ensures ∙ c.if-is_total.false) c.page_line-p.ensures (not-false _ c.if-not-p.false) c.verdict_of-v.ensures) c.page_taken.ensures
