-- A box without a pixel on the page, and any other. Assumes nothing.
use mathlib.Core.Path.{◌≡◌}
use mathlib.Core.Bool.{true}
use lib.ListN.{length}
use borrow.Author.Tests.{le-ltb, lt-ltb}
use Rattle.std.proofs.Common.{inl, inr}
use Rattle.heads.specs.Form.{clean_under}
use Rattle.heads.proofs.Marks.{under_none}
use Rattle.booking.proofs.Unclean.{under_first}
use Rattle.booking.proofs.tests.clean_under.Goals as goal

pub returns-then-columns-b : goal.returns-then-columns-b
returns-then-columns-b c =
    let a = c.args in
    let bare : true ≡ clean_under a.columns (length a.marks.now) a.marks.now a.b = elim c.if-columns-b.either [
      | inl h ↦ under_none a.columns (length a.marks.now) a.marks.now a.b (rw (le-ltb _ _ h))
      | inr h ↦ under_none a.columns (length a.marks.now) a.marks.now a.b (rw (lt-ltb _ _ h.0, le-ltb _ _ h.1))
    ] in
    cc

pub returns-else-columns-b : goal.returns-else-columns-b
returns-else-columns-b c =
    let a = c.args in
    rw c.bad_row.ensures (under_first a.marks.now a.columns a.b c.if-columns-b.false.0 c.if-columns-b.false.1)
