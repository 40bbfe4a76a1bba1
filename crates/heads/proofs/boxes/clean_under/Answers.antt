-- A box without a pixel on the page, and any other. Assumes nothing.
use mathlib.Core.Path.{◌≡◌, ◌∙◌}
use mathlib.Core.Bool.{true}
use borrow.Author.Tests.{le-ltb, lt-ltb}
use Rattle.std.proofs.Common.{inl, inr}
use Rattle.heads.specs.Form.{clean_under}
use Rattle.heads.proofs.Marks.{under_none, under_some}
use Rattle.heads.proofs.boxes.clean_under.Goals as goal

pub returns-then-columns-b : goal.returns-then-columns-b
returns-then-columns-b c =
    let a = c.args in
    let bare : true ≡ clean_under a.columns a.rows a.marks.now a.b = elim c.if-columns-b.either [
      | inl h ↦ under_none a.columns a.rows a.marks.now a.b (rw (le-ltb _ _ h))
      | inr h ↦ under_none a.columns a.rows a.marks.now a.b (rw (lt-ltb _ _ h.0, le-ltb _ _ h.1))
    ] in
    cc

pub returns-else-columns-b : goal.returns-else-columns-b
returns-else-columns-b c = c.clean_rows.ensures ∙ under_some _ _ _ _ c.if-columns-b.false.0 c.if-columns-b.false.1
