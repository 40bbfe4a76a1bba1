-- By the first offset that differs. Assumes nothing.
use Rattle.booking.proofs.Looking.{lying, behind-inside, behind-none, behind-fails, behind-other}
use Rattle.booking.specs.Found.{differs}
use Rattle.form_file.specs.First.{first_of}
use Rattle.heads.specs.Form.{page_in}
use native.Mathlib.Omega.{arith}
use Prim.Native.Nat.{ℕ, ◌+◌, ◌-◌}
use mathlib.Core.Path.{◌≡◌, ap, ◌∙◌}
use Rattle.booking.proofs.found.found_behind.Reads as reads
use Rattle.booking.proofs.found.found_behind.Lts as lts
use Rattle.booking.proofs.found.found_at.Reads as found-at-reads
use Rattle.booking.proofs.found.other_fit.Reads as other-fit-reads
use Rattle.booking.proofs.tests.found.Reads as found-reads
use Rattle.booking.proofs.found.found_behind.Goals as goal

pub returns-then-offsets-j : goal.returns-then-offsets-j
returns-then-offsets-j c =
    let a = c.args in
    let page = page_in a.columns a.changes.now a.ends.now in
    behind-none a.form a.boxes.now a.places.now a.encoding page a.marks.now a.i _ a.first c.requires.3
    (c.other_fit-j.ensures ∙ ap (λ (n : ℕ). first_of (differs a.form a.boxes.now a.places.now a.encoding page a.marks.now a.first.heads) (n - (a.i + 1)) (a.i + 1)) c.requires.1)
    (omega (arith, c.requires.1, c.if-offsets-j.true))

pub found_at-f-requires : goal.found_at-f-requires
found_at-f-requires c =
    let a = c.args in
    let page = page_in a.columns a.changes.now a.ends.now in
    lying a.columns a.rows a.changes.now a.ends.now a.marks.now a.form a.boxes.now a.places.now c.requires.0 (omega arith) _
    (behind-inside a.form a.boxes.now a.places.now a.encoding page a.marks.now a.i _ a.first c.requires.3
    (c.other_fit-j.ensures ∙ ap (λ (n : ℕ). first_of (differs a.form a.boxes.now a.places.now a.encoding page a.marks.now a.first.heads) (n - (a.i + 1)) (a.i + 1)) c.requires.1)
    (omega (arith, c.requires.1, c.requires.2)) (omega (arith, c.requires.1, c.if-offsets-j.false)))

pub returns-then-f-ne-COMPLETE : goal.returns-then-f-ne-COMPLETE
returns-then-f-ne-COMPLETE c =
    let a = c.args in
    let page = page_in a.columns a.changes.now a.ends.now in
    behind-fails a.form a.boxes.now a.places.now a.encoding page a.marks.now a.i _ a.first c.requires.3
    (c.other_fit-j.ensures ∙ ap (λ (n : ℕ). first_of (differs a.form a.boxes.now a.places.now a.encoding page a.marks.now a.first.heads) (n - (a.i + 1)) (a.i + 1)) c.requires.1)
    (omega (arith, c.requires.1, c.if-offsets-j.false)) _ c.found_at-f.ensures c.if-f-ne-COMPLETE.true

pub returns : goal.returns
returns c =
    let a = c.args in
    let page = page_in a.columns a.changes.now a.ends.now in
    c.found.ensures
    ∙ behind-other a.form a.boxes.now a.places.now a.encoding page a.marks.now a.i _ a.first c.requires.3
    (c.other_fit-j.ensures ∙ ap (λ (n : ℕ). first_of (differs a.form a.boxes.now a.places.now a.encoding page a.marks.now a.first.heads) (n - (a.i + 1)) (a.i + 1)) c.requires.1)
    (omega (arith, c.requires.1, c.if-offsets-j.false)) _ c.found_at-f.ensures c.if-f-ne-COMPLETE.false
