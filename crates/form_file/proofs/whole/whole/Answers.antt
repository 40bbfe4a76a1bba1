-- `form_file::whole::whole` meets its contract: each test hands its outcome to a law of the definition. Assumes nothing.
use mathlib.Core.Path.{◌∙◌}
use native.Mathlib.Omega.{arith}
use Rattle.form_file.proofs.Sound.{whole-lacks, whole-doubt, whole-outside, whole-over, whole-place, whole-sound}
use Rattle.form_file.proofs.whole.whole.Goals as goal

pub returns-then-lacks-ne-NOTHING_MISSING : goal.returns-then-lacks-ne-NOTHING_MISSING
returns-then-lacks-ne-NOTHING_MISSING c =
    let a = c.args in
    c.faulty.ensures ∙ whole-lacks a.form a.boxes.now a.lines.now a.places.now _
    c.first_missing-lacks.ensures c.if-lacks-ne-NOTHING_MISSING.true

pub returns-then-form : goal.returns-then-form
returns-then-form c =
    let a = c.args in
    c.faulty-then-form.ensures ∙ whole-doubt a.form a.boxes.now a.lines.now a.places.now _
    c.first_missing-lacks.ensures (omega arith) c.if-form.true

pub returns-then-k-lt20 : goal.returns-then-k-lt20
returns-then-k-lt20 c =
    let a = c.args in
    c.faulty-then-k-lt20.ensures ∙ whole-outside a.form a.boxes.now a.lines.now a.places.now _
    c.first_missing-lacks.ensures (omega arith) c.if-form.false
    _ c.box_outside-k.ensures c.if-k-lt20.true

pub returns-then-k-lt20-2 : goal.returns-then-k-lt20-2
returns-then-k-lt20-2 c =
    let a = c.args in
    c.faulty-then-k-lt20-2.ensures ∙ whole-over a.form a.boxes.now a.lines.now a.places.now _
    c.first_missing-lacks.ensures (omega arith) c.if-form.false
    _ c.box_outside-k.ensures c.if-k-lt20.false _ c.box_over-k.ensures c.if-k-lt20-2.true

pub returns-then-k-count : goal.returns-then-k-count
returns-then-k-count c =
    let a = c.args in
    c.faulty-then-k-count.ensures ∙ whole-place a.form a.boxes.now a.lines.now a.places.now _
    c.first_missing-lacks.ensures (omega arith) c.if-form.false
    _ c.box_outside-k.ensures c.if-k-lt20.false _ c.box_over-k.ensures c.if-k-lt20-2.false
    _ c.place_outside-k.ensures c.if-k-count.true

pub returns : goal.returns
returns c =
    let a = c.args in
    whole-sound a.form a.boxes.now a.lines.now a.places.now _
    c.first_missing-lacks.ensures (omega arith) c.if-form.false
    _ c.box_outside-k.ensures c.if-k-lt20.false _ c.box_over-k.ensures c.if-k-lt20-2.false
    _ c.place_outside-k.ensures c.if-k-count.false _ c.doubted-form.ensures
