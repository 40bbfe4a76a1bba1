-- `turn_on` meets its contract: each test, and then the units. Assumes nothing.
use mathlib.Core.Path.{sym, ◌∙◌}
use native.Mathlib.Omega.{arith}
use native.Mathlib.Nat.{min-le_left}
use lib.ListN.{length}
use borrow.Author.Tests.{not-true, not-false}
use Rattle.by_unit.proofs.Turning.{turn-6, turn-7, turn-8, turn-no-columns, placed, turn-asks, turn-took, turn-reads}
use Rattle.by_unit.proofs.turn_on.Goals as goal

pub returns-then-settings-eq-MOST_PIXELS : goal.returns-then-settings-eq-MOST_PIXELS
returns-then-settings-eq-MOST_PIXELS c =
    let a = c.args in
    turn-6 a.src.now a.settings a.changes.now a.ends.now a.marks.now a.saved a.n c.if-settings-eq-MOST_PIXELS.true _ c.refusal.ensures _ c.still.ensures

pub returns-then-src-gt-MOST_BYTES : goal.returns-then-src-gt-MOST_BYTES
returns-then-src-gt-MOST_BYTES c =
    let a = c.args in
    turn-7 a.src.now a.settings a.changes.now a.ends.now a.marks.now a.saved a.n c.if-settings-eq-MOST_PIXELS.false c.if-src-gt-MOST_BYTES.true _ c.refusal-then-src-gt-MOST_BYTES.ensures _ c.still-then-src-gt-MOST_BYTES.ensures

pub returns-then-not-is_sound : goal.returns-then-not-is_sound
returns-then-not-is_sound c =
    let a = c.args in
    turn-8 a.src.now a.settings a.changes.now a.ends.now a.marks.now a.saved a.n c.if-settings-eq-MOST_PIXELS.false c.if-src-gt-MOST_BYTES.false (sym c.is_sound.ensures ∙ not-true _ c.if-not-is_sound.true-raw) _ c.refusal-then-not-is_sound.ensures _ c.still-then-not-is_sound.ensures

pub returns-then-settings-eq0 : goal.returns-then-settings-eq0
returns-then-settings-eq0 c =
    let a = c.args in
    turn-no-columns a.src.now a.settings a.changes.now a.ends.now a.marks.now a.saved a.n c.if-settings-eq-MOST_PIXELS.false c.if-src-gt-MOST_BYTES.false (sym c.is_sound.ensures ∙ not-false _ c.if-not-is_sound.false-raw) c.if-settings-eq0.true _ c.refusal-then-settings-eq0.ensures _ c.ended.ensures

pub kept-kept-requires : goal.kept-kept-requires
kept-kept-requires c =
    let a = c.args in
    omega (arith, placed a.src.now a.settings a.changes.now a.ends.now a.marks.now a.saved a.n c.if-settings-eq-MOST_PIXELS.false c.if-src-gt-MOST_BYTES.false (sym c.is_sound.ensures ∙ not-false _ c.if-not-is_sound.false-raw), min-le_left (length a.ends.now) (length a.marks.now))

pub take-taken-requires : goal.take-taken-requires
take-taken-requires c =
    let a = c.args in
    turn-asks a.src.now a.settings a.changes.now a.ends.now a.marks.now a.saved a.n c.if-settings-eq-MOST_PIXELS.false c.if-src-gt-MOST_BYTES.false (sym c.is_sound.ensures ∙ not-false _ c.if-not-is_sound.false-raw) c.if-settings-eq0.false (omega (arith, c.struct_known-1.given)) _ c.as_read-read.ensures _ c.kept-kept.ensures _ c.stand-at.ensures

pub returns : goal.returns
returns c =
    let a = c.args in
    turn-reads a.src.now a.settings a.changes.now a.ends.now a.marks.now a.saved a.n c.if-settings-eq-MOST_PIXELS.false c.if-src-gt-MOST_BYTES.false (sym c.is_sound.ensures ∙ not-false _ c.if-not-is_sound.false-raw) c.if-settings-eq0.false (omega (arith, c.struct_known-1.given)) _ _ _ _
    (turn-took a.src.now a.settings a.changes.now a.ends.now a.marks.now a.saved a.n c.if-settings-eq-MOST_PIXELS.false c.if-src-gt-MOST_BYTES.false (sym c.is_sound.ensures ∙ not-false _ c.if-not-is_sound.false-raw) c.if-settings-eq0.false (omega (arith, c.struct_known-1.given)) _ c.as_read-read.ensures _ c.kept-kept.ensures _ c.stand-at.ensures _ _ _ _ c.take-taken.ensures)
    _ c.turn_of.ensures
