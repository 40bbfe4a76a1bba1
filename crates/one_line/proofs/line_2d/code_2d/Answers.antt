-- Each mode by its law.
use mathlib.Core.Path.{sym, ◌∙◌}
use Rattle.one_line.proofs.ModeCode.{comes-coloured, told-mode, mode-inside, mode-offset, mode-bad, mode-horizontal, mode-pass, mode-over, mode-unmoved, mode-vertical}
use Rattle.one_line.proofs.line_2d.code_2d.Goals as goal

pub mode_at-requires : goal.mode_at-requires
mode_at-requires g c = c.requires.reads.loading

pub horizontal-requires : goal.horizontal-requires
horizontal-requires g c =
    let a = c.args in
    let h = c.requires.reads in
    record {
      loading = record { size = h.loading.size; inside = mode-inside a.src.now a.changes.now a.line a.at a.rules c.mode_at.result c.mode_at.ensures _ (told-mode c.in-Ok-Horizontal-default.is c.in-Ok-Horizontal-default.field-0-0-is) };
      holds = h.holds;
    }

pub after_push-requires : goal.after_push-requires
after_push-requires g c = comes-coloured _ _ _ _ _ (c.push_pixels-pushed.ensures 0 0)

pub moved-requires : goal.moved-requires
moved-requires g c =
    let a = c.args in
    mode-offset a.src.now a.changes.now a.line a.at a.rules c.mode_at.result c.mode_at.ensures _ _ (told-mode c.in-Ok-Vertical-default.is c.in-Ok-Vertical-default.field-0-0-is)

pub returns-then-count-eq0 : goal.returns-then-count-eq0
returns-then-count-eq0 g c = λ reference e1 e2.
    let a = c.args in
    rw c.unmoved.ensures (mode-unmoved a.src.now a.changes.now a.line a.at a.rules _ c.mode_at.ensures reference _ _ _ (told-mode c.in-Ok-Vertical-default.is c.in-Ok-Vertical-default.field-0-0-is) e1 _ (sym c.in-Some.is ∙ c.moved.ensures) c.requires.reads.holds c.if-count-eq0.true)

pub after_push-requires-in-Some : goal.after_push-requires-in-Some
after_push-requires-in-Some g c = comes-coloured _ _ _ _ _ (c.push_pixels-pushed-in-Some.ensures 0 0)

pub returns-in-Err : goal.returns-in-Err
returns-in-Err g c = λ reference e1 e2.
    let a = c.args in
    rw c.number.ensures (mode-bad a.src.now a.changes.now a.line a.at a.rules _ c.mode_at.ensures reference c.requires.reads.holds _ c.in-Err.is)

pub returns-in-Ok-Horizontal-default : goal.returns-in-Ok-Horizontal-default
returns-in-Ok-Horizontal-default g c = λ reference e1 e2.
    let a = c.args in
    mode-horizontal a.src.now a.changes.now a.line a.at a.rules _ c.mode_at.ensures reference _ (told-mode c.in-Ok-Horizontal-default.is c.in-Ok-Horizontal-default.field-0-0-is) _ _ c.horizontal.ensures

pub returns-in-Ok-Pass-default : goal.returns-in-Ok-Pass-default
returns-in-Ok-Pass-default g c = λ reference e1 e2.
    let a = c.args in
    rw c.after_push.ensures (mode-pass a.src.now a.changes.now a.line a.at a.rules _ c.mode_at.ensures reference _ _ (told-mode c.in-Ok-Pass-default.is c.in-Ok-Pass-default.field-0-0-is) e2 _ _ c.push_pixels-pushed.ensures)

pub returns-in-None : goal.returns-in-None
returns-in-None g c = λ reference e1 e2.
    let a = c.args in
    mode-over a.src.now a.changes.now a.line a.at a.rules _ c.mode_at.ensures reference _ _ _ (told-mode c.in-Ok-Vertical-default.is c.in-Ok-Vertical-default.field-0-0-is) e1 c.requires.reads.holds (sym c.in-None.is ∙ c.moved.ensures)

pub returns-else-count-eq0 : goal.returns-else-count-eq0
returns-else-count-eq0 g c = λ reference e1 e2.
    let a = c.args in
    rw c.after_push-in-Some.ensures (mode-vertical a.src.now a.changes.now a.line a.at a.rules _ c.mode_at.ensures reference _ _ _ (told-mode c.in-Ok-Vertical-default.is c.in-Ok-Vertical-default.field-0-0-is) e1 _ (sym c.in-Some.is ∙ c.moved.ensures) c.requires.short c.if-count-eq0.false _ _ c.push_pixels-pushed-in-Some.ensures)
