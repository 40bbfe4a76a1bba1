use Rattle.one_line.proofs.OneCode.{runs-at, bad-no-runs, pass-no-runs, vertical-no-runs}
use Rattle.one_line.proofs.ModeCode.{comes-coloured, told-mode, mode-offset, mode-bad, mode-pass, mode-over, mode-unmoved, mode-vertical}
use mathlib.Core.Path.{sym, refl, ◌∙◌}
use Rattle.one_line.proofs.one_code.mode_code.Goals as goal

pub after_push-requires : goal.after_push-requires
after_push-requires c = comes-coloured _ _ _ _ _ (c.push_pixels-pushed.ensures 0 0)

pub moved-requires : goal.moved-requires
moved-requires c =
    let a = c.args in
    mode-offset a.src.now a.changes.now a.line a.at a.rules c.read_mode.result c.read_mode.ensures _ _ (told-mode c.in-Ok-Vertical-default.is c.in-Ok-Vertical-default.field-0-0-is)

pub returns-then-count-eq0 : goal.returns-then-count-eq0
returns-then-count-eq0 c =
    let a = c.args in
    let m = c.read_mode.ensures in
    let f = (told-mode c.in-Ok-Vertical-default.is c.in-Ok-Vertical-default.field-0-0-is) in (
      vertical-no-runs a.src.now a.at _ m _ _ f,
      λ reference e1 e2. rw c.unmoved.ensures (mode-unmoved a.src.now a.changes.now a.line a.at a.rules _ m reference _ _ _ f e1 _ (sym c.in-Some.is ∙ c.moved.ensures) c.requires.holds c.if-count-eq0.true),
    )

pub after_push-requires-in-Some : goal.after_push-requires-in-Some
after_push-requires-in-Some c = comes-coloured _ _ _ _ _ (c.push_pixels-pushed-in-Some.ensures 0 0)

pub returns-in-Err : goal.returns-in-Err
returns-in-Err c =
    let a = c.args in
    let m = c.read_mode.ensures in
    let f = c.in-Err.is in (
      bad-no-runs a.src.now a.at _ m _ f,
      λ reference e1 e2. rw c.number.ensures (mode-bad a.src.now a.changes.now a.line a.at a.rules _ m reference c.requires.holds _ f),
    )

pub returns-in-Ok-Horizontal-default : goal.returns-in-Ok-Horizontal-default
returns-in-Ok-Horizontal-default c =
    let a = c.args in
    (runs-at a.src.now a.at _ c.read_mode.ensures _ (told-mode c.in-Ok-Horizontal-default.is c.in-Ok-Horizontal-default.field-0-0-is), refl)

pub returns-in-Ok-Pass-default : goal.returns-in-Ok-Pass-default
returns-in-Ok-Pass-default c =
    let a = c.args in
    let m = c.read_mode.ensures in
    let f = (told-mode c.in-Ok-Pass-default.is c.in-Ok-Pass-default.field-0-0-is) in (
      pass-no-runs a.src.now a.at _ m _ f,
      λ reference e1 e2. rw c.after_push.ensures (mode-pass a.src.now a.changes.now a.line a.at a.rules _ m reference _ _ f e2 _ _ c.push_pixels-pushed.ensures),
    )

pub returns-in-None : goal.returns-in-None
returns-in-None c =
    let a = c.args in
    let m = c.read_mode.ensures in
    let f = (told-mode c.in-Ok-Vertical-default.is c.in-Ok-Vertical-default.field-0-0-is) in (
      vertical-no-runs a.src.now a.at _ m _ _ f,
      λ reference e1 e2. mode-over a.src.now a.changes.now a.line a.at a.rules _ m reference _ _ _ f e1 c.requires.holds (sym c.in-None.is ∙ c.moved.ensures),
    )

pub returns-else-count-eq0 : goal.returns-else-count-eq0
returns-else-count-eq0 c =
    let a = c.args in
    let m = c.read_mode.ensures in
    let f = (told-mode c.in-Ok-Vertical-default.is c.in-Ok-Vertical-default.field-0-0-is) in (
      vertical-no-runs a.src.now a.at _ m _ _ f,
      λ reference e1 e2. rw c.after_push-in-Some.ensures (mode-vertical a.src.now a.changes.now a.line a.at a.rules _ m reference _ _ _ f e1 _ (sym c.in-Some.is ∙ c.moved.ensures) c.requires.short c.if-count-eq0.false _ _ c.push_pixels-pushed-in-Some.ensures),
    )
