-- `group3::eob::is_usual` meets its contract. Assumes nothing.
use mathlib.Core.Path.{sym}
use mathlib.Core.Bool.{true≢false}
use borrow.Author.Tests.{ne_eqb, not-false}
use Rattle.group3.proofs.eob.is_usual.Goals as goal

pub returns-then-state-eq0 : goal.returns-then-state-eq0
returns-then-state-eq0 c = λ e. absurd (true≢false (sym e))

pub returns-then-not-state : goal.returns-then-not-state
returns-then-not-state c = λ e. absurd (true≢false (sym e))

pub returns-then-state-settings : goal.returns-then-state-settings
returns-then-state-settings c = λ e. absurd (true≢false (sym e))

pub returns : goal.returns
returns c = λ e.
    let a = c.args in
    let s = c.is_single.ensures e in (
      rw (
        ne_eqb a.state.rows 0 c.if-state-eq0.false,
        not-false a.state.eols c.if-not-state.false,
        ne_eqb a.state.rows a.settings.rows c.if-state-settings.false,
      )
          s.0,
      s.1,
    )
