-- `group3::eob::judge` meets its contract. Assumes nothing.
use mathlib.Core.Path.{sym, ◌∙◌}
use Rattle.group3.proofs.Judging.{end_is, judged-rtc, judged-rows, judged-data, judged-on}
use Rattle.group3.proofs.eob.judge.Goals as goal

pub returns-then-is_rtc : goal.returns-then-is_rtc
returns-then-is_rtc c =
    let a = c.args in
    judged-rtc a.settings a.src.now a.rows_done a.expected a.eols (sym c.is_rtc.ensures ∙ c.if-is_rtc.true)

pub returns-then-rows_done : goal.returns-then-rows_done
returns-then-rows_done c =
    let a = c.args in
    judged-rows a.settings a.src.now a.rows_done a.expected a.eols c.if-rows_done.true

pub returns-then-at_end : goal.returns-then-at_end
returns-then-at_end c =
    let a = c.args in
    judged-data a.settings a.src.now a.rows_done a.expected a.eols (sym (end_is a.src.now a.eols.at _ c.at_end.ensures) ∙ c.if-at_end.true)

pub returns : goal.returns
returns c =
    let a = c.args in
    judged-on a.settings a.src.now a.rows_done a.expected a.eols (sym c.is_rtc.ensures ∙ c.if-is_rtc.false) c.if-rows_done.false
    (sym (end_is a.src.now a.eols.at _ c.at_end.ensures) ∙ c.if-at_end.false)
