use mathlib.Core.Path.{sym, ap, ◌∙◌}
use Rattle.by_unit.specs.declared.PageEnd.{PageEnd}
use Rattle.by_unit.specs.Reading.{answer_for}
use Rattle.by_unit.proofs.answer_of.Goals as goal

pub returns-in-Done : goal.returns-in-Done
returns-in-Done c = c.counted.ensures ∙ sym (ap (λ (e : PageEnd). answer_for e c.args.counts) c.in-Done.is)

pub returns-in-InvalidCode : goal.returns-in-InvalidCode
returns-in-InvalidCode c = c.counted-in-InvalidCode.ensures ∙ sym (ap (λ (e : PageEnd). answer_for e c.args.counts) c.in-InvalidCode.is)

pub returns-in-UnexpectedEof : goal.returns-in-UnexpectedEof
returns-in-UnexpectedEof c = c.counted-in-UnexpectedEof.ensures ∙ sym (ap (λ (e : PageEnd). answer_for e c.args.counts) c.in-UnexpectedEof.is)

pub returns-in-Overflow : goal.returns-in-Overflow
returns-in-Overflow c = c.counted-in-Overflow.ensures ∙ sym (ap (λ (e : PageEnd). answer_for e c.args.counts) c.in-Overflow.is)

pub returns-in-NoEntry : goal.returns-in-NoEntry
returns-in-NoEntry c = c.counted-in-NoEntry.ensures ∙ sym (ap (λ (e : PageEnd). answer_for e c.args.counts) c.in-NoEntry.is)

pub returns-in-NoRowEnd : goal.returns-in-NoRowEnd
returns-in-NoRowEnd c = c.counted-in-NoRowEnd.ensures ∙ sym (ap (λ (e : PageEnd). answer_for e c.args.counts) c.in-NoRowEnd.is)

pub returns-in-Short : goal.returns-in-Short
returns-in-Short c = c.counted-in-Short.ensures ∙ sym (ap (λ (e : PageEnd). answer_for e c.args.counts) c.in-Short.is)
