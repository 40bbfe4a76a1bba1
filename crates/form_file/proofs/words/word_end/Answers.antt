-- `form_file::words::word_end` meets its contract. The invariant: all bytes that were passed are letters. Assumes nothing.
use mathlib.Core.Path.{sym, ap, ◌∙◌}
use mathlib.Core.Bool.{not}
use native.Mathlib.Omega.{arith}
use Rattle.form_file.specs.Steps.{is_letter}
use Rattle.form_file.proofs.Ahead.{walked-first, walked_next, walked_stop, walked_end}
use Rattle.form_file.proofs.words.word_end.Goals as goal

pub loop-i-init : goal.loop-i-init
loop-i-init c = walked-first is_letter _ _

pub returns-then-is_blank : goal.returns-then-is_blank
returns-then-is_blank c = walked_stop is_letter c.args.line.now _ c.loop-i.invariant c.loop-i-test.true (ap not (sym c.is_blank.ensures ∙ c.if-is_blank.true))

pub loop-i-preserved : goal.loop-i-preserved
loop-i-preserved c = walked_next is_letter c.args.line.now _ c.loop-i.invariant c.loop-i-test.true (ap not (sym c.is_blank.ensures ∙ c.if-is_blank.false))

pub returns : goal.returns
returns c = grind (arith, c.max.ensures, walked_end is_letter c.args.line.now c.args.at c.loop-i.invariant c.loop-i-test.false, walked_end is_letter c.args.line.now c.args.at (walked-first is_letter c.args.line.now c.args.at))
