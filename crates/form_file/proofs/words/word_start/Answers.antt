-- `form_file::words::word_start` meets its contract. The invariant: all bytes that were passed are blanks. Assumes nothing.
use mathlib.Core.Path.{sym, ◌∙◌}
use native.Mathlib.Omega.{arith}
use borrow.Author.Tests.{not-true, not-false}
use Rattle.form_file.specs.Words.{is_blank}
use Rattle.form_file.proofs.Ahead.{walked-first, walked_next, walked_stop, walked_end}
use Rattle.form_file.proofs.words.word_start.Goals as goal

pub loop-i-init : goal.loop-i-init
loop-i-init c = walked-first is_blank _ _

pub returns-then-not-is_blank : goal.returns-then-not-is_blank
returns-then-not-is_blank c = walked_stop is_blank c.args.line.now _ c.loop-i.invariant c.loop-i-test.true (sym c.is_blank.ensures ∙ not-true _ c.if-not-is_blank.true-raw)

pub loop-i-preserved : goal.loop-i-preserved
loop-i-preserved c = walked_next is_blank c.args.line.now _ c.loop-i.invariant c.loop-i-test.true (sym c.is_blank.ensures ∙ not-false _ c.if-not-is_blank.false-raw)

pub returns : goal.returns
returns c = grind (arith, c.max.ensures, walked_end is_blank c.args.line.now c.args.at c.loop-i.invariant c.loop-i-test.false, walked_end is_blank c.args.line.now c.args.at (walked-first is_blank c.args.line.now c.args.at))
