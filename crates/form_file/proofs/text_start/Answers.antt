-- `form_file::text_start` meets its contract: a text of fewer than three bytes has no mark, and any other is asked for it. Assumes nothing.
use mathlib.Core.Path.{sym, refl}
use mathlib.Core.Bool.{false}
use Rattle.form_file.proofs.Forming.{marked, unmarked, short-text}
use Rattle.form_file.proofs.text_start.Goals as goal

pub returns-then-text-lt3 : goal.returns-then-text-lt3
returns-then-text-lt3 c = unmarked c.args.text.now false (sym (short-text c.args.text.now c.if-text-lt3.true)) refl

pub returns-then-same : goal.returns-then-same
returns-then-same c = marked c.args.text.now _ c.same.ensures c.if-same.true

pub returns : goal.returns
returns c = unmarked c.args.text.now _ c.same.ensures c.if-same.false
