-- `form_file::said::square` meets its contract. Assumes nothing.
use Rattle.form_file.proofs.Saying.{box-wrong, box-ten, box-said}
use Rattle.form_file.proofs.said.square.Goals as goal

pub returns-then-v-ne5 : goal.returns-then-v-ne5
returns-then-v-ne5 c = λ ns h. box-wrong _ ns h _ c.if-v-ne5.true

pub returns-then-n-gt9 : goal.returns-then-n-gt9
returns-then-n-gt9 c = λ ns h. box-ten _ ns h _ c.if-v-ne5.false c.if-n-gt9.true

pub returns : goal.returns
returns c = λ ns h. box-said _ ns h _ c.if-v-ne5.false c.if-n-gt9.false
