-- `form_file::said::shift_in` meets its contract. Assumes nothing.
use Rattle.form_file.proofs.Saying.{shift-wrong, shift-said}
use Rattle.form_file.proofs.said.shift_in.Goals as goal

pub returns-then-v-ne2 : goal.returns-then-v-ne2
returns-then-v-ne2 c = λ ns h. shift-wrong _ ns h c.if-v-ne2.true

pub returns : goal.returns
returns c = λ ns h. shift-said _ ns h c.if-v-ne2.false
