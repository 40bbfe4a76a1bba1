-- `form_file::said::proper_in` meets its contract. Assumes nothing.
use Rattle.form_file.proofs.Saying.{proper-wrong, proper-said}
use Rattle.form_file.proofs.said.proper_in.Goals as goal

pub returns-then-v-ne0 : goal.returns-then-v-ne0
returns-then-v-ne0 c = λ ns h. proper-wrong _ ns h c.if-v-ne0.true

pub returns : goal.returns
returns c = λ ns h. proper-said _ ns h c.if-v-ne0.false
