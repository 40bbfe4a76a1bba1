-- `form_file::said::page_in` meets its contract. Assumes nothing.
use Rattle.form_file.proofs.Saying.{page-two, page-three, page-wrong}
use Rattle.form_file.proofs.said.page_in.Goals as goal

pub returns-then-v-eq2 : goal.returns-then-v-eq2
returns-then-v-eq2 c = λ ns h. page-two _ ns h c.if-v-eq2.true

pub returns-then-v-eq3 : goal.returns-then-v-eq3
returns-then-v-eq3 c = λ ns h. page-three _ ns h c.if-v-eq3.true

pub returns : goal.returns
returns c = λ ns h. page-wrong _ ns h c.if-v-eq2.false c.if-v-eq3.false
