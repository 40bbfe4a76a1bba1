-- `form_file::said::doubt_in` meets its contract. Assumes nothing.
use Rattle.form_file.proofs.Saying.{one-wrong, one-said}
use Rattle.form_file.specs.declared.said.Said.TheVariants.{Doubt as doubt}
use Rattle.form_file.proofs.said.doubt_in.Goals as goal

pub returns-then-v-ne1 : goal.returns-then-v-ne1
returns-then-v-ne1 c = λ ns h. one-wrong _ ns h doubt c.if-v-ne1.true

pub returns : goal.returns
returns c = λ ns h. one-said _ ns h doubt c.if-v-ne1.false
