-- `form_file::said::place_in` meets its contract. Assumes nothing.
use Rattle.form_file.proofs.Saying.{place-wrong, place-said}
use Rattle.form_file.proofs.said.place_in.Goals as goal

pub returns-then-v-ne5 : goal.returns-then-v-ne5
returns-then-v-ne5 c = λ ns h. place-wrong _ ns h _ c.if-v-ne5.true

pub returns : goal.returns
returns c = λ ns h. place-said _ ns h _ c.if-v-ne5.false
