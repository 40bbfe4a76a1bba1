-- `heads::store::sound` meets its contract. Assumes nothing.
use mathlib.Core.Path.{sym, ◌∙◌}
use Rattle.heads.proofs.Answering.{sound-not, sound-marks}
use Rattle.heads.proofs.store.sound.Goals as goal

pub returns-then-ascend : goal.returns-then-ascend
returns-then-ascend c = c.marked.ensures ∙ sound-marks _ _ _ _ (sym c.ascend.ensures ∙ c.if-ascend.true)

pub returns-else-ascend : goal.returns-else-ascend
returns-else-ascend c = c.if-ascend.false ∙ sound-not _ _ _ _ (sym c.ascend.ensures ∙ c.if-ascend.false)
