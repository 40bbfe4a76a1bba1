-- `group3::eob::align` meets its contract. Assumes nothing.
use mathlib.Core.Path.{◌∙◌}
use Rattle.group3.proofs.Judging.{unaligned, aligned}
use Rattle.group3.proofs.eob.align.Goals as goal

pub returns-then-state : goal.returns-then-state
returns-then-state c = let a = c.args in unaligned a.settings.rows_are_byte_aligned a.state.eols a.state.at c.if-state.true

pub returns : goal.returns
returns c = let a = c.args in c.align_if.ensures ∙ aligned a.settings.rows_are_byte_aligned a.state.eols a.state.at c.if-state.false
