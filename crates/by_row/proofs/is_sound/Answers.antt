use mathlib.Core.Path.{sym, ◌∙◌}
use lib.Seq.{length-take-le}
use Rattle.by_row.proofs.ByRow.{bad-at, bad-array, bad-held, bad-rows, bad-entries, all-good}
use Rattle.by_row.proofs.is_sound.Goals as goal

pub returns-then-size-state : goal.returns-then-size-state
returns-then-size-state c = let a = c.args in bad-at a.size a.columns a.state a.array.now c.if-size-state.true

pub returns-then-array-state : goal.returns-then-array-state
returns-then-array-state c = let a = c.args in bad-array a.size a.columns a.state a.array.now c.if-size-state.false c.if-array-state.true

pub returns-then-most-state : goal.returns-then-most-state
returns-then-most-state c = let a = c.args in bad-held a.size a.columns a.state a.array.now c.if-size-state.false c.if-array-state.false c.if-most-state.true

pub returns-then-most-state-2 : goal.returns-then-most-state-2
returns-then-most-state-2 c = let a = c.args in bad-rows a.size a.columns a.state a.array.now c.if-size-state.false c.if-array-state.false c.if-most-state.false c.if-most-state-2.true

pub returns-then-most-state-3 : goal.returns-then-most-state-3
returns-then-most-state-3 c = let a = c.args in bad-entries a.size a.columns a.state a.array.now c.if-size-state.false c.if-array-state.false c.if-most-state.false c.if-most-state-2.false c.if-most-state-3.true

pub slice_bounds-ascends-end : goal.slice_bounds-ascends-end
slice_bounds-ascends-end c = let a = c.args in sym (length-take-le a.state.held a.array.now c.if-array-state.false)

pub returns : goal.returns
returns c = let a = c.args in c.ascends.ensures ∙ all-good a.size a.columns a.state a.array.now c.if-size-state.false c.if-array-state.false c.if-most-state.false c.if-most-state-2.false c.if-most-state-3.false
