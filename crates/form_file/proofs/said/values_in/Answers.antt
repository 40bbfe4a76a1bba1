-- `form_file::said::values_in` meets its contract. The invariant: the numbers of the words that were passed are told. Assumes nothing.
use mathlib.Core.Path.{refl}
use Prim.Native.Nat.{◌≤◌, ◌<◌}
use native.Mathlib.Omega.{arith}
use lib.ListN.{length}
use Rattle.form_file.proofs.Numbering.{told-first, told-next, told-last, word-ends, More, more-not, more-put, more-past}
use Rattle.form_file.proofs.said.values_in.Goals.{After-word_end-end, After-word_start-at-in-loop-at, then-value-ge-NONE, else-value-ge-NONE+then-count-lt5, else-value-ge-NONE+else-count-lt5}
use Rattle.form_file.proofs.said.values_in.Goals as goal

-- a word lies in the line, and has a byte
inside : (c : After-word_end-end)
    → (c.loop-at.at < c.word_end-end.result) × (c.word_end-end.result ≤ length c.args.line.now)
inside c = word-ends _ _ c.loop-at.invariant c.loop-at-test.true _ c.word_end-end.ensures

-- what the array and the flag have behind a word
more : (c : After-word_start-at-in-loop-at)
    → let l = c.loop-at in More l.n l.count l.held c.value-value.result c.if-value-ge-NONE.n c.if-value-ge-NONE.held
more c =
    let l = c.loop-at in
    elim c.if-value-ge-NONE.branch [
      | then-value-ge-NONE w ↦ more-not l.n l.count l.held _ l.invariant.long _ _ w.if-value-ge-NONE.true w.n-is w.held-is
      | else-value-ge-NONE+then-count-lt5 w ↦ more-put l.n l.count l.held _ l.invariant.long _ _ (omega arith) w.held-is w.if-count-lt5.true w.n-is
      | else-value-ge-NONE+else-count-lt5 w ↦ more-past l.n l.count l.held _ l.invariant.long _ _ (omega arith) w.held-is w.if-count-lt5.false w.n-is
    ]

pub loop-at-init : goal.loop-at-init
loop-at-init c = told-first _ _ _ c.requires refl _ c.word_start-at.ensures

pub slice_bounds-value-count : goal.slice_bounds-value-count
slice_bounds-value-count c = omega (arith, (inside (goal.at.slice_bounds-value-count c).After-word_end-end).0)

pub slice_bounds-value-end : goal.slice_bounds-value-end
slice_bounds-value-end c = omega (arith, (inside (goal.at.slice_bounds-value-end c).After-word_end-end).1)

pub overflow_cast-n : goal.overflow_cast-n
overflow_cast-n c = omega arith

pub offset_bounds-n-count : goal.offset_bounds-n-count
offset_bounds-n-count c = omega arith

pub bounds-n-count : goal.bounds-n-count
bounds-n-count c = omega arith

pub overflow_add-count : goal.overflow_add-count
overflow_add-count c = omega (arith, c.loop-at.invariant.few)

pub loop-at-smaller : goal.loop-at-smaller
loop-at-smaller c = omega (arith, (inside (goal.at.loop-at-smaller c).After-word_end-end).0)

pub loop-at-preserved : goal.loop-at-preserved
loop-at-preserved c = told-next _ _ c.loop-at.invariant c.loop-at-test.true _ c.word_end-end.ensures _ c.value-value.ensures _ _ (more (goal.at.loop-at-preserved c).After-word_start-at-in-loop-at) _ c.word_start-at-in-loop-at.ensures

pub returns : goal.returns
returns c = told-last _ _ c.loop-at.invariant c.loop-at-test.false
