-- `form_file::said::says` meets its contract. Assumes nothing.
use Prim.Native.Nat.{◌≤◌, ◌<◌}
use lib.ListN.{length}
use native.Mathlib.Omega.{arith}
use borrow.Author.Tests.{not-true, not-false}
use Rattle.form_file.proofs.Saying.{line-nothing, word-inside, line-wrong, line_word}
use Rattle.form_file.proofs.said.says.Goals.{After-word_end-end}
use Rattle.form_file.proofs.said.says.Goals as goal

-- the first word lies in the line
inside : (c : After-word_end-end)
    → let at = c.word_start-at.result in (at < c.word_end-end.result) × (c.word_end-end.result ≤ length c.args.line.now)
inside c = word-inside _ _ c.word_start-at.ensures c.if-at-line.false _ c.word_end-end.ensures

pub returns-then-at-line : goal.returns-then-at-line
returns-then-at-line c = line-nothing _ _ c.word_start-at.ensures c.if-at-line.true

pub values_in-v-requires : goal.values_in-v-requires
values_in-v-requires c = (inside (goal.at.values_in-v-requires c).After-word_end-end).1

pub returns-then-not-v : goal.returns-then-not-v
returns-then-not-v c =
    line-wrong _ _ c.word_start-at.ensures c.if-at-line.false _ c.word_end-end.ensures _ c.values_in-v.ensures (not-true _ c.if-not-v.true)

pub slice_bounds-by_word-count : goal.slice_bounds-by_word-count
slice_bounds-by_word-count c = omega (arith, (inside (goal.at.slice_bounds-by_word-count c).After-word_end-end).0)

pub slice_bounds-by_word-end : goal.slice_bounds-by_word-end
slice_bounds-by_word-end c = omega (arith, (inside (goal.at.slice_bounds-by_word-end c).After-word_end-end).1)

pub returns : goal.returns
returns c =
    line_word
    _
    _
    c.word_start-at.ensures
    c.if-at-line.false
    _
    c.word_end-end.ensures
    _
    c.values_in-v.ensures
    (not-false _ c.if-not-v.false)
    _
    c.by_word.ensures
