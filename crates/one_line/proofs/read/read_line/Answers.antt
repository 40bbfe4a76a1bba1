-- Each test by its law; the line that is read has as few changes as columns, so they can be counted.
use mathlib.Core.Path.{sym, ◌∙◌}
use borrow.Author.Tests.{not-true, not-false}
use Rattle.one_line.proofs.OneLine.{refused_none, refused-wide, refused-long, refused-reference, past_end, Open, line-asked, line_read}
use Rattle.one_line.proofs.read.read_line.Goals.{then-columns-eq0-via-then-columns-eq0, then-columns-eq0-via-else-columns-eq0+then-columns-eq-MOST_PIXELS}
use Rattle.one_line.proofs.read.read_line.Goals as goal

pub returns-then-columns-eq0 : goal.returns-then-columns-eq0
returns-then-columns-eq0 c =
    rw c.refusal.ensures
    (elim c.then-columns-eq0.branch [
      | then-columns-eq0-via-then-columns-eq0 w ↦ refused_none w.if-columns-eq0.true
      | then-columns-eq0-via-else-columns-eq0+then-columns-eq-MOST_PIXELS w ↦ refused-wide w.if-columns-eq0.false w.if-columns-eq-MOST_PIXELS.true
    ])

pub returns-then-src-gt-MOST_BYTES : goal.returns-then-src-gt-MOST_BYTES
returns-then-src-gt-MOST_BYTES c = rw c.refusal-then-src-gt-MOST_BYTES.ensures (refused-long c.if-columns-eq0.false c.if-columns-eq-MOST_PIXELS.false c.if-src-gt-MOST_BYTES.true)

pub returns-then-not-ascends : goal.returns-then-not-ascends
returns-then-not-ascends c = rw c.refusal-then-not-ascends.ensures (refused-reference c.if-columns-eq0.false c.if-columns-eq-MOST_PIXELS.false c.if-src-gt-MOST_BYTES.false (sym c.ascends.ensures ∙ not-true _ c.if-not-ascends.true-raw))

pub returns-then-at-end : goal.returns-then-at-end
returns-then-at-end c = rw c.past.ensures (past_end c.if-columns-eq0.false c.if-columns-eq-MOST_PIXELS.false c.if-src-gt-MOST_BYTES.false (sym c.ascends.ensures ∙ not-false _ c.if-not-ascends.false-raw) c.if-at-end.true)

pub decode_2d_line-requires : goal.decode_2d_line-requires
decode_2d_line-requires c = (line-asked ((let h-opened : Open c.args.src.now c.args.at c.args.columns c.args.reference.now = record { some = c.if-columns-eq0.false; narrow = c.if-columns-eq-MOST_PIXELS.false; small = c.ranges.columns.fits; short = c.if-src-gt-MOST_BYTES.false; rising = sym c.ascends.ensures ∙ not-false _ c.if-not-ascends.false-raw; inside = c.if-at-end.false } in h-opened)), tt)

pub returns : goal.returns
returns c = line_read ((let h-opened : Open c.args.src.now c.args.at c.args.columns c.args.reference.now = record { some = c.if-columns-eq0.false; narrow = c.if-columns-eq-MOST_PIXELS.false; small = c.ranges.columns.fits; short = c.if-src-gt-MOST_BYTES.false; rising = sym c.ascends.ensures ∙ not-false _ c.if-not-ascends.false-raw; inside = c.if-at-end.false } in h-opened)) c.args.strict c.args.changes.now c.decode_2d_line.ensures c.answer.ensures
