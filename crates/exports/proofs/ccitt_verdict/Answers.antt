-- `exports::ccitt_verdict` meets its contract. Assumes nothing.
use native.Mathlib.Omega.{arith}
use Rattle.exports.proofs.Verdict.{unread, found}
use Rattle.exports.proofs.ccitt_verdict.Goals as goal

pub returns-then-encoding-gt2 : goal.returns-then-encoding-gt2
returns-then-encoding-gt2 c = let a = c.args in unread a.encoding a.form.now a.src.now a.how a.columns a.rows a.end_of_block a.end_of_line a.rows_are_byte_aligned a.plain a.boxes.now a.places.now a.changes.now a.ends.now a.marks.now (omega arith) c.no_encoding.ensures

pub returns : goal.returns
returns c = let a = c.args in found a.encoding a.form.now a.src.now a.how a.columns a.rows a.end_of_block a.end_of_line a.rows_are_byte_aligned a.plain a.boxes.now a.places.now a.changes.now a.ends.now a.marks.now (omega arith) c.mode.ensures c.verdict_on.ensures
