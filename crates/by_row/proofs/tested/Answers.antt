use Rattle.by_row.proofs.ByRow.{tested-6, tested-7, in-first, in-second}
use Rattle.by_row.proofs.tested.Goals as goal

pub returns-then-settings-eq-MOST_PIXELS : goal.returns-then-settings-eq-MOST_PIXELS
returns-then-settings-eq-MOST_PIXELS c = rw c.refused.ensures (tested-6 c.args.src.now c.args.settings c.args.state c.args.first.now c.args.second.now c.if-settings-eq-MOST_PIXELS.true)

pub returns-then-src-gt-MOST_BYTES : goal.returns-then-src-gt-MOST_BYTES
returns-then-src-gt-MOST_BYTES c = rw c.refused-then-src-gt-MOST_BYTES.ensures (tested-7 c.args.src.now c.args.settings c.args.state c.args.first.now c.args.second.now c.if-settings-eq-MOST_PIXELS.false c.if-src-gt-MOST_BYTES.true)

pub returns-in-First : goal.returns-in-First
returns-in-First c = in-first c.args.src.now c.args.settings c.args.state c.args.first.now c.args.second.now c.in-First.is _ _ c.next_row.ensures

pub returns-in-Second : goal.returns-in-Second
returns-in-Second c = in-second c.args.src.now c.args.settings c.args.state c.args.first.now c.args.second.now c.in-Second.is _ _ c.next_row-in-Second.ensures
