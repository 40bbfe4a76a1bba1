-- `listing_text::lines::put_rows` meets its contract. The invariant: the rows from `k` on are left. Assumes nothing.
use Rattle.listing_text.proofs.Rowing.{Rowing}
use Rattle.listing_text.proofs.lines.put_rows.Given as goal

abbrev pub invariant-loop-k : goal.invariant-loop-k
invariant-loop-k l = Rowing l.changes l.ends l.marks l.at l.initial.out l.p l.base l.k l.out
