-- `writer::same_eols::same_times` meets its contract. The loop's invariant: the codes that are left come to all. Assumes nothing.
use Prim.Native.Nat.{◌-◌, ◌≤◌}
use Rattle.rules.specs.Bits.{bits_for}
use Rattle.rules.specs.WriteGroup3.{times}
use Rattle.writer.proofs.Leaving.{Left}
use Rattle.writer.proofs.same_eols.same_times.Given as goal

abbrev pub invariant-loop : goal.invariant-loop
invariant-loop l =
    Left l.src l.next (times (l.n - l.counter) (bits_for l.code.size l.code.word)) l.at (times l.n (bits_for l.code.size l.code.word)) × (1 ≤ (l.n - l.counter))
