-- `writer::eols::put_times` meets its contract. The loop's invariant: the codes that are left come to all. Assumes nothing.
use Prim.Native.Nat.{◌-◌, ◌≤◌}
use Rattle.rules.specs.Bits.{bits_for}
use Rattle.rules.specs.WriteGroup3.{times}
use Rattle.writer.proofs.Owing.{Owes}
use Rattle.writer.proofs.eols.put_times.Given as goal

abbrev pub invariant-loop : goal.invariant-loop
invariant-loop l =
    Owes l.write l.next (times (l.n - l.counter) (bits_for l.code.size l.code.word)) l.out l.at (times l.n (bits_for l.code.size l.code.word)) l.initial.out × (1 ≤ (l.n - l.counter))
