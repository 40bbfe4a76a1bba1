-- The invariant: the test of the marks that are left is that of all. Assumes nothing.
use mathlib.Core.Path.{◌≡◌}
use lib.ListN.{drop, take}
use lib.Dec.{leb}
use Rattle.heads.specs.Form.{all}
use Rattle.heads.proofs.store.marked.Given as goal

abbrev pub invariant-loop-k : goal.invariant-loop-k
invariant-loop-k l = all (λ m. leb m 2) (drop l.k (take l.rows l.marks)) ≡ all (λ m. leb m 2) (take l.rows l.marks)
