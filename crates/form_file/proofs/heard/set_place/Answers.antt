-- `form_file::heard::set_place` meets its contract: the seven numbers, stored one by one. Assumes nothing.
use mathlib.Core.Path.{ap}
use mathlib.Core.List.{List}
use Prim.Native.Nat.{ℕ, ◌+◌}
use native.Mathlib.Omega.{arith}
use lib.ListN.{set, length-set}
use Rattle.form_file.proofs.Fours.{stored-long}
use Rattle.form_file.proofs.heard.set_place.Goals as goal

pub set_box-requires : goal.set_box-requires
set_box-requires c = simp length-set (omega arith)

pub bounds-numbers-at-2 : goal.bounds-numbers-at-2
bounds-numbers-at-2 c =
    let a = c.args in
    omega (arith, stored-long a.numbers.now a.at a.kind (a.at + 1) a.b c.set_box.ensures)

pub bounds-numbers-at-3 : goal.bounds-numbers-at-3
bounds-numbers-at-3 c =
    let a = c.args in
    simp length-set (omega (arith, stored-long a.numbers.now a.at a.kind (a.at + 1) a.b c.set_box.ensures))

pub shape_of-numbers : goal.shape_of-numbers
shape_of-numbers c =
    let a = c.args in
    simp length-set (stored-long a.numbers.now a.at a.kind (a.at + 1) a.b c.set_box.ensures)

pub returns : goal.returns
returns c = ap (λ (xs : List ℕ). set (set xs (c.args.at + 5) c.args.n) (c.args.at + 6) c.args.line) c.set_box.ensures
