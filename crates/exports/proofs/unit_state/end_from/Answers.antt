-- `exports::unit_state::end_from` meets its contract, number by number. Assumes nothing.
use mathlib.Core.Path.{◌≡◌, ap}
use Prim.Native.Nat.{ℕ}
use native.Mathlib.Omega.{arith}
use Rattle.exports.specs.RowState.{ended_numbers}
use Rattle.exports.specs.UnitState.{end_from}
use Rattle.exports.proofs.UnitState.{end-other}
use Rattle.exports.proofs.unit_state.end_from.Goals as goal

pub returns-in-1 : goal.returns-in-1
returns-in-1 c = let a = c.args in ap (λ (n : ℕ). end_from (ended_numbers n a.place a.bytes a.loose)) (let q : 1 ≡ a.number = omega arith in q)

pub returns-in-2 : goal.returns-in-2
returns-in-2 c = let a = c.args in ap (λ (n : ℕ). end_from (ended_numbers n a.place a.bytes a.loose)) (let q : 2 ≡ a.number = omega arith in q)

pub returns-in-3 : goal.returns-in-3
returns-in-3 c = let a = c.args in ap (λ (n : ℕ). end_from (ended_numbers n a.place a.bytes a.loose)) (let q : 3 ≡ a.number = omega arith in q)

pub returns-in-4 : goal.returns-in-4
returns-in-4 c = let a = c.args in ap (λ (n : ℕ). end_from (ended_numbers n a.place a.bytes a.loose)) (let q : 4 ≡ a.number = omega arith in q)

pub returns-in-5 : goal.returns-in-5
returns-in-5 c = let a = c.args in ap (λ (n : ℕ). end_from (ended_numbers n a.place a.bytes a.loose)) (let q : 5 ≡ a.number = omega arith in q)

pub returns-in-6 : goal.returns-in-6
returns-in-6 c = let a = c.args in ap (λ (n : ℕ). end_from (ended_numbers n a.place a.bytes a.loose)) (let q : 6 ≡ a.number = omega arith in q)

pub returns-in_default : goal.returns-in_default
returns-in_default c =
    let a = c.args in
    end-other (ended_numbers a.number a.place a.bytes a.loose)
    (λ e. omega arith) (λ e. omega arith) (λ e. omega arith) (λ e. omega arith) (λ e. omega arith) (λ e. omega arith)
