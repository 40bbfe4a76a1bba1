use mathlib.Core.Path.{refl, ap}
use mathlib.Core.Logic.{inl, inr}
use native.Mathlib.Omega.{arith}
use Rattle.by_row.proofs.ByRow.{repeats, goes_on}
use Rattle.by_row.specs.ByRow.{end_of}
use Rattle.by_row.proofs.read_row.Goals as goal

pub returns-in-Unended : goal.returns-in-Unended
returns-in-Unended c = goes_on c.args.src.now c.args.settings c.args.state c.args.first.now c.args.second.now (ap end_of c.in-Unended.is) _ _ _ c.tested.ensures

pub returns-in-Done : goal.returns-in-Done
returns-in-Done c = rw c.said.ensures (repeats c.args.src.now c.args.settings c.args.state c.args.first.now c.args.second.now 0 _ _ _ (inl (omega arith)) (ap end_of c.in-Done.is))

pub returns-in-InvalidCode : goal.returns-in-InvalidCode
returns-in-InvalidCode c = rw c.said-in-InvalidCode.ensures (repeats c.args.src.now c.args.settings c.args.state c.args.first.now c.args.second.now 1 _ _ _ (inl (omega arith)) (ap end_of c.in-InvalidCode.is))

pub returns-in-UnexpectedEof : goal.returns-in-UnexpectedEof
returns-in-UnexpectedEof c = rw c.said-in-UnexpectedEof.ensures (repeats c.args.src.now c.args.settings c.args.state c.args.first.now c.args.second.now 2 _ _ _ (inl (omega arith)) (ap end_of c.in-UnexpectedEof.is))

pub returns-in-Overflow : goal.returns-in-Overflow
returns-in-Overflow c = rw c.said-in-Overflow.ensures (repeats c.args.src.now c.args.settings c.args.state c.args.first.now c.args.second.now 3 _ _ _ (inl (omega arith)) (ap end_of c.in-Overflow.is))

pub returns-in-NoRoom : goal.returns-in-NoRoom
returns-in-NoRoom c = rw c.said-in-NoRoom.ensures (repeats c.args.src.now c.args.settings c.args.state c.args.first.now c.args.second.now 4 _ _ _ (inl (omega arith)) (ap end_of c.in-NoRoom.is))

pub returns-in-Short : goal.returns-in-Short
returns-in-Short c = rw c.said-in-Short.ensures (repeats c.args.src.now c.args.settings c.args.state c.args.first.now c.args.second.now 14 _ _ _ (inr refl) (ap end_of c.in-Short.is))
