-- `look::base64::put_all` meets its contract. Assumes nothing.
use Rattle.look.proofs.Coding.{three-split, none_left, one_left, two-left}
use Rattle.listing_text.proofs.Written.{room_as, puts-as, owes-all, owes-room, owes-some, owes-none, owes-last-room, owes-last}
use native.Mathlib.Omega.{arith}
use Prim.Native.Nat.{◌-◌, ◌+◌, ◌≤◌}
use mathlib.Core.Path.{◌≡◌, refl, sym}
use Rattle.look.proofs.base64.put_all.Goals as goal

pub loop-i-init : goal.loop-i-init
loop-i-init c = (owes-all c.requires, omega arith, refl)

pub overflow_sub-n : goal.overflow_sub-n
overflow_sub-n c = omega arith

pub bounds-bytes-i : goal.bounds-bytes-i
bounds-bytes-i c = omega arith

pub overflow_add-i : goal.overflow_add-i
overflow_add-i c = omega arith

pub bounds-bytes-i-in-loop-i : goal.bounds-bytes-i-in-loop-i
bounds-bytes-i-in-loop-i c = omega arith

pub overflow_add-i-in-loop-i : goal.overflow_add-i-in-loop-i
overflow_add-i-in-loop-i c = omega arith

pub bounds-bytes-i-in-loop-i-2 : goal.bounds-bytes-i-in-loop-i-2
bounds-bytes-i-in-loop-i-2 c = omega arith

pub put_three-p-requires : goal.put_three-p-requires
put_three-p-requires c = owes-room c.loop-i.invariant.0 _ _ (three-split c.args.bytes.now c.loop-i.i (omega arith))

pub overflow_add-i-in-loop-i-2 : goal.overflow_add-i-in-loop-i-2
overflow_add-i-in-loop-i-2 c = omega arith

pub loop-i-smaller : goal.loop-i-smaller
loop-i-smaller c = omega arith

pub loop-i-preserved : goal.loop-i-preserved
loop-i-preserved c = (owes-some c.loop-i.invariant.0 _ _ (three-split c.args.bytes.now c.loop-i.i (omega arith)) c.put_three-p.ensures, omega arith, c.loop-i.invariant.2)

pub shape_of-out-then-i-n : goal.shape_of-out-then-i-n
shape_of-out-then-i-n c = c.loop-i.invariant.0.size

pub returns-then-i-n : goal.returns-then-i-n
returns-then-i-n c = owes-none c.loop-i.invariant.0 (none_left c.args.bytes.now c.loop-i.i (omega arith))

pub overflow_add-i-2 : goal.overflow_add-i-2
overflow_add-i-2 c = omega arith

pub bounds-bytes-i-then-i-n-2 : goal.bounds-bytes-i-then-i-n-2
bounds-bytes-i-then-i-n-2 c = omega arith

pub put_one-requires : goal.put_one-requires
put_one-requires c = room_as (one_left c.args.bytes.now c.loop-i.i (omega arith)) (owes-last-room c.loop-i.invariant.0)

pub returns-then-i-n-2 : goal.returns-then-i-n-2
returns-then-i-n-2 c = owes-last c.loop-i.invariant.0 (puts-as (sym (one_left c.args.bytes.now c.loop-i.i (omega arith))) c.put_one.ensures)

pub bounds-bytes-i-2 : goal.bounds-bytes-i-2
bounds-bytes-i-2 c = omega arith

pub overflow_add-i-3 : goal.overflow_add-i-3
overflow_add-i-3 c = omega arith

pub bounds-bytes-i-3 : goal.bounds-bytes-i-3
bounds-bytes-i-3 c = omega arith

pub put_two-requires : goal.put_two-requires
put_two-requires c = room_as (two-left c.args.bytes.now c.loop-i.i (omega arith)) (owes-last-room c.loop-i.invariant.0)

pub returns : goal.returns
returns c = owes-last c.loop-i.invariant.0 (puts-as (sym (two-left c.args.bytes.now c.loop-i.i (omega arith))) c.put_two.ensures)
