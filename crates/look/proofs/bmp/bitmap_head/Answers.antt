-- `look::bmp::bitmap_head` meets its contract. Assumes nothing.
use Prim.Native.Nat.{◌≤◌}
use mathlib.Core.Path.{refl}
use native.Mathlib.Nat.{mul-le-mul_right}
use native.Mathlib.Omega.{arith}
use Rattle.look.proofs.bmp.bitmap_head.Goals as goal

pub overflow_mul-bytes : goal.overflow_mul-bytes
overflow_mul-bytes c = let h : c.stride.result ≤ 536870912 = omega (arith, c.stride.ensures) in omega (arith, mul-le-mul_right c.args.rows h)

pub overflow_add-bytes : goal.overflow_add-bytes
overflow_add-bytes c = let h : c.stride.result ≤ 536870912 = omega (arith, c.stride.ensures) in omega (arith, mul-le-mul_right c.args.rows h)

pub returns : goal.returns
returns c = rw (c.head_of.ensures, c.stride.ensures) refl
