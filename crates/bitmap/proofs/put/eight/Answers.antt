-- `bitmap::put::eight` meets its contract. Byte after byte. Assumes nothing.
use mathlib.Core.List.{List}
use Prim.Native.Nat.{ℕ, ◌+◌, ◌<◌}
use native.Mathlib.Omega.{arith}
use lib.ListN.{length, set}
use lib.Seq.{lt-length-set}
use Rattle.bitmap.proofs.Packing.{puts_first, puts-next}
use Rattle.bitmap.proofs.put.eight.Goals as goal

pub bounds-out-i-2 : goal.bounds-out-i-2
bounds-out-i-2 c =
    let i : ℕ = c.args.i in
    let o0 : List ℕ = c.args.out.now in
    let h : i + 1 < length o0 = omega (arith, c.requires) in
    lt-length-set o0 i c.byte.result h

pub bounds-out-i-3 : goal.bounds-out-i-3
bounds-out-i-3 c =
    let i : ℕ = c.args.i in
    let o0 : List ℕ = c.args.out.now in
    let o1 : List ℕ = set o0 i c.byte.result in
    let h : i + 2 < length o0 = omega (arith, c.requires) in
    lt-length-set o1 (i + 1) c.byte-2.result (lt-length-set o0 i c.byte.result h)

pub bounds-out-i-4 : goal.bounds-out-i-4
bounds-out-i-4 c =
    let i : ℕ = c.args.i in
    let o0 : List ℕ = c.args.out.now in
    let o1 : List ℕ = set o0 i c.byte.result in
    let o2 : List ℕ = set o1 (i + 1) c.byte-2.result in
    let h : i + 3 < length o0 = omega (arith, c.requires) in
    lt-length-set o2 (i + 2) c.byte-3.result
    (lt-length-set o1 (i + 1) c.byte-2.result (lt-length-set o0 i c.byte.result h))

pub bounds-out-i-5 : goal.bounds-out-i-5
bounds-out-i-5 c =
    let i : ℕ = c.args.i in
    let o0 : List ℕ = c.args.out.now in
    let o1 : List ℕ = set o0 i c.byte.result in
    let o2 : List ℕ = set o1 (i + 1) c.byte-2.result in
    let o3 : List ℕ = set o2 (i + 2) c.byte-3.result in
    let h : i + 4 < length o0 = omega (arith, c.requires) in
    lt-length-set o3 (i + 3) c.byte-4.result
    (lt-length-set o2 (i + 2) c.byte-3.result (lt-length-set o1 (i + 1) c.byte-2.result (lt-length-set o0 i c.byte.result h)))

pub bounds-out-i-6 : goal.bounds-out-i-6
bounds-out-i-6 c =
    let i : ℕ = c.args.i in
    let o0 : List ℕ = c.args.out.now in
    let o1 : List ℕ = set o0 i c.byte.result in
    let o2 : List ℕ = set o1 (i + 1) c.byte-2.result in
    let o3 : List ℕ = set o2 (i + 2) c.byte-3.result in
    let o4 : List ℕ = set o3 (i + 3) c.byte-4.result in
    let h : i + 5 < length o0 = omega (arith, c.requires) in
    lt-length-set o4 (i + 4) c.byte-5.result
    (lt-length-set o3 (i + 3) c.byte-4.result (lt-length-set o2 (i + 2) c.byte-3.result (lt-length-set o1 (i + 1) c.byte-2.result (lt-length-set o0 i c.byte.result h))))

pub bounds-out-i-7 : goal.bounds-out-i-7
bounds-out-i-7 c =
    let i : ℕ = c.args.i in
    let o0 : List ℕ = c.args.out.now in
    let o1 : List ℕ = set o0 i c.byte.result in
    let o2 : List ℕ = set o1 (i + 1) c.byte-2.result in
    let o3 : List ℕ = set o2 (i + 2) c.byte-3.result in
    let o4 : List ℕ = set o3 (i + 3) c.byte-4.result in
    let o5 : List ℕ = set o4 (i + 4) c.byte-5.result in
    let h : i + 6 < length o0 = omega (arith, c.requires) in
    lt-length-set o5 (i + 5) c.byte-6.result
    (lt-length-set o4 (i + 4) c.byte-5.result (lt-length-set o3 (i + 3) c.byte-4.result (lt-length-set o2 (i + 2) c.byte-3.result (lt-length-set o1 (i + 1) c.byte-2.result (lt-length-set o0 i c.byte.result h)))))

pub bounds-out-i-8 : goal.bounds-out-i-8
bounds-out-i-8 c =
    let i : ℕ = c.args.i in
    let o0 : List ℕ = c.args.out.now in
    let o1 : List ℕ = set o0 i c.byte.result in
    let o2 : List ℕ = set o1 (i + 1) c.byte-2.result in
    let o3 : List ℕ = set o2 (i + 2) c.byte-3.result in
    let o4 : List ℕ = set o3 (i + 3) c.byte-4.result in
    let o5 : List ℕ = set o4 (i + 4) c.byte-5.result in
    let o6 : List ℕ = set o5 (i + 5) c.byte-6.result in
    let h : i + 7 < length o0 = omega (arith, c.requires) in
    lt-length-set o6 (i + 6) c.byte-7.result
    (lt-length-set o5 (i + 5) c.byte-6.result (lt-length-set o4 (i + 4) c.byte-5.result (lt-length-set o3 (i + 3) c.byte-4.result (lt-length-set o2 (i + 2) c.byte-3.result (lt-length-set o1 (i + 1) c.byte-2.result (lt-length-set o0 i c.byte.result h))))))

pub returns : goal.returns
returns c =
    puts-next 7 c.args.i c.args.bits _ c.byte-8.ensures (omega (arith, c.requires))
    (puts-next 6 c.args.i c.args.bits _ c.byte-7.ensures (omega (arith, c.requires))
    (puts-next 5 c.args.i c.args.bits _ c.byte-6.ensures (omega (arith, c.requires))
    (puts-next 4 c.args.i c.args.bits _ c.byte-5.ensures (omega (arith, c.requires))
    (puts-next 3 c.args.i c.args.bits _ c.byte-4.ensures (omega (arith, c.requires))
    (puts-next 2 c.args.i c.args.bits _ c.byte-3.ensures (omega (arith, c.requires))
    (puts-next 1 c.args.i c.args.bits _ c.byte-2.ensures (omega (arith, c.requires))
    (puts_first c.args.i c.args.bits _ c.byte.ensures (omega (arith, c.requires)))))))))
