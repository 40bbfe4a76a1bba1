-- `writer::ink::store` meets its contract. In one, two or three bytes, by the size. Assumes nothing.
use Prim.Native.Nat.{◌/◌}
use native.Mathlib.Omega.{arith}
use Rattle.writer.proofs.Splicing.{stored}
use Rattle.writer.proofs.ink.store.Goals as goal

pub returns-then-size-le8 : goal.returns-then-size-le8
returns-then-size-le8 c =
    let known = c.slice_known-2-1.given (c.args.at / 8) in
    stored _ _ _ _ 8 _ _ (omega (arith, known)) c.requires.1 c.joined-word.ensures (omega arith) (omega arith) (omega arith) c.raised.ensures c.one.ensures

pub returns-then-size-le16 : goal.returns-then-size-le16
returns-then-size-le16 c =
    let known = c.slice_known-2-1.given (c.args.at / 8) in
    stored _ _ _ _ 16 _ _ (omega (arith, known)) c.requires.1 c.joined-word.ensures (omega arith) (omega arith) (omega arith) c.raised-then-size-le16.ensures c.two.ensures

pub returns : goal.returns
returns c =
    let known = c.slice_known-2-1.given (c.args.at / 8) in
    stored _ _ _ _ 24 _ _ (omega (arith, known)) c.requires.1 c.joined-word.ensures (omega arith) (omega arith) (omega arith) c.raised-2.ensures c.three.ensures
