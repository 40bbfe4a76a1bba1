-- `bit_reader::zeros::first_one` meets its contract. The invariant: no one stands before byte `i`. Assumes nothing.
use mathlib.Core.Path.{subst}
use Prim.Native.Nat.{ℕ, ◌+◌, ◌*◌, ◌/◌, ◌%◌, ◌^◌}
use native.Mathlib.Omega.{arith}
use lib.Count as Count
use Rattle.bit_reader.proofs.Clear.{Clear, first-clear, first_part, word-clear, word-one, all-clear}
use Rattle.bit_reader.proofs.zeros.first_one.Goals as goal

pub overflow_cast-result : goal.overflow_cast-result
overflow_cast-result c = omega (arith, Count.leading_le 64 (c.word.result * 2 ^ (c.args.from % 8) % 2 ^ 64))

pub overflow_add-result : goal.overflow_add-result
overflow_add-result c = omega (arith, Count.leading_le 64 (c.word.result * 2 ^ (c.args.from % 8) % 2 ^ 64))

pub returns-then-first-ne0 : goal.returns-then-first-ne0
returns-then-first-ne0 c =
    let a = c.args in
    first_part a.src.now a.from c.word.ensures (omega (arith, c.if-first-ne0.true))

pub loop-k-init : goal.loop-k-init
loop-k-init c =
    let a = c.args in
    subst (λ (n : ℕ). Clear a.src.now a.from (n * 8)) (omega arith) (first-clear a.src.now a.from c.word.ensures (omega (arith, c.if-first-ne0.false)))

pub returns-then-bits-ne0 : goal.returns-then-bits-ne0
returns-then-bits-ne0 c =
    word-one c.args.src.now (c.args.from / 8 + 8 + 8 * c.loop-k.k) c.loop-k.invariant c.word-bits.ensures (omega (arith, c.if-bits-ne0.true))

pub loop-k-preserved : goal.loop-k-preserved
loop-k-preserved c =
    let a = c.args in
    subst (λ (n : ℕ). Clear a.src.now a.from (n * 8)) (omega arith)
    (word-clear a.src.now (c.args.from / 8 + 8 + 8 * c.loop-k.k) c.loop-k.invariant c.word-bits.ensures (omega (arith, c.if-bits-ne0.false)))

pub returns : goal.returns
returns c = all-clear c.args.src.now (c.args.from / 8 + 8 + 8 * c.loop-k.k) c.loop-k.invariant (omega (arith, c.saturating_sub.ensures, c.loop-k-test.false))
