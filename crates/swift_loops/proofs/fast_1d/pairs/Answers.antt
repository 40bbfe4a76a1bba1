-- The first run, and pairs behind it.
use Rattle.std.specs.Prelude.{Option, Some}
use mathlib.Core.Path.{◌≡◌, subst}
use mathlib.Core.List.{List}
use Prim.Native.Nat.{ℕ}
use native.Mathlib.Omega.{arith}
use borrow.Author.Tests.{not-false}
use Rattle.rules.proofs.Bits.{length-bits_of}
use Rattle.swift_loops.specs.declared.fast_1d.BeforePair.{BeforePair}
use Rattle.swift_loops.specs.Pairs.{BegunTo}
use Rattle.swift_loops.proofs.Running.{ran-none, ran_on}
use Rattle.swift_loops.proofs.fast_1d.pairs.Goals as goal

pub returns-then-not-fit : goal.returns-then-not-fit
returns-then-not-fit c = ran-none (record { fits = omega arith; held = omega arith; coloured = omega arith }) (omega arith) (omega (arith, c.requires.loading.inside, length-bits_of c.args.src.now))

pub overflow_mul-last : goal.overflow_mul-last
overflow_mul-last c = omega (arith, c.requires.loading.size)

pub overflow_sub-last : goal.overflow_sub-last
overflow_sub-last c = let f = c.fit.ensures (not-false _ c.if-not-fit.false-raw) in omega (arith, f.2)

pub ahead-requires : goal.ahead-requires
ahead-requires c = let f = c.fit.ensures (not-false _ c.if-not-fit.false-raw) in omega (arith, f.2)

pub begun-requires : goal.begun-requires
begun-requires c = let f = c.fit.ensures (not-false _ c.if-not-fit.false-raw) in (record { some_pixels = f.0; low = omega (arith, c.requires.loading.inside, c.requires.loading.size) }, λ e. (c.requires.tables e).0.of_white)

-- the line before its first pair, as the arm has it
opened : (bytes row : List ℕ) (width at : ℕ) (from : BeforePair) {r : Option BeforePair} → r ≡ Some from → BegunTo bytes row width at r → BegunTo bytes row width at (Some from)
opened bytes row width at from e h = subst (λ (r : Option BeforePair). BegunTo bytes row width at r) e h

pub pairs_from-t-requires : goal.pairs_from-t-requires
pairs_from-t-requires c =
    let a = c.args in
    let f = c.fit.ensures (not-false _ c.if-not-fit.false-raw) in
    let t = c.requires.tables c.if-lent.true in
    let begun = opened a.src.now a.row.now a.width a.at c.in-Some.from c.in-Some.is (c.begun.ensures a.src.now a.row.now _ c.ahead.ensures (omega arith) f.1) in
    (record { limit = c.requires.loading.size; last-is = omega (arith, f.2); narrow = c.requires.narrow; paces = begun.1 }, t.0, t.1)

pub returns-then-lent : goal.returns-then-lent
returns-then-lent c =
    let a = c.args in
    let f = c.fit.ensures (not-false _ c.if-not-fit.false-raw) in
    let begun = opened a.src.now a.row.now a.width a.at c.in-Some.from c.in-Some.is (c.begun.ensures a.src.now a.row.now _ c.ahead.ensures (omega arith) f.1) in
    rw c.halted.ensures (ran_on begun.0 c.pairs_from-t.ensures)

pub pairs_from-t-requires-2 : goal.pairs_from-t-requires-2
pairs_from-t-requires-2 c =
    let a = c.args in
    let f = c.fit.ensures (not-false _ c.if-not-fit.false-raw) in
    let begun = opened a.src.now a.row.now a.width a.at c.in-Some.from c.in-Some.is (c.begun.ensures a.src.now a.row.now _ c.ahead.ensures (omega arith) f.1) in
    record { limit = c.requires.loading.size; last-is = omega (arith, f.2); narrow = c.requires.narrow; paces = begun.1 }

pub returns-in_default : goal.returns-in_default
returns-in_default c = ran-none (record { fits = omega arith; held = omega arith; coloured = omega arith }) (omega arith) (omega (arith, c.requires.loading.inside, length-bits_of c.args.src.now))

pub returns : goal.returns
returns c =
    let a = c.args in
    let f = c.fit.ensures (not-false _ c.if-not-fit.false-raw) in
    let begun = opened a.src.now a.row.now a.width a.at c.in-Some.from c.in-Some.is (c.begun.ensures a.src.now a.row.now _ c.ahead.ensures (omega arith) f.1) in
    rw c.halted-2.ensures (ran_on begun.0 c.pairs_from-t-2.ensures)
