-- `codes::eol::skip_to_eol` meets its contract. The search's invariant: it goes on at `at`; the inner loop's: it does, and up to the limit the buffer has the
-- bits from there on. Both measures are the bits left. Assumes nothing.
use native.Mathlib.Omega.{arith}
use Rattle.bit_reader.proofs.Window.{fed}
use Rattle.codes.proofs.Eols.{search-from, nowhere, here, unclosed, closed, many, loaded, eleven-zeros, few, behind-last}
use Rattle.codes.proofs.eol.skip_to_eol.Goals as goal

pub search-init : goal.search-init
search-init c = search-from c.requires.inside

pub loop-at-init : goal.loop-at-init
loop-at-init c = (c.search.invariant, λ up. loaded c.load-b.ensures, omega (arith, c.load-b.ensures.place, c.load-b.ensures.loaded.reached))

pub search-preserved : goal.search-preserved
search-preserved c = c.loop-at.invariant.0

pub overflow_cast-n : goal.overflow_cast-n
overflow_cast-n c =
    omega (arith, few (c.loop-at.invariant.1 c.loop-at-test.true) (omega (arith, c.if-ahead-eq0.false)))

pub overflow_sub-n : goal.overflow_sub-n
overflow_sub-n c =
    omega (arith, few (c.loop-at.invariant.1 c.loop-at-test.true) (omega (arith, c.if-ahead-eq0.false)))

pub overflow_shl-bits : goal.overflow_shl-bits
overflow_shl-bits c = omega arith

pub loop-at-smaller : goal.loop-at-smaller
loop-at-smaller c =
    omega (
      arith,
      few (c.loop-at.invariant.1 c.loop-at-test.true) (omega (arith, c.if-ahead-eq0.false)),
      (behind-last (c.loop-at.invariant.1 c.loop-at-test.true) (omega (arith, c.if-ahead-eq0.false)) c.loop-at.invariant.0).inside,
    )

pub loop-at-preserved : goal.loop-at-preserved
loop-at-preserved c =
    (behind-last (c.loop-at.invariant.1 c.loop-at-test.true) (omega (arith, c.if-ahead-eq0.false)) c.loop-at.invariant.0, λ up. fed _ (c.loop-at.invariant.1 c.loop-at-test.true) (omega arith) up, c.loop-at.invariant.2)

pub returns-then-first_one-src : goal.returns-then-first_one-src
returns-then-first_one-src c =
    nowhere c.loop-at.invariant.0 (unclosed c.args.src.now c.loop-at.at c.first_one.ensures c.if-first_one-src.true)

pub returns : goal.returns
returns c =
    let src = c.args.src.now in
    let one = closed src c.loop-at.at c.first_one.ensures c.if-first_one-src.false in
    here c.loop-at.invariant.0 one (many src c.loop-at.at 11 (eleven-zeros (c.loop-at.invariant.1 c.loop-at-test.true) c.if-ahead-eq0.true) one)
