-- `codes::eol::read_eols` meets its contract. The invariant: the EOLs counted so far stand before `at`. Assumes nothing.
use mathlib.Core.Path.{◌≡◌, ap, ◌∙◌}
use Prim.Native.Nat.{ℕ}
use native.Mathlib.Omega.{arith}
use Rattle.rules.specs.Eols.{eols_to}
use Rattle.codes.proofs.Eols.{unclosed, closed, many, early, plain-eol, twelve-zeros, none_yet, enough, no_one, without_eol, eol}
use Rattle.codes.proofs.eol.read_eols.Goals as goal

pub loop-count-init : goal.loop-count-init
loop-count-init c = none_yet c.args.max c.requires.inside

pub loop-count-preserved-then-ahead-eq1 : goal.loop-count-preserved-then-ahead-eq1
loop-count-preserved-then-ahead-eq1 c =
    eol c.loop-count.invariant c.loop-count-test.true (plain-eol c.args.src.now c.loop-count.at c.peek-ahead.ensures c.if-ahead-eq1.true) (omega arith)

pub loop-count-preserved : goal.loop-count-preserved
loop-count-preserved c =
    let src = c.args.src.now in
    let one = closed src c.loop-count.at c.first_one-one.ensures c.if-one-end.false in
    let zeros = twelve-zeros src c.loop-count.at c.peek-ahead.ensures (omega (arith, c.if-ahead-gt1.false, c.if-ahead-eq1.false)) in
    eol c.loop-count.invariant c.loop-count-test.true one (omega (arith, many src c.loop-count.at 12 zeros one))

pub returns : goal.returns
returns c =
    let all : c.args.max ≡ c.loop-count.count = omega (arith, c.loop-count-test.false, c.loop-count.auto.count-end) in
    ap (λ (n : ℕ). eols_to n c.loop-count.at) all ∙ enough c.loop-count.invariant c.loop-count-test.false

pub returns-then-ahead-gt1 : goal.returns-then-ahead-gt1
returns-then-ahead-gt1 c =
    let one = early c.args.src.now c.loop-count.at c.peek-ahead.ensures c.if-ahead-gt1.true in
    without_eol c.loop-count.invariant c.loop-count-test.true one.1 one.2

pub returns-then-one-end : goal.returns-then-one-end
returns-then-one-end c =
    no_one c.loop-count.invariant c.loop-count-test.true (unclosed c.args.src.now c.loop-count.at c.first_one-one.ensures c.if-one-end.true)
