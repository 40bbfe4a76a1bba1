-- `codes::plain::read_run` meets its contract. The loop's invariant: what the sum leads to is what the start leads to. The measure is the bits left.
-- Assumes nothing.
use mathlib.Core.Path.{◌≡◌, ap, ◌∙◌}
use Prim.Native.Nat.{◌+◌}
use native.Mathlib.Omega.{arith}
use lib.ListN.{drop}
use Rattle.rules.specs.Bits.{bits_of}
use Rattle.rules.specs.Plain.{found, plain}
use Rattle.rules.specs.Runs.{ok, sum}
use Rattle.tables.specs.Tables.{colour_of}
use Rattle.std.proofs.Common.{rules}
use Rattle.std.proofs.lemmas.Grind.{common_steps}
use Rattle.codes.proofs.Runs.{no-sum}
use Rattle.codes.proofs.Comparing.{add-lost, add-inside, add-large, add-last, add-next}
use Rattle.codes.proofs.plain.read_run.Goals.{In_ok-code}
use Rattle.codes.proofs.plain.read_run.Goals as goal

-- the code that was found
code : (c : In_ok-code) →
    let s = c.args in
    found c.in_ok-code.code.run c.in_ok-code.code.taken ≡ plain (colour_of s.colour) (drop c.loop-code.at (bits_of s.src.now))
code c = search rules

pub loop-code-init : goal.loop-code-init
loop-code-init c = record { inside = c.requires.inside; summing = no-sum }

pub read_code-requires : goal.read_code-requires
read_code-requires c = record { size = c.requires.size; inside = c.loop-code.invariant.inside }

pub returns-in_err-code : goal.returns-in_err-code
returns-in_err-code c = record { same = grind (arith, common_steps, add-lost c.loop-code.invariant); loaded = grind (arith, common_steps) }

pub overflow_add-sum : goal.overflow_add-sum
overflow_add-sum c =
    let g = c.loop-code.invariant in
    omega (arith, g.summing.small, add-inside g _ _ (code (goal.at.overflow_add-sum c).In_ok-code))

pub returns-then-sum-code-gt-MOST_SUM : goal.returns-then-sum-code-gt-MOST_SUM
returns-then-sum-code-gt-MOST_SUM c = record { same = rw c.new.ensures (add-large c.loop-code.invariant _ _ (code (goal.at.returns-then-sum-code-gt-MOST_SUM c).In_ok-code) c.if-sum-code-gt-MOST_SUM.true); loaded = tt }

pub overflow_add-at : goal.overflow_add-at
overflow_add-at c =
    omega (arith, add-inside c.loop-code.invariant _ _ (code (goal.at.overflow_add-at c).In_ok-code), c.requires.size)

pub loop-code-smaller : goal.loop-code-smaller
loop-code-smaller c = omega (arith, add-inside c.loop-code.invariant _ _ (code (goal.at.loop-code-smaller c).In_ok-code))

pub loop-code-preserved : goal.loop-code-preserved
loop-code-preserved c = add-next c.loop-code.invariant _ _ (code (goal.at.loop-code-preserved c).In_ok-code) c.if-sum-code-gt-MOST_SUM.false c.if-code-lt64.false

pub overflow_cast-result : goal.overflow_cast-result
overflow_cast-result c = omega (arith, c.if-sum-code-gt-MOST_SUM.false)

pub load-requires : goal.load-requires
load-requires c = record {
  size = c.requires.size;
  inside = omega (arith, add-inside c.loop-code.invariant _ _ (code (goal.at.load-requires c).In_ok-code));
}

pub returns : goal.returns
returns c =
    record {
      same =
          ap (λ a. ok (sum a (c.loop-code.sum + c.in_ok-code.code.run))) c.load.ensures.place
          ∙ add-last c.loop-code.invariant _ _ (code (goal.at.returns c).In_ok-code) c.if-sum-code-gt-MOST_SUM.false c.if-code-lt64.true;
      loaded = c.load.ensures.loaded;
    }
