-- `ledger_file::namesakes::namesake` meets its contract. Assumes nothing.
use Rattle.ledger_file.specs.Sums.{name_at}
use Rattle.form_file.proofs.Firsts.{sought-start, sought-hit, sought-next, sought-none}
use Rattle.form_file.specs.Words.{same}
use lib.ListN.{get_or}
use native.Mathlib.Omega.{arith}
use Prim.Native.Nat.{ℕ}
use mathlib.Core.Bool.{Bool}
use mathlib.Core.List.{List}
use mathlib.Core.Path.{◌≡◌, sym, ◌∙◌}
use Rattle.ledger_file.proofs.namesakes.namesake.Goals as goal

abbrev alike : List ℕ → ℕ → List ℕ → ℕ → Bool
alike text at starts j = same (name_at text (get_or starts j 0)) (name_at text at)

pub loop-k-init : goal.loop-k-init
loop-k-init c = sought-start (alike c.args.text.now c.args.at c.args.starts.now) c.args.count 0

pub offset_bounds-starts-k : goal.offset_bounds-starts-k
offset_bounds-starts-k c = omega arith

pub bounds-starts-k : goal.bounds-starts-k
bounds-starts-k c = omega (arith, c.requires.0.fits)

pub same_name-requires : goal.same_name-requires
same_name-requires c = (c.requires.0.tabbed _ c.loop-k-test.true, c.requires.1, c.requires.2)

pub returns-then-same_name : goal.returns-then-same_name
returns-then-same_name c = sought-hit (alike c.args.text.now c.args.at c.args.starts.now) c.loop-k.invariant (omega arith) (sym c.same_name.ensures ∙ c.if-same_name.true)

pub loop-k-preserved : goal.loop-k-preserved
loop-k-preserved c = sought-next (alike c.args.text.now c.args.at c.args.starts.now) c.loop-k.invariant (omega arith) (sym c.same_name.ensures ∙ c.if-same_name.false)

pub returns : goal.returns
returns c = let e : c.args.count ≡ c.loop-k.k = omega arith in e ∙ sought-none (alike c.args.text.now c.args.at c.args.starts.now) c.loop-k.invariant (omega arith)
