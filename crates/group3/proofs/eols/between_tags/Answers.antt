-- `group3::eols::between_tags` meets its contract. The loop's invariant: the EOLs joined so far; the measure is the bits left. Assumes nothing.
use mathlib.Core.Path.{◌≡◌, sym, ◌∙◌}
use mathlib.Core.Bool.{true}
use Prim.Native.Nat.{◌+◌}
use native.Mathlib.Omega.{arith}
use lib.ListN.{drop}
use Rattle.rules.specs.Bits.{bits_of, front_bit}
use Rattle.group3.proofs.TagBits.{Joined, joined-first, joined-done, tag-inside, tag-loading, joined-rtc, joined_line, later-ahead, joined-more}
use Rattle.group3.proofs.eols.between_tags.Goals.{After-struct_known-in-loop-later-1, In-loop-later}
use Rattle.group3.proofs.eols.between_tags.Goals as goal

-- a tag bit stands there
tag : (c : In-loop-later) → front_bit (drop c.loop-later.at (bits_of c.args.src.now)) ≡ true
tag c = sym c.is_one.ensures ∙ c.loop-later-test.true

-- EOLs follow it
joined : (c : After-struct_known-in-loop-later-1) →
    let a = c.args in
    Joined a.src.now a.first.count a.first.at (c.loop-later.count + c.read_all_eols-later.result.count) c.read_all_eols-later.result.at
joined c =
    joined-more c.loop-later.invariant (sym c.is_one.ensures ∙ c.loop-later-test.true) c.read_all_eols-later.result c.read_all_eols-later.ensures c.if-later-eq0.false

pub loop-later-init : goal.loop-later-init
loop-later-init c = joined-first c.requires

pub is_one-requires : goal.is_one-requires
is_one-requires c = c.loop-later.invariant.loading

pub overflow_add-at : goal.overflow_add-at
overflow_add-at c = let l = c.loop-later in omega (arith, l.invariant.loading.inside, l.invariant.loading.size)

pub read_all_eols-later-requires : goal.read_all_eols-later-requires
read_all_eols-later-requires c = tag-loading c.loop-later.invariant (tag c)

pub overflow_add-result : goal.overflow_add-result
overflow_add-result c = let l = c.loop-later in omega (arith, l.invariant.loading.inside, l.invariant.loading.size)

pub returns-then-count-ge6 : goal.returns-then-count-ge6
returns-then-count-ge6 c =
    joined-rtc c.loop-later.invariant (tag (goal.at.returns-then-count-ge6 c).In-loop-later) c.read_all_eols-later.result c.read_all_eols-later.ensures c.if-later-eq0.true c.if-count-ge6.true

pub overflow_add-count : goal.overflow_add-count
overflow_add-count c = let j = joined c in omega (arith, j.few, j.loading.inside, j.loading.size)

pub loop-later-smaller : goal.loop-later-smaller
loop-later-smaller c =
    let l = c.loop-later in
    omega (arith, tag-inside l.invariant (tag (goal.at.loop-later-smaller c).In-loop-later), later-ahead l.invariant (tag (goal.at.loop-later-smaller c).In-loop-later) c.read_all_eols-later.result c.read_all_eols-later.ensures)

pub loop-later-preserved : goal.loop-later-preserved
loop-later-preserved c = joined c

pub returns-after-loop-later : goal.returns-after-loop-later
returns-after-loop-later c = joined-done c.loop-later.invariant (sym c.is_one.ensures ∙ c.loop-later-test.false)

pub returns-else-count-ge6 : goal.returns-else-count-ge6
returns-else-count-ge6 c =
    joined_line c.loop-later.invariant (tag (goal.at.returns-else-count-ge6 c).In-loop-later) c.read_all_eols-later.result c.read_all_eols-later.ensures c.if-later-eq0.true c.if-count-ge6.false
