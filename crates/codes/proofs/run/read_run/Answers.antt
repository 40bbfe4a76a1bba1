-- `codes::run::read_run` meets its contract. The loop's invariant: what the sum and the buffer lead to is what the start leads to. The measure is
-- the bits left. Assumes nothing.
use mathlib.Core.Path.{subst}
use Prim.Native.Nat.{◌+◌}
use native.Mathlib.Omega.{arith}
use Rattle.tables.specs.Tables.{colour_of}
use Rattle.bit_reader.specs.Loaded.{LoadedAt, fed_at}
use Rattle.codes.proofs.Runs.{Turn, begin, look, short, wrong, large, small, last, on, falls}
use Rattle.codes.proofs.run.read_run.Goals.{After-size_in, In-Some}
use Rattle.codes.proofs.run.read_run.Goals as goal

-- what a turn knows once it has the entry
turn : (c : After-size_in) →
    let s = c.args in
    let l = c.loop-next in
    Turn (colour_of s.colour) s.src.now s.start.at l.b l.sum c.run_in-run.result c.size_in.result
turn c =
    look c.loop-next.invariant c.entry-entry.ensures
    c.top13-top.ensures c.run_in-run.ensures c.size_in.ensures.0

-- the buffer behind its code
behind : (c : In-Some) →
    let s = c.args in
    let b = c.loop-next.b in
    LoadedAt s.src.now (b.at + c.size_in.result) c.in-Some.next
behind c = subst (fed_at _ _) c.in-Some.is c.feed.ensures

pub loop-next-init : goal.loop-next-init
loop-next-init c = begin c.requires.loaded

pub top13-top-requires : goal.top13-top-requires
top13-top-requires c = tt

pub entry-entry-requires : goal.entry-entry-requires
entry-entry-requires c = c.top13-top.ensures.small

pub run_in-run-requires : goal.run_in-run-requires
run_in-run-requires c = tt

pub size_in-requires : goal.size_in-requires
size_in-requires c = tt

pub feed-requires : goal.feed-requires
feed-requires c = record {
  size = c.requires.size;
  loaded = c.loop-next.invariant.loaded;
  few = c.size_in.ensures.1;
}

pub returns-in_default : goal.returns-in_default
returns-in_default c = record {
  same = rw c.new.ensures (short (turn (goal.at.returns-in_default c).After-size_in) (subst (fed_at _ _) c.in_default.is c.feed.ensures));
  loaded = tt;
}

pub returns-then-run-eq4095 : goal.returns-then-run-eq4095
returns-then-run-eq4095 c = record { same = rw c.new-then-run-eq4095.ensures (wrong (turn (goal.at.returns-then-run-eq4095 c).After-size_in) (behind (goal.at.returns-then-run-eq4095 c).In-Some) c.if-run-eq4095.true); loaded = tt }

pub overflow_sub-run : goal.overflow_sub-run
overflow_sub-run c = omega (arith, c.run_in-run.ensures)

pub returns-then-run-sum : goal.returns-then-run-sum
returns-then-run-sum c = record {
  same = rw c.new-then-run-sum.ensures (large (turn (goal.at.returns-then-run-sum c).After-size_in) (behind (goal.at.returns-then-run-sum c).In-Some) c.if-run-eq4095.false c.if-run-sum.true);
  loaded = tt;
}

pub overflow_add-sum : goal.overflow_add-sum
overflow_add-sum c = omega (arith, small (turn (goal.at.overflow_add-sum c).After-size_in) (behind (goal.at.overflow_add-sum c).In-Some) c.if-run-eq4095.false c.if-run-sum.false)

pub loop-next-smaller : goal.loop-next-smaller
loop-next-smaller c =
    falls (turn (goal.at.loop-next-smaller c).After-size_in) (behind (goal.at.loop-next-smaller c).In-Some)
    c.if-run-eq4095.false c.if-run-sum.false c.if-run-lt64.false

pub loop-next-preserved : goal.loop-next-preserved
loop-next-preserved c =
    on (turn (goal.at.loop-next-preserved c).After-size_in) (behind (goal.at.loop-next-preserved c).In-Some)
    c.if-run-eq4095.false c.if-run-sum.false c.if-run-lt64.false

pub returns : goal.returns
returns c = record {
  same =
      last (turn (goal.at.returns c).After-size_in) (behind (goal.at.returns c).In-Some)
      c.if-run-eq4095.false c.if-run-sum.false c.if-run-lt64.true;
  loaded = (behind (goal.at.returns c).In-Some).loaded;
}
