-- One run, and the other behind it, by the lent tables.
use mathlib.Core.Path.{subst}
use mathlib.Core.List.{List}
use Prim.Native.Nat.{ℕ, ◌*◌, ◌%◌, ◌^◌}
use lib.ListN.{get_or}
use Rattle.rules.specs.Codes.{white, black}
use Rattle.codes.specs.Fronts.{Fronted}
use Rattle.codes.proofs.Fronts.{table-length}
use Rattle.swift_loops.proofs.OnePair.{codes-paired}
use Rattle.swift_loops.proofs.fast_1d.by_codes.Goals as goal

pub front_run-first-requires : goal.front_run-first-requires
front_run-first-requires c = (c.requires.0, table-length black c.requires.1.of_black)

pub front_run-second-requires : goal.front_run-second-requires
front_run-second-requires c = (c.top13.ensures.1, table-length white c.requires.1.of_white)

pub both_of-requires : goal.both_of-requires
both_of-requires c = (c.front_run-first.ensures.few, c.front_run-second.ensures.few)

pub returns : goal.returns
returns c =
    let l = c.requires.1 in
    let one = subst (λ (t : List ℕ). Fronted t (get_or t c.args.top 0) c.args.window c.front_run-first.result) l.of_black c.front_run-first.ensures in
    let two = subst (λ (t : List ℕ). Fronted t (get_or t c.top13.result 0) (c.args.window * 2 ^ c.front_run-first.result.size % 2 ^ 64) c.front_run-second.result) l.of_white c.front_run-second.ensures in
    rw c.both_of.ensures (codes-paired one c.top13.ensures.0 two)
