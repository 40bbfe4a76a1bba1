-- As `swift_row`. Assumes nothing.
use mathlib.Core.Path.{sym, ◌∙◌, subst}
use Prim.Native.Nat.{◌+◌, ◌-◌}
use lib.ListN.{length}
use borrow.Author.Tests.{not-false}
use Rattle.std.specs.Prelude.{Option}
use Rattle.swift_loops.specs.declared.fast_1d.BeforePair.{BeforePair}
use Rattle.group3.specs.Lined.{WhiteAt}
use Rattle.group3.proofs.Swiftly.{line-seen, row_seen, row-white, row-white-2d}
use Rattle.group3.proofs.lone_row.Goals as goal

pub is_white_2d-requires : goal.is_white_2d-requires
is_white_2d-requires c = (c.is_usual.ensures (not-false _ c.if-not-is_usual.false-raw)).1

pub returns-then-is_white_2d : goal.returns-then-is_white_2d
returns-then-is_white_2d c =
    row-white-2d c.requires.0 (c.is_usual.ensures (not-false _ c.if-not-is_usual.false-raw)).0 (sym c.is_white_2d.ensures ∙ c.if-is_white_2d.true)

pub lone_white-requires : goal.lone_white-requires
lone_white-requires c =
    (line-seen c.requires.0 (c.is_usual.ensures (not-false _ c.if-not-is_usual.false-raw)).0).loading

pub row_at-requires : goal.row_at-requires
row_at-requires c =
    let pre = c.requires in
    (line-seen pre.0 (c.is_usual.ensures (not-false _ c.if-not-is_usual.false-raw)).0, pre.1)

pub returns-in-Some : goal.returns-in-Some
returns-in-Some c =
    let a = c.args in
    let room = length a.changes.now - a.state.base in
    let white = subst (λ (r : Option BeforePair). WhiteAt a.src.now a.settings room (a.state.at + 12) r) c.in-Some.is c.lone_white.ensures in
    row-white c.requires.0 (c.is_usual.ensures (not-false _ c.if-not-is_usual.false-raw)).0 c.in-Some.line white.0 white.1

pub returns-in-None : goal.returns-in-None
returns-in-None c =
    row_seen c.requires.0 (c.is_usual.ensures (not-false _ c.if-not-is_usual.false-raw)).0 _ _ c.row_at.ensures
