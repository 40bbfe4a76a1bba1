-- `group4::swift_row` meets its contract. Assumes nothing.
use mathlib.Core.Path.{sym, ◌∙◌}
use native.Mathlib.Omega.{arith}
use borrow.Author.Tests.{not-false}
use Rattle.group4.proofs.Swiftly.{bit-inside, line-seen, row_seen, row-white}
use Rattle.group4.proofs.swift_row.Goals as goal

pub is_white-requires : goal.is_white-requires
is_white-requires c = (c.begins.ensures (not-false _ c.if-not-begins.false-raw)).1

pub align_if-requires : goal.align_if-requires
align_if-requires c = omega (arith, bit-inside c.requires.0 (c.begins.ensures (not-false _ c.if-not-begins.false-raw)).0, c.requires.0.loading.size)

pub returns-then-is_white : goal.returns-then-is_white
returns-then-is_white c = row-white c.requires.0 (c.begins.ensures (not-false _ c.if-not-begins.false-raw)).0 (sym c.is_white.ensures ∙ c.if-is_white.true) _ c.align_if.ensures

pub row_at-requires : goal.row_at-requires
row_at-requires c = (line-seen c.requires.0 (c.begins.ensures (not-false _ c.if-not-begins.false-raw)).0, c.requires.1)

pub returns : goal.returns
returns c = row_seen c.requires.0 (c.begins.ensures (not-false _ c.if-not-begins.false-raw)).0 _ _ c.row_at.ensures
