-- The engine, and where the reference lies, decide which loop reads the line.
use mathlib.Core.Path.{subst}
use Rattle.context.specs.declared.reference.Reference.{Reference}
use Rattle.context.specs.Coding.{TabledFor}
use Rattle.one_line.proofs.line_2d.decode_2d_line.Goals as goal

pub kept_line-requires : goal.kept_line-requires
kept_line-requires c =
    let asks = c.requires in
    let kept = c.in-Kept.is in
    let tables = subst (λ (p : Reference). TabledFor p c.args.white.now c.args.black.now) kept asks.1 in
    (record { starts = asks.0.starts; placed = rw kept at asks.0.placed; rising = rw kept at asks.0.rising }, tables)

pub lent_line-requires : goal.lent_line-requires
lent_line-requires c =
    let asks = c.requires.0 in
    let lent = c.in-Lent.is in
    record { starts = asks.starts; placed = rw lent at asks.placed; rising = rw lent at asks.rising }

pub returns-in-Kept : goal.returns-in-Kept
returns-in-Kept c = rw c.in-Kept.is c.kept_line.ensures

pub returns-in-Lent : goal.returns-in-Lent
returns-in-Lent c = rw c.in-Lent.is c.lent_line.ensures
