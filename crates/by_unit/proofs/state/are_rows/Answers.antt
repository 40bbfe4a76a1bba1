use mathlib.Core.Path.{sym, ◌∙◌}
use Prim.Native.Nat.{◌+◌}
use lib.ListN.{length}
use Rattle.by_unit.proofs.Tests.{no, yes, over, within}
use Rattle.by_unit.proofs.state.are_rows.Goals as goal

pub returns-then-most-base : goal.returns-then-most-base
returns-then-most-base c = over c.args.base c.args.most _ c.if-most-base.true

pub returns-then-base-start : goal.returns-then-base-start
returns-then-base-start c = over c.args.start c.args.base _ c.if-base-start.true ∙ within c.args.base c.args.most _ c.if-most-base.false

pub returns-then-changes-behind : goal.returns-then-changes-behind
returns-then-changes-behind c =
    over (c.args.base + c.args.saved.loose) (length c.args.changes.now) _ c.if-changes-behind.true ∙ within c.args.start c.args.base _ c.if-base-start.false ∙ within c.args.base c.args.most _ c.if-most-base.false

pub returns-then-ascends : goal.returns-then-ascends
returns-then-ascends c =
    c.ascends-then-ascends.ensures ∙ yes _ _ (sym c.ascends.ensures ∙ c.if-ascends.true) ∙ within (c.args.base + c.args.saved.loose) (length c.args.changes.now) _ c.if-changes-behind.false ∙ within c.args.start c.args.base _ c.if-base-start.false ∙ within c.args.base c.args.most _ c.if-most-base.false

pub returns : goal.returns
returns c =
    no _ _ (sym c.ascends.ensures ∙ c.if-ascends.false) ∙ within (c.args.base + c.args.saved.loose) (length c.args.changes.now) _ c.if-changes-behind.false ∙ within c.args.start c.args.base _ c.if-base-start.false ∙ within c.args.base c.args.most _ c.if-most-base.false
