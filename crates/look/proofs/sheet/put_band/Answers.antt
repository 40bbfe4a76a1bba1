-- `look::sheet::put_band` meets its contract. Assumes nothing.
use Rattle.look.proofs.Stating.{tells-never, tells-can, at-as}
use Rattle.ledger.specs.Phrases.{one}
use borrow.Author.Tests.{eq-eqb, ne_eqb}
use lib.ListN.{get_or}
use lib.Dec.{ltb}
use native.Mathlib.Omega.{arith}
use Prim.Native.Nat.{ℕ, ◌+◌}
use mathlib.Core.List.{[], ◌∷◌}
use mathlib.Core.Bool.{not}
use mathlib.Core.Path.{◌≡◌, sym, ap, ◌∙◌}
use Rattle.look.proofs.sheet.put_band.Goals as goal

pub returns-then-mark-eq0 : goal.returns-then-mark-eq0
returns-then-mark-eq0 c = tells-never (ap not (eq-eqb (get_or c.args.marks.now c.args.y 0) 0 (sym c.mark_at-mark.ensures ∙ (omega arith))))

pub returns : goal.returns
returns c = tells-can (ap not (ne_eqb (get_or c.args.marks.now c.args.y 0) 0 (λ z. c.if-mark-eq0.false (c.mark_at-mark.ensures ∙ z)))) (at-as (c.args.y ∷ c.args.columns ∷ (c.args.y + 1) ∷ 0 ∷ 0 ∷ 0 ∷ 0 ∷ 0 ∷ 0 ∷ []) 41 (c.one-k.ensures.value ∙ ap (λ (m : ℕ). one (ltb 1 m)) c.mark_at-mark.ensures)) c.tell_with.ensures
