-- `look::sheet::put_row_mark` meets its contract. Assumes nothing.
use Rattle.look.proofs.Stating.{tells-never, tells-can, at-as}
use borrow.Author.Tests.{eq-eqb, ne_eqb}
use native.Mathlib.Omega.{arith}
use Prim.Native.Nat.{◌-◌}
use mathlib.Core.List.{[], ◌∷◌}
use mathlib.Core.Bool.{not}
use mathlib.Core.Path.{◌≡◌, ap, ◌∙◌}
use Rattle.look.proofs.sheet.put_row_mark.Goals as goal

pub returns-then-v-eq0 : goal.returns-then-v-eq0
returns-then-v-eq0 c = tells-never (ap not (eq-eqb c.args.v.row 0 (omega arith)))

pub returns : goal.returns
returns c = tells-can (ap not (ne_eqb c.args.v.row 0 (λ z. omega arith))) (at-as ((c.args.v.row - 1) ∷ c.args.columns ∷ c.args.v.row ∷ 0 ∷ 0 ∷ 0 ∷ 0 ∷ 0 ∷ 0 ∷ []) 43 c.one-k.ensures.value) c.tell_with.ensures
