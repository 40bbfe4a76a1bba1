-- `ledger_file::fields::is_field` meets its contract. Assumes nothing.
use Prim.Native.Nat.{ℕ}
use mathlib.Core.List.{List}
use mathlib.Core.Path.{ap, ◌∙◌}
use Rattle.form_file.specs.Words.{same}
use Rattle.ledger_file.proofs.fields.is_field.Goals as goal

pub returns : goal.returns
returns c = c.same.ensures ∙ ap (λ (xs : List ℕ). same xs c.args.word.now) c.field_of.ensures
