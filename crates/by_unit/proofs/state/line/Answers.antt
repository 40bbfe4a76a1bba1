use Rattle.by_unit.proofs.state.line.Goals as goal

pub returns : goal.returns
returns c = λ i. record { width = c.args.columns; position = c.args.saved.position; changes = c.args.saved.loose; colour = c.number_of.ensures i; cut = c.number_of-2.ensures i }
