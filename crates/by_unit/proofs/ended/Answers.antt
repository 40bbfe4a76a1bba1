use Rattle.by_unit.specs.declared.Reading.TheVariants.{Ended}
use Rattle.by_unit.proofs.ended.Goals as goal

pub returns : goal.returns
returns c =
    let a = c.args.answer in
    λ i. record { answer = a; units = c.args.units; reading = Ended (c.end_of-end.ensures i) (record { rows = a.rows; entries = a.entries }) }
