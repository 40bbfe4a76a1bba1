-- One code by the two parts of the entry for the next 13 bits. Assumes nothing.
use Rattle.tables.specs.Tables.{colour_of}
use Rattle.codes.proofs.Runs.{At, look_at}
use Rattle.codes.proofs.Looking.{looks-short, looks-wrong, looks-right}
use Rattle.codes.proofs.run.look_up.Goals.{After-size_in-size}
use Rattle.codes.proofs.run.look_up.Goals as goal

-- what is known with the entry
here : (c : After-size_in-size) →
    let s = c.args in
    At (colour_of s.colour) s.src.now s.at c.run_in-run.result c.size_in-size.result
here c =
    look_at c.entry-entry.ensures c.peek13-top.ensures.value c.run_in-run.ensures c.size_in-size.ensures.0

pub returns-then-left-size : goal.returns-then-left-size
returns-then-left-size c = looks-short (here (goal.at.returns-then-left-size c).After-size_in-size) c.if-left-size.true

pub returns-then-run-eq4095 : goal.returns-then-run-eq4095
returns-then-run-eq4095 c = looks-wrong (here (goal.at.returns-then-run-eq4095 c).After-size_in-size) c.if-left-size.false c.if-run-eq4095.true

pub returns : goal.returns
returns c = looks-right (here (goal.at.returns c).After-size_in-size) c.if-left-size.false c.if-run-eq4095.false
