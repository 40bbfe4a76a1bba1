-- `writer::write_group3_1d` meets its contract. Assumes nothing.
use Rattle.writer.proofs.Answering3.{laid-1d, answers-1d}
use Rattle.writer.proofs.write_group3_1d.Goals as goal

pub write-requires : goal.write-requires
write-requires c =
    let a = c.args in
    laid-1d a.eols a.fill c.of_1d.ensures

pub returns : goal.returns
returns c =
    let a = c.args in
    answers-1d a.eols a.fill _ _ _ _ c.of_1d.ensures c.write.ensures
