-- `writer::write_group3_2d` meets its contract. Assumes nothing.
use Rattle.writer.proofs.Answering3.{laid-2d, answers-2d}
use Rattle.writer.proofs.write_group3_2d.Goals as goal

pub write-requires : goal.write-requires
write-requires c = laid-2d _ _ c.k_allowed.ensures

pub returns : goal.returns
returns c = answers-2d _ _ c.k_allowed.ensures _ _ _ _ c.write.ensures
