-- By the step that was told.
use Rattle.one_line.proofs.OneLine.{answers-on, answers-stop}
use Rattle.one_line.proofs.read.answer.Goals as goal

pub returns-in-Ok : goal.returns-in-Ok
returns-in-Ok c = rw c.in-Ok.is (answers-on _ _)

pub returns-in-Err : goal.returns-in-Err
returns-in-Err c = rw c.in-Err.is (answers-stop _)
