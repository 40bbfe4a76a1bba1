-- `writer::same_page::parting` meets its contract. The data ends behind the page and its zeros, or parts from them. Assumes nothing.
use mathlib.Core.Path.{refl}
use Rattle.writer.proofs.PartingLaws.{page-told}
use Rattle.writer.proofs.same_page.parting.Goals as goal

pub returns-in-Ok : goal.returns-in-Ok
returns-in-Ok c = λ xs m. page-told xs (c.in-Ok.ensures xs m) refl

pub returns-in-Err : goal.returns-in-Err
returns-in-Err c = λ xs m. page-told xs (c.in-Err.ensures xs m) refl
