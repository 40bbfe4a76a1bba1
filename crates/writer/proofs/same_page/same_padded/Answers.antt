-- `writer::same_page::same_padded` meets its contract. Where the page is met, the zeros behind it tell. Assumes nothing.
use mathlib.Core.Path.{refl}
use Rattle.writer.proofs.Leaving.{passed_on}
use Rattle.writer.proofs.PartingLaws.{page-parts, page-ends}
use Rattle.writer.proofs.same_page.same_padded.Goals as goal

pub returns-in_err-met : goal.returns-in_err-met
returns-in_err-met c = λ xs m. passed_on _ c.from_residual.ensures.1 (page-parts (rw c.in_err-met.was at c.requires) xs (rw c.in_err-met.was at m) refl)

pub same_zeros-requires : goal.same_zeros-requires
same_zeros-requires c = rw c.in_ok-met.was at c.requires

pub returns : goal.returns
returns c = λ xs m. page-ends (rw c.in_ok-met.was at c.requires) xs (rw c.in_ok-met.was at m) refl c.same_zeros.ensures
