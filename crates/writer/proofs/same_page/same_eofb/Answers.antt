-- `writer::same_page::same_eofb` meets its contract. One EOL, and then the other. Assumes nothing.
use mathlib.Core.Path.{refl}
use Rattle.writer.proofs.Leaving.{met-inside, code-last, passed_on}
use Rattle.writer.proofs.CodesMet.{eofb-parts, eofb-on}
use Rattle.writer.proofs.same_page.same_eofb.Goals as goal

pub returns-in_err-met : goal.returns-in_err-met
returns-in_err-met c = passed_on _ c.from_residual.ensures.1 (eofb-parts c.requires c.eol.ensures c.in_err-met.ensures refl)

pub meet-requires-2 : goal.meet-requires-2
meet-requires-2 c = (met-inside c.requires c.in_ok-met.ensures, c.eol-2.ensures.sound)

pub returns : goal.returns
returns c =
    code-last (eofb-on c.requires c.eol.ensures c.in_ok-met.ensures refl) c.eol-2.ensures c.meet-2.ensures refl
