-- `group3::eob::skip_rest` meets its contract. Assumes nothing.
use mathlib.Core.Path.{sym, ap, ◌∙◌}
use Rattle.codes.specs.Eols.{skip_of}
use Rattle.group3.proofs.Judging.{found-loading, missing-strict, missing-found, missing-none}
use Rattle.group3.proofs.eob.skip_rest.Goals as goal

pub returns-then-settings : goal.returns-then-settings
returns-then-settings c = let a = c.args in missing-strict a.settings a.src.now a.at c.if-settings.true

pub read_eols-eols-requires : goal.read_eols-eols-requires
read_eols-eols-requires c = found-loading c.requires.loading _ (sym (ap skip_of c.in-Some.is) ∙ c.next_eol.ensures)

pub returns-in-Some : goal.returns-in-Some
returns-in-Some c =
    let a = c.args in
    missing-found a.settings a.src.now a.at c.if-settings.false _ _ (sym (ap skip_of c.in-Some.is) ∙ c.next_eol.ensures)
    c.read_eols-eols.result c.read_eols-eols.ensures c.judge.ensures

pub returns-in-None : goal.returns-in-None
returns-in-None c =
    let a = c.args in
    missing-none a.settings a.src.now a.at c.if-settings.false _ (sym (ap skip_of c.in-None.is) ∙ c.next_eol.ensures)
    c.judge-in-None.ensures
