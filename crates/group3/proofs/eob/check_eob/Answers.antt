-- `group3::eob::check_eob` meets its contract. Assumes nothing.
use mathlib.Core.Path.{sym, ◌∙◌}
use Rattle.bit_reader.specs.Loaded.{Loading}
use Rattle.settings.specs.Settings.{settings_of, tagging_of}
use Rattle.group3.proofs.Judging.{aligned-loading, lacking-there, before-lacking, before-judged}
use Rattle.group3.proofs.eob.check_eob.Goals.{After-align}
use Rattle.group3.proofs.eob.check_eob.Goals as goal

-- where the EOLs are read from
from : (c : After-align) → Loading c.args.src.now c.align.result
from c = aligned-loading c.args.settings c.args.state c.requires c.align.result c.align.ensures

pub read_eols-eols-requires : goal.read_eols-eols-requires
read_eols-eols-requires c = from c

pub skip_rest-requires : goal.skip_rest-requires
skip_rest-requires c =
    let a = c.args in
    lacking-there a.settings a.src.now a.state c.read_eols-eols.result c.align.result c.align.ensures c.read_eols-eols.ensures (from (goal.at.skip_rest-requires c).After-align)
    (sym c.if-lacks_eol.true ∙ c.lacks_eol.ensures (settings_of a.settings) (tagging_of a.settings.encoding))

pub returns-then-lacks_eol : goal.returns-then-lacks_eol
returns-then-lacks_eol c =
    let a = c.args in
    before-lacking a.settings a.src.now a.state c.read_eols-eols.result c.align.result c.align.ensures c.read_eols-eols.ensures
    (sym c.if-lacks_eol.true ∙ c.lacks_eol.ensures (settings_of a.settings) (tagging_of a.settings.encoding)) _ c.skip_rest.ensures

pub returns : goal.returns
returns c =
    let a = c.args in
    before-judged a.settings a.src.now a.state c.read_eols-eols.result c.align.result c.align.ensures c.read_eols-eols.ensures
    (sym c.if-lacks_eol.false ∙ c.lacks_eol.ensures (settings_of a.settings) (tagging_of a.settings.encoding)) _ c.judge.ensures
