-- `group3::eols::read_eols` meets its contract. Assumes nothing.
use mathlib.Core.Path.{◌≡◌, sym, ◌∙◌}
use mathlib.Core.Bool.{true}
use borrow.Author.Tests.{not-true, not-false}
use Rattle.rules.specs.Bits.{bits_of}
use Rattle.codes.specs.Eols.{eols_of}
use Rattle.settings.specs.Settings.{tagging_of}
use Rattle.group3.specs.Tags.{is_tagged}
use Rattle.group3.proofs.TagBits.{all_read, eols-untagged, eols-none, eols-tagged}
use Rattle.group3.proofs.eols.read_eols.Goals as goal

pub returns-then-not-is_tagged : goal.returns-then-not-is_tagged
returns-then-not-is_tagged c =
    let a = c.args in
    eols-untagged (bits_of a.src.now) a.at (tagging_of a.settings.encoding) (eols_of c.read_all_eols-first.result) c.read_all_eols-first.ensures (sym c.is_tagged.ensures ∙ not-true _ c.if-not-is_tagged.true-raw)

pub returns-then-first-eq0 : goal.returns-then-first-eq0
returns-then-first-eq0 c =
    let a = c.args in
    eols-none (bits_of a.src.now) a.at (tagging_of a.settings.encoding) (eols_of c.read_all_eols-first.result) c.read_all_eols-first.ensures ((let h-tagged : is_tagged (tagging_of c.args.settings.encoding) ≡ true = sym c.is_tagged.ensures ∙ not-false _ c.if-not-is_tagged.false-raw in h-tagged)) c.if-first-eq0.true

pub between_tags-requires : goal.between_tags-requires
between_tags-requires c = (all_read c.requires c.read_all_eols-first.result c.read_all_eols-first.ensures).0

pub returns : goal.returns
returns c =
    let a = c.args in
    eols-tagged (bits_of a.src.now) a.at (tagging_of a.settings.encoding) (eols_of c.read_all_eols-first.result) c.read_all_eols-first.ensures ((let h-tagged : is_tagged (tagging_of c.args.settings.encoding) ≡ true = sym c.is_tagged.ensures ∙ not-false _ c.if-not-is_tagged.false-raw in h-tagged)) c.if-first-eq0.false _ c.between_tags.ensures
