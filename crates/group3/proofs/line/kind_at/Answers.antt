-- `group3::line::kind_at` meets its contract. Assumes nothing.
use mathlib.Core.Path.{◌≡◌, sym, ◌∙◌}
use mathlib.Core.Bool.{true, false}
use lib.Dec.{leb}
use lib.ListN.{length}
use borrow.Author.Tests.{not-true, not-false}
use Rattle.rules.specs.Bits.{bits_of}
use Rattle.settings.specs.Settings.{tagging_of}
use Rattle.group3.specs.Tags.{is_tagged}
use Rattle.group3.proofs.Judging.{end_is}
use Rattle.group3.proofs.Starts.{kind-untagged, kind-missing, kind-one, kind-two}
use Rattle.group3.proofs.line.kind_at.Goals.{Else-at_end, Else-not-is_tagged}
use Rattle.group3.proofs.line.kind_at.Goals as goal

-- tag bits are told apart, and there is one
tagged : (c : Else-not-is_tagged) → is_tagged (tagging_of c.args.settings.encoding) ≡ true
tagged c = sym c.is_tagged.ensures ∙ not-false _ c.if-not-is_tagged.false-raw

more_bits : (c : Else-at_end) → leb (length (bits_of c.args.src.now)) c.args.at ≡ false
more_bits c = sym (end_is c.args.src.now c.args.at _ c.at_end.ensures) ∙ c.if-at_end.false

pub returns-then-not-is_tagged : goal.returns-then-not-is_tagged
returns-then-not-is_tagged c = kind-untagged c.requires (tagging_of c.args.settings.encoding) (sym c.is_tagged.ensures ∙ not-true _ c.if-not-is_tagged.true-raw)

pub returns-then-at_end : goal.returns-then-at_end
returns-then-at_end c =
    let a = c.args in
    kind-missing c.requires (tagging_of a.settings.encoding) (tagged (goal.at.returns-then-at_end c).Else-not-is_tagged) (sym (end_is a.src.now a.at _ c.at_end.ensures) ∙ c.if-at_end.true)

pub returns-then-is_one : goal.returns-then-is_one
returns-then-is_one c = kind-one c.requires (tagging_of c.args.settings.encoding) (tagged (goal.at.returns-then-is_one c).Else-not-is_tagged) (more_bits (goal.at.returns-then-is_one c).Else-at_end) (sym c.is_one.ensures ∙ c.if-is_one.true)

pub returns : goal.returns
returns c = kind-two c.requires (tagging_of c.args.settings.encoding) (tagged (goal.at.returns c).Else-not-is_tagged) (more_bits (goal.at.returns c).Else-at_end) (sym c.is_one.ensures ∙ c.if-is_one.false)
