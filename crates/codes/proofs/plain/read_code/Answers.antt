-- `codes::plain::read_code` meets its contract: the colour's tables, and the code that is in them. Assumes nothing.
use mathlib.Core.Path.{ap, ◌∙◌}
use mathlib.Core.List.{List}
use lib.ListN.{drop}
use Rattle.rules.specs.Bits.{bits_of}
use Rattle.rules.specs.Codes.{Code}
use Rattle.rules.specs.Plain.{candidates, compare, plain}
use Rattle.tables.specs.Tables.{colour_of}
use Rattle.codes.proofs.Verdicts.{all_codes}
use Rattle.codes.proofs.plain.read_code.Goals as goal

pub code_in-requires : goal.code_in-requires
code_in-requires g c =
    (record { colour = colour_of c.args.colour; terminating = c.terminating_of-terminating.ensures; makeup = c.makeup_of-makeup.ensures; common = c.common_makeup-common.ensures }, c.requires)

pub returns : goal.returns
unfolding plain
returns g c =
    let a = c.args in
    c.code_in.ensures
    ∙ ap (λ (cs : List Code). compare 0 (candidates cs) (drop a.at (bits_of a.src.now)))
    (all_codes (colour_of a.colour) _ c.makeup_of-makeup.result _ c.terminating_of-terminating.ensures c.makeup_of-makeup.ensures c.common_makeup-common.ensures)
