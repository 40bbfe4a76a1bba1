-- `look::sheet::count_of` meets its contract: the library's count is that of the definition. Assumes nothing.
use mathlib.Core.Path.{◌≡◌, ◌∙◌}
use lib.Dec.{eqb}
use Rattle.std.proofs.Common.{rules}
use Rattle.std.specs.Prelude.{count_by}
use Rattle.look.proofs.Stating.{count-by}
use Rattle.look.proofs.sheet.count_of.Goals as goal

pub returns : goal.returns
returns c =
    let e : c.count.result ≡ count_by (λ x. eqb x c.args.mark) c.args.marks.now = search rules in
    e ∙ count-by c.args.mark c.args.marks.now
