-- `promises::heads_of_page` meets its contract: the page is as `decode` leaves it, and its heads are those of HeadsOfPage. Assumes nothing.
use mathlib.Core.Path.{ap, ◌∙◌}
use native.Mathlib.Omega.{arith}
use Rattle.heads.specs.Form.{heads}
use Rattle.heads.proofs.Quota.{held}
use Rattle.heads.proofs.Lengths.{form-row}
use Rattle.promises.proofs.Called.{heads-after}
use Rattle.promises.proofs.heads_of_page.Goals as goal

pub returns : goal.returns
returns c =
    let a = c.args in
    let d = c.decode-page in
    let form-good = c.well_formed.1.1.1.1.1.0 in
    heads-after a.src.now a.settings _ a.form a.least a.quota _ _ _ (omega arith)
    (record { ten = form-good.1.0.1; two = λ digit h. form-row a.form _ digit form-good.1.1 (omega (arith, form-good.1.0.1, h)) })
    d.ensures c.front_ends.ensures c.front_marks.ensures
    (c.heads-heads.ensures ∙ ap (heads a.settings.columns _ _ _ a.form a.least) (held c.ranges.quota))
