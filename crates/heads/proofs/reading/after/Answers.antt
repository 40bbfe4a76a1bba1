-- `heads::reading::after` meets its contract. Assumes nothing.
use mathlib.Core.Path.{sym, ap}
use Rattle.heads.specs.Steps.{seen}
use Rattle.heads.proofs.reading.after.Goals as goal

pub returns-in-Missing : goal.returns-in-Missing
returns-in-Missing c = sym (ap (λ d. seen d c.args.next) c.in-Missing.is)
