-- `form_file::heard::heard_proper` meets its contract: each return is one arm of the definition. Assumes nothing.
use mathlib.Core.Path.{refl}
use native.Mathlib.Omega.{arith}
use Rattle.form_file.specs.Heard.{heard}
use Rattle.form_file.proofs.heard.heard_proper.Goals as goal

pub returns-then-form : goal.returns-then-form
returns-then-form c = λ room line boxes lines places h. record { is = rw (heard, c.if-form.true); boxes_same = refl; places_same = refl }

pub returns : goal.returns
returns c = λ room line boxes lines places h. record { is = rw (heard, c.if-form.false); more = omega arith; fits = h; behind = refl }
