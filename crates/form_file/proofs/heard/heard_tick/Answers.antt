-- `form_file::heard::heard_tick` meets its contract: each return is one arm of the definition. Assumes nothing.
use mathlib.Core.Path.{refl}
use native.Mathlib.Omega.{arith}
use borrow.Author.Tests.{eq-eqb, ne_eqb, lt-ltb, le-ltb}
use Rattle.form_file.specs.Heard.{heard}
use Rattle.form_file.proofs.heard.heard_tick.Goals as goal

pub returns-then-form-ne0 : goal.returns-then-form-ne0
returns-then-form-ne0 c = λ room line boxes lines places h. record { is = rw (heard, ne_eqb _ 0 c.if-form-ne0.true); boxes_same = refl; places_same = refl }

pub returns-then-n-eq0 : goal.returns-then-n-eq0
returns-then-n-eq0 c = λ room line boxes lines places h. record { is = rw (heard, eq-eqb _ 0 c.if-form-ne0.false, le-ltb 0 c.args.n (omega arith)); boxes_same = refl; places_same = refl }

pub returns : goal.returns
returns c = λ room line boxes lines places h. record { is = rw (heard, eq-eqb _ 0 c.if-form-ne0.false, lt-ltb 0 c.args.n (omega arith)); more = omega arith; fits = h; behind = refl }
