-- `form_file::heard::heard_page` meets its contract: each return is one arm of the definition. Assumes nothing.
use mathlib.Core.Path.{refl}
use native.Mathlib.Omega.{arith}
use borrow.Author.Tests.{eq-eqb, ne_eqb, lt-ltb, le-ltb, le-leb, lt-leb}
use Rattle.form_file.specs.Heard.{heard}
use Rattle.form_file.proofs.heard.heard_page.Goals as goal

pub returns-then-form-ne0 : goal.returns-then-form-ne0
returns-then-form-ne0 c = λ room line boxes lines places h. record { is = rw (heard, ne_eqb _ 0 c.if-form-ne0.true); boxes_same = refl; places_same = refl }

pub returns-then-columns-eq0 : goal.returns-then-columns-eq0
returns-then-columns-eq0 c = λ room line boxes lines places h. record { is = rw (heard, eq-eqb _ 0 c.if-form-ne0.false, le-ltb 0 c.args.columns (omega arith)); boxes_same = refl; places_same = refl }

pub returns-then-least-eq0 : goal.returns-then-least-eq0
returns-then-least-eq0 c = λ room line boxes lines places h. record {
  is = rw (heard, eq-eqb _ 0 c.if-form-ne0.false, lt-ltb 0 c.args.columns (omega arith), le-ltb 0 c.args.least (omega arith));
  boxes_same = refl;
  places_same = refl;
}

pub returns-then-most-least : goal.returns-then-most-least
returns-then-most-least c = λ room line boxes lines places h. record {
  is = rw (heard, eq-eqb _ 0 c.if-form-ne0.false, lt-ltb 0 c.args.columns (omega arith), lt-ltb 0 c.args.least (omega arith), lt-leb _ _ c.if-most-least.true);
  boxes_same = refl;
  places_same = refl;
}

pub returns : goal.returns
returns c = λ room line boxes lines places h. record {
  is = rw (heard, eq-eqb _ 0 c.if-form-ne0.false, lt-ltb 0 c.args.columns (omega arith), lt-ltb 0 c.args.least (omega arith), le-leb _ _ c.if-most-least.false);
  more = omega arith;
  fits = h;
  behind = refl;
}
