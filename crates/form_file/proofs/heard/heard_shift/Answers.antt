-- `form_file::heard::heard_shift` meets its contract: each return is one arm of the definition. Assumes nothing.
use mathlib.Core.Path.{refl, sym, ◌∙◌}
use native.Mathlib.Omega.{arith}
use borrow.Author.Tests.{le-leb, lt-leb, not-true, not-false}
use Rattle.form_file.specs.Heard.{heard}
use Rattle.form_file.proofs.heard.heard_shift.Goals as goal

pub returns-then-is_shift : goal.returns-then-is_shift
returns-then-is_shift c = λ room line boxes lines places h. record { is = rw (heard, sym c.is_shift.ensures ∙ c.if-is_shift.true); boxes_same = refl; places_same = refl }

pub returns-then-not-is_shift : goal.returns-then-not-is_shift
returns-then-not-is_shift c = λ room line boxes lines places h. record { is = rw (heard, sym c.is_shift.ensures ∙ c.if-is_shift.false, sym c.is_shift-2.ensures ∙ not-true _ c.if-not-is_shift.true-raw); boxes_same = refl; places_same = refl }

pub returns-then-across-gt-MOST_SHIFT : goal.returns-then-across-gt-MOST_SHIFT
returns-then-across-gt-MOST_SHIFT c = λ room line boxes lines places h. record {
  is = rw (heard, sym c.is_shift.ensures ∙ c.if-is_shift.false, sym c.is_shift-2.ensures ∙ not-false _ c.if-not-is_shift.false-raw, lt-leb _ 1000 c.if-across-gt-MOST_SHIFT.true);
  boxes_same = refl;
  places_same = refl;
}

pub returns-then-down-gt-MOST_SHIFT : goal.returns-then-down-gt-MOST_SHIFT
returns-then-down-gt-MOST_SHIFT c = λ room line boxes lines places h. record {
  is = rw (heard, sym c.is_shift.ensures ∙ c.if-is_shift.false, sym c.is_shift-2.ensures ∙ not-false _ c.if-not-is_shift.false-raw, le-leb _ 1000 c.if-across-gt-MOST_SHIFT.false, lt-leb _ 1000 c.if-down-gt-MOST_SHIFT.true);
  boxes_same = refl;
  places_same = refl;
}

pub returns : goal.returns
returns c = λ room line boxes lines places h. record {
  is = rw (heard, sym c.is_shift.ensures ∙ c.if-is_shift.false, sym c.is_shift-2.ensures ∙ not-false _ c.if-not-is_shift.false-raw, le-leb _ 1000 c.if-across-gt-MOST_SHIFT.false, le-leb _ 1000 c.if-down-gt-MOST_SHIFT.false);
  more = omega arith;
  fits = h;
  behind = refl;
}
