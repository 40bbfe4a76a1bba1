-- The invariant: the rows below `digit` are those of the numbers, the others are blank. Assumes nothing.
use mathlib.Core.List.{List, [], ◌∷◌}
use mathlib.Core.Path.{refl, ◌∙◌}
use native.Mathlib.Omega.{arith}
use Rattle.heads.specs.Numbers.{form_in}
use Rattle.heads.specs.declared.Box.{Box}
use Rattle.heads.proofs.Twos.{no_box, filled_next, filled-all}
use Rattle.heads.proofs.Numbered.{form-long, form-at}
use Rattle.heads.proofs.numbers.form_in.Goals as goal

abbrev no_boxes : List Box
no_boxes = no_box ∷ no_box ∷ []

pub loop-digit-init : goal.loop-digit-init
loop-digit-init c = (omega arith, refl)

pub overflow_mul-digit : goal.overflow_mul-digit
overflow_mul-digit c = omega arith

pub box_in-requires : goal.box_in-requires
box_in-requires c = omega arith

pub overflow_mul-digit-in-loop-digit : goal.overflow_mul-digit-in-loop-digit
overflow_mul-digit-in-loop-digit c = omega arith

pub overflow_add-digit : goal.overflow_add-digit
overflow_add-digit c = omega arith

pub box_in-requires-in-loop-digit : goal.box_in-requires-in-loop-digit
box_in-requires-in-loop-digit c = omega arith

pub offset_bounds-form-digit : goal.offset_bounds-form-digit
offset_bounds-form-digit c = omega arith

pub bounds-form-digit : goal.bounds-form-digit
bounds-form-digit c = omega arith

pub loop-digit-preserved : goal.loop-digit-preserved
loop-digit-preserved c =
    let numbers = c.args.numbers.now in (
      omega arith,
      filled_next no_boxes (form_in numbers) (form-long numbers) [] c.loop-digit.form c.loop-digit.digit (c.box_in.result ∷ c.box_in-in-loop-digit.result ∷ []) c.loop-digit-test.true
          (form-at numbers c.loop-digit.digit c.loop-digit-test.true ∙ rw (c.box_in.ensures, c.box_in-in-loop-digit.ensures)) c.loop-digit.invariant.1,
    )

pub returns : goal.returns
returns c =
    let numbers = c.args.numbers.now in
    filled-all no_boxes (form_in numbers) (form-long numbers) c.loop-digit.form c.loop-digit.digit c.loop-digit-test.false c.loop-digit.invariant.0 c.loop-digit.invariant.1
