-- `form_file::read_form` meets its contract: each return is one arm of the definition. Assumes nothing.
use mathlib.Core.Path.{refl}
use native.Mathlib.Omega.{arith}
use Rattle.form_file.proofs.Forming.{start-inside, forms-roomless, forms-long, forms-read}
use Rattle.form_file.proofs.read_form.Goals as goal

pub returns-then-boxes-ne-BOX_NUMBERS : goal.returns-then-boxes-ne-BOX_NUMBERS
returns-then-boxes-ne-BOX_NUMBERS c = rw c.faulty.ensures (forms-roomless c.args.text.now c.args.boxes.now c.args.places.now c.if-boxes-ne-BOX_NUMBERS.true)

pub returns-then-text-gt-MOST_BYTES : goal.returns-then-text-gt-MOST_BYTES
returns-then-text-gt-MOST_BYTES c = rw c.faulty-then-text-gt-MOST_BYTES.ensures (forms-long c.args.text.now c.args.boxes.now c.args.places.now c.if-boxes-ne-BOX_NUMBERS.false c.if-text-gt-MOST_BYTES.true)

pub hear-requires : goal.hear-requires
hear-requires c = record {
  inside = omega (arith, c.text_start-from.ensures, start-inside c.args.text.now);
  short = c.if-text-gt-MOST_BYTES.false;
  boxes_long = c.if-boxes-ne-BOX_NUMBERS.false;
  lines_long = refl;
}

pub returns : goal.returns
returns c = forms-read c.args.text.now c.args.boxes.now c.args.places.now c.if-boxes-ne-BOX_NUMBERS.false c.if-text-gt-MOST_BYTES.false _ c.text_start-from.ensures c.hear.ensures
