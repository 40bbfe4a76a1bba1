-- `writer::layout::of_data` meets its contract. By the zeros before the first one. Assumes nothing.
use Rattle.writer.proofs.KindsLaws.{zeros-alone, zeros-few, zeros-fill, fill-most, fill-less}
use Rattle.writer.proofs.layout.of_data.Goals as goal

pub returns-then-zeros-src : goal.returns-then-zeros-src
returns-then-zeros-src c = zeros-alone _ _ c.first_one-zeros.ensures c.if-zeros-src.true

pub returns-then-zeros-lt-EOL_ZEROS : goal.returns-then-zeros-lt-EOL_ZEROS
returns-then-zeros-lt-EOL_ZEROS c = zeros-few _ _ c.first_one-zeros.ensures c.if-zeros-src.false c.if-zeros-lt-EOL_ZEROS.true

pub returns-then-fill-gt-MOST_FILL : goal.returns-then-fill-gt-MOST_FILL
returns-then-fill-gt-MOST_FILL c = zeros-fill _ _ c.first_one-zeros.ensures c.if-zeros-src.false c.if-zeros-lt-EOL_ZEROS.false _ (fill-most _ c.if-fill-gt-MOST_FILL.true)

pub returns : goal.returns
returns c = zeros-fill _ _ c.first_one-zeros.ensures c.if-zeros-src.false c.if-zeros-lt-EOL_ZEROS.false _ (fill-less _ c.if-fill-gt-MOST_FILL.false)
