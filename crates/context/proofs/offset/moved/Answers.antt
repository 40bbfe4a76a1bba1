-- Each way out hands its tests to a law of what the machine computed.
use Rattle.context.proofs.Signed.{sum_fits, over-right, over-left, difference-fits, difference-narrow, goes}
use Rattle.context.proofs.offset.moved.Goals as goal

pub overflow_add-a1 : goal.overflow_add-a1
overflow_add-a1 c = sum_fits c.ranges.b1 c.ranges.offset c.ranges.position c.requires

pub returns-then-a1-gt-MOST_PLACE : goal.returns-then-a1-gt-MOST_PLACE
returns-then-a1-gt-MOST_PLACE c = over-right c.ranges.b1 c.ranges.offset c.ranges.position c.requires c.if-a1-gt-MOST_PLACE.true

pub overflow_sub-count : goal.overflow_sub-count
overflow_sub-count c = difference-fits c.ranges.b1 c.ranges.offset c.ranges.position c.requires

pub returns-then-count-lt0 : goal.returns-then-count-lt0
returns-then-count-lt0 c = over-left c.ranges.b1 c.ranges.offset c.ranges.position c.requires c.if-a1-gt-MOST_PLACE.false c.if-count-lt0.true

pub overflow_cast-result : goal.overflow_cast-result
overflow_cast-result c = difference-narrow c.ranges.b1 c.ranges.offset c.ranges.position c.requires c.if-a1-gt-MOST_PLACE.false c.if-count-lt0.false

pub returns : goal.returns
returns c = goes c.ranges.b1 c.ranges.offset c.ranges.position c.requires c.if-a1-gt-MOST_PLACE.false c.if-count-lt0.false
