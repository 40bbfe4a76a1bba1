-- The test of the parity is the rule's test of the colours.
use Rattle.context.proofs.Search.{place_here, place-next}
use Rattle.context.proofs.reference.b1_place.Goals as goal

pub returns-then-seen-colour : goal.returns-then-seen-colour
returns-then-seen-colour c = place_here c.args.seen c.args.colour c.requires.1 c.if-seen-colour.true

pub returns : goal.returns
returns c = place-next c.args.seen c.args.colour c.requires.1 c.if-seen-colour.false
