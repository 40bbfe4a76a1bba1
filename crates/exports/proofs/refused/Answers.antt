use borrow.Author.Tests.{eq-eqb, ne_eqb, lt-ltb, le-ltb}
use Rattle.rules.specs.Pages.{entries, most_bytes}
use Rattle.exports.proofs.refused.Goals as goal

pub returns-then-columns-eq-MOST_PIXELS : goal.returns-then-columns-eq-MOST_PIXELS
unfolding entries
returns-then-columns-eq-MOST_PIXELS c = rw (c.refusal.ensures, eq-eqb c.args.columns 4294967295 c.if-columns-eq-MOST_PIXELS.true)

pub returns-then-size-gt-MOST_BYTES : goal.returns-then-size-gt-MOST_BYTES
unfolding entries
returns-then-size-gt-MOST_BYTES c = rw (c.refusal-then-size-gt-MOST_BYTES.ensures, ne_eqb c.args.columns 4294967295 c.if-columns-eq-MOST_PIXELS.false, lt-ltb most_bytes c.args.size c.if-size-gt-MOST_BYTES.true)

pub returns : goal.returns
unfolding entries
returns c = rw (c.refusal-2.ensures, ne_eqb c.args.columns 4294967295 c.if-columns-eq-MOST_PIXELS.false, le-ltb most_bytes c.args.size c.if-size-gt-MOST_BYTES.false)
