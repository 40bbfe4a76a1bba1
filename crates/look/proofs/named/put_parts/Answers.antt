-- `look::named::put_parts` meets its contract. Assumes nothing.
use Rattle.look.proofs.Naming.{first-room, name-room, middle-room, reason-room, last-room, ended}
use Rattle.look.proofs.named.put_parts.Goals as goal

pub put_said-p-requires : goal.put_said-p-requires
put_said-p-requires c = let a = c.args in first-room a.out.now a.name.now a.numbers.now a.v a.first a.middle a.last c.requires

pub put_escaped-p-requires : goal.put_escaped-p-requires
put_escaped-p-requires c = let a = c.args in name-room a.out.now a.name.now a.numbers.now a.v a.first a.middle a.last c.requires c.put_said-p.ensures

pub put_phrase-p-requires : goal.put_phrase-p-requires
put_phrase-p-requires c = let a = c.args in middle-room a.out.now a.name.now a.numbers.now a.v a.first a.middle a.last c.requires c.put_said-p.ensures c.put_escaped-p.ensures

pub put_words-p-requires : goal.put_words-p-requires
put_words-p-requires c = let a = c.args in reason-room a.out.now a.name.now a.numbers.now a.v a.first a.middle a.last c.requires c.put_said-p.ensures c.put_escaped-p.ensures c.put_phrase-p.ensures

pub put_phrase-requires : goal.put_phrase-requires
put_phrase-requires c = let a = c.args in last-room a.out.now a.name.now a.numbers.now a.v a.first a.middle a.last c.requires c.put_said-p.ensures c.put_escaped-p.ensures c.put_phrase-p.ensures c.put_words-p.ensures

pub returns : goal.returns
returns c = let a = c.args in ended a.out.now a.name.now a.numbers.now a.v a.first a.middle a.last c.requires c.put_said-p.ensures c.put_escaped-p.ensures c.put_phrase-p.ensures c.put_words-p.ensures c.put_phrase.ensures
