-- `look::said::put_said` meets its contract. Assumes nothing.
use Rattle.look.proofs.Spoken.{feed-room, words-room, words-end}
use Rattle.look.proofs.said.put_said.Goals as goal

pub put_byte-p-requires : goal.put_byte-p-requires
put_byte-p-requires c = feed-room c.args.out.now c.args.numbers.now c.args.k c.requires

pub put_phrase-requires : goal.put_phrase-requires
put_phrase-requires c = words-room c.args.out.now c.args.numbers.now c.args.k c.requires c.put_byte-p.ensures

pub returns : goal.returns
returns c = words-end c.args.out.now c.args.numbers.now c.args.k c.requires c.put_byte-p.ensures c.put_phrase.ensures
