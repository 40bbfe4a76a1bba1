-- `ledger::said::put_parts` meets its contract. Assumes nothing.
use Rattle.ledger.proofs.Whole.{name-room, head-room, reason-room, end-room, ended}
use Rattle.ledger.proofs.said.put_parts.Goals as goal

pub put_name-p-requires : goal.put_name-p-requires
put_name-p-requires c = let a = c.args in name-room a.out.now a.name.now a.ns.now a.v a.k c.requires

pub put_phrase-p-requires : goal.put_phrase-p-requires
put_phrase-p-requires c = let a = c.args in head-room a.out.now a.name.now a.ns.now a.v a.k c.requires c.put_name-p.ensures

pub put_words-p-requires : goal.put_words-p-requires
put_words-p-requires c = let a = c.args in reason-room a.out.now a.name.now a.ns.now a.v a.k c.requires c.put_name-p.ensures c.put_phrase-p.ensures

pub put_byte-requires : goal.put_byte-requires
put_byte-requires c = let a = c.args in end-room a.out.now a.name.now a.ns.now a.v a.k c.requires c.put_name-p.ensures c.put_phrase-p.ensures c.put_words-p.ensures

pub returns : goal.returns
returns c = let a = c.args in ended a.out.now a.name.now a.ns.now a.v a.k c.requires c.put_name-p.ensures c.put_phrase-p.ensures c.put_words-p.ensures c.put_byte.ensures
