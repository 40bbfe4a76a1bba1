use Rattle.ledger.proofs.Whole.{total-words, total-end-room, total-ended}
use Rattle.ledger.proofs.said.put_total_line.Goals as goal

pub put_phrase-p-requires : goal.put_phrase-p-requires
put_phrase-p-requires c = total-words c.args.out.now c.args.ns.now c.args.b c.requires.0 c.requires.1 c.total_at.result c.total_at.ensures

pub put_byte-requires : goal.put_byte-requires
put_byte-requires c = total-end-room c.args.out.now c.args.ns.now c.args.b c.requires.0 c.requires.1 c.total_at.result c.total_at.ensures c.put_phrase-p.ensures

pub returns : goal.returns
returns c = total-ended c.args.out.now c.args.ns.now c.args.b c.requires.0 c.requires.1 c.total_at.result c.total_at.ensures c.put_phrase-p.ensures c.put_byte.ensures
