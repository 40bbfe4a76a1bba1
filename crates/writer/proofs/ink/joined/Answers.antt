-- `writer::ink::joined` meets its contract. The sum fits 32 bits. Assumes nothing.
use borrow.Author.Rules.{rules}
use Rattle.writer.proofs.Splicing.{join, join-fits}
use Rattle.writer.proofs.ink.joined.Goals as goal

pub overflow_add-result : goal.overflow_add-result
overflow_add-result c =
    record {
      fits =
          join-fits c.args.byte c.args.kept c.args.code (search rules) c.requires.0
          c.requires.1;
    }

pub returns : goal.returns
returns c =
    join c.args.byte c.args.kept c.args.code (search rules) c.requires.0
    c.requires.1
