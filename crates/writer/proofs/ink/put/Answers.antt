-- `writer::ink::put` meets its contract. Written, or only counted. Assumes nothing.
use mathlib.Core.Path.{refl}
use Rattle.writer.proofs.Owing.{put_written, put-counted}
use Rattle.writer.proofs.ink.put.Goals as goal

pub store-requires : goal.store-requires
store-requires c =
    (c.requires.0.inside c.if-write.true, c.requires.1)

pub returns-then-write : goal.returns-then-write
returns-then-write c =
    put_written c.args.code c.args.write c.args.at
    c.args.out.now _ c.if-write.true c.store.ensures

pub returns-else-write : goal.returns-else-write
returns-else-write c =
    put-counted c.args.code c.args.write c.args.at
    c.args.out.now _ c.if-write.false refl
