-- `bit_reader::word::slow` meets its contract. The measure is the number of bytes.
use Rattle.bit_reader.proofs.word.+slow.Given as goal

abbrev pub decreases-slow : goal.decreases-slow
decreases-slow l = l.n
