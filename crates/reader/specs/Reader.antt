-- The reader: its data, and the offset of its next bit.
use Rattle.std.specs.Prelude.{Bool, List, ℕ, length, drop}
use Rattle.std.specs.Borrow.{Bor}
use Rattle.rules.specs.Bits.{bits_of, peek}
use Rattle.reader.specs.declared.BitReader.{BitReader}
use Rattle.reader.specs.declared.Word.{Word}
use Rattle.reader.specs.declared.cursor.Went.{Went}
use Rattle.reader.specs.Read.{went_by, aligned_at}

-- a reader at a bit of data
abbrev pub reader_at : Bor (List ℕ) → ℕ → BitReader
reader_at src at = record { src = src; at = at }

-- the bits that it has not taken
abbrev pub left : BitReader → List Bool
left h = drop h.at (bits_of h.src.now)

-- where taking `n` bits leads it, and the answer
abbrev pub taking : BitReader → ℕ → Went
taking h n = went_by (length h.src.now) h.at n

-- the 32 bits from the first byte behind `n` bits
abbrev pub word_after : List ℕ → ℕ → Word
word_after bytes n = record {
  bits = peek 32 (drop (aligned_at (went_by (length bytes) 0 n).at) (bits_of bytes));
  answer = (went_by (length bytes) 0 n).answer;
}
