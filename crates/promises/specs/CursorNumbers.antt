-- "For an answer that is an enum, a definition gives this paper's number and values for each of its cases" (01): those of the bit reader, the Options that `consume`
-- and `feed` answer; the public reader's `TakenBits` has its own (`number_of`). "Consuming past it moves to the end and answers 2."
use Rattle.std.specs.Prelude.{◌≡◌, ◌⊎◌, ◌↔◌, List, ℕ, ◌+◌, ◌*◌, ◌≤◌, ◌<◌, min, length, Option, Some, None}
use Rattle.rules.specs.Answers.{complete, unexpected_eof, too_long}
use Rattle.rules.specs.Pages.{most_bytes}
use Rattle.bit_reader.specs.Cursor.{moved_by}
use Rattle.bit_reader.specs.Loaded.{fed_at}
use Rattle.bit_reader.specs.declared.buffer.Buffer.{Buffer}
use Rattle.reader.specs.Read.{number_of, went_by}
use Rattle.reader.specs.declared.cursor.Went.{Went}

-- ---- The numbers, and the bit at which the reader then stands

-- 2: `UnexpectedEof`
abbrev pub moved_number : Option ℕ → ℕ
moved_number (Some at) = complete
moved_number None = unexpected_eof

-- in data of `len` bytes
abbrev pub moved_bit : ℕ → Option ℕ → ℕ
moved_bit len (Some at) = at
moved_bit len None = 8 * len

abbrev pub fed_number : Option Buffer → ℕ
fed_number (Some b) = complete
fed_number None = unexpected_eof

abbrev pub fed_bit : List ℕ → Option Buffer → ℕ
fed_bit bytes (Some b) = b.at
fed_bit bytes None = 8 * length bytes

-- ---- What they answer

-- on to a bit, in data of so many bits: 0 or 2; 2 exactly where the data ends before that bit; and the reader stands there, or at the end where that comes first
pub record Moves (bits to number bit : ℕ) : Type 0 where
  pub listed : (number ≡ complete) ⊎ (number ≡ unexpected_eof)
  pub two : (number ≡ unexpected_eof) ↔ (bits < to)
  pub stands : bit ≡ min to bits

-- consume, from a bit, n bits on in data of `len` bytes
abbrev pub ConsumeNumbers : Type 0
ConsumeNumbers = (len at n : ℕ) (r : Option ℕ) → r ≡ moved_by len at n → Moves (8 * len) (at + n) (moved_number r) (moved_bit len r)

-- feed, from a buffer, n bits on
abbrev pub FeedNumbers : Type 0
FeedNumbers = (bytes : List ℕ) (b : Buffer) (n : ℕ) (r : Option Buffer) → fed_at bytes (b.at + n) r → Moves (8 * length bytes) (b.at + n) (fed_number r) (fed_bit bytes r)

-- The public reader's `consume`, which is `cursor::take` from where it stands: the same in data that is not too long; in data that is, 7, and it stays.
abbrev pub TakeNumbers : Type 0
TakeNumbers =
    (len at n : ℕ) (r : Went) → r ≡ went_by len at n
    → (len ≤ most_bytes → Moves (8 * len) (at + n) (number_of r.answer) r.at) × (most_bytes < len → (number_of r.answer ≡ too_long) × (r.at ≡ at))
