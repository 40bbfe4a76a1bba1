-- Bits that are put into bytes from a bit on.
use Rattle.std.specs.Prelude.{◌≡◌, Bool, true, false, List, [], ◌++◌, ℕ, ◌+◌, ◌-◌, ◌*◌, ◌/◌, ◌^◌, ◌≤◌, ◌<◌, length, take, drop}
use Rattle.rules.specs.Bits.{bits_for, bits_of}
use Rattle.rules.specs.Write.{to_byte, written_at}
use Rattle.tables.specs.declared.Code.{Code}

-- ---- Bytes

-- ys in the place of as many bits from bit p on
unfoldable pub splice : ℕ → List Bool → List Bool → List Bool
splice p ys bs = take p bs ++ (ys ++ drop (p + length ys) bs)

-- the bytes out' have the bits of out, but for ys from bit p on
pub record Splices (p : ℕ) (ys : List Bool) (out out' : List ℕ) : Type 0 where
  pub bits : bits_of out' ≡ splice p ys (bits_of out)
  pub size : length out' ≡ length out

-- bits that begin at bit `at`, and zeros to the end of their last byte
abbrev pub behind : ℕ → List Bool → List Bool
behind at xs = xs ++ to_byte (at + length xs)

-- ---- Codes

-- a code that three bytes hold wherever it begins
pub record Sound (code : Code) : Type 0 where
  pub some_bits : 1 ≤ code.size
  pub few_bits : code.size ≤ 13
  pub small : code.word < 2 ^ code.size

-- a code of these bits
pub record Spells (code : Code) (xs : List Bool) : Type 0 where
  pub sound : Sound code
  pub bits : bits_for code.size code.word ≡ xs

-- the first `kept` bits of a byte, then the bits of a code
pub record Joined (byte kept : ℕ) (code : Code) (r : ℕ) : Type 0 where
  pub is : r ≡ byte / 2 ^ (8 - kept) * 2 ^ code.size + code.word
  pub below : r < 2 ^ (kept + code.size)

-- a number of `size` bits, then zeros to `whole` bits
pub record Raised (word size whole r : ℕ) : Type 0 where
  pub is : r ≡ word * 2 ^ (whole - size)
  pub below : r < 2 ^ whole

-- ---- Putting

-- the output's bits, once xs are written from bit `at` on, or are only counted
unfoldable pub inked : Bool → ℕ → List Bool → List Bool → List Bool
inked true at xs bs = written_at at xs bs
inked false at xs bs = bs

-- behind bit `at` its byte has zeros, where anything is written: nothing that is put there leaves the output as it is
abbrev pub Cleared : Bool → ℕ → List ℕ → Type 0
Cleared write at out = inked write at [] (bits_of out) ≡ bits_of out

-- `size` bits from bit `at` on end at a bit that a number holds, and in the output where they are written
pub record Room (write : Bool) (at size bytes : ℕ) : Type 0 where
  pub countable : at + size < 2 ^ 64
  pub inside : write ≡ true → at + size ≤ 8 * bytes

-- xs are put from bit `at` on, and r is the bit after them; what is only counted changes nothing
pub record Puts (write : Bool) (at : ℕ) (xs : List Bool) (out : List ℕ) (r : ℕ) (out' : List ℕ) : Type 0 where
  pub next : r ≡ at + length xs
  pub bits : bits_of out' ≡ inked write at xs (bits_of out)
  pub size : length out' ≡ length out
  pub kept : write ≡ false → out' ≡ out
