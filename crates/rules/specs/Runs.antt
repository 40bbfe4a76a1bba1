-- A run: make-up codes (64 or more), then one terminating code (0 to 63), summed (T.4 4.1.1, T.6 2.2.4, 01 "Codes").
use Rattle.std.specs.Prelude.{◌≡◌, Bool, cond, ℕ, ◌+◌, ◌-◌, ◌≤◌, ◌<◌, leb, ltb, length, drop}
use mathlib.Core.List.{List, [], ◌∷◌, Memᴰ}
use Rattle.rules.specs.Answers.{invalid_code, unexpected_eof, overflow, most_pixels}
use Rattle.rules.specs.Machine.{Out, more, done, ends}
use Rattle.rules.specs.Bits.{window}
use Rattle.rules.specs.Codes.{Colour, Code, codes_of}
use Rattle.rules.specs.Lookup.{Entry, valid, invalid, lookup}

-- ---- A run in the standard's own words, apart from any way of reading it (T.4 4.1.1, T.6 2.2.4)

-- a code of the colour, for a run
pub record For (colour : Colour) (run : ℕ) (c : Code) : Type 0 where
  pub member : Memᴰ c (codes_of colour)
  pub run_is : c.run ≡ run

-- "make-up codes (64 or more), then one terminating code (0 to 63), summed": these codes of the colour make the run n
pub data Made (colour : Colour) : ℕ → List Code → Type 0 where
  last : {run : ℕ} {c : Code} → For colour run c → run < 64 → Made colour run (c ∷ [])
  next : {run n : ℕ} {c : Code} {cs : List Code} → For colour run c → 64 ≤ run → Made colour n cs → Made colour (run + n) (c ∷ cs)

-- ---- How a run is read, code by code, by the lookup (01 "Codes")

-- what a reading answers: a value; or a fault, with its number of 01's list and the bit at which the failing code began
pub data Res (A : Type 0) : Type 0 where
  ok : A → Res A
  fault : ℕ → ℕ → Res A

-- A machine's steps reach an end. Where they did not, the answer would have this number, which is on no list and fits no 32 bits.
abbrev pub unreachable : ℕ
unreachable = 4294967296

-- the next bit, and the sum so far
pub record Sum : Type 0 where
  pub at : ℕ
  pub total : ℕ

abbrev pub sum : ℕ → ℕ → Sum
sum a t = record { at = a; total = t }

-- One code, of which the data's `size` bits may hold too few. An invalid entry consumes its length, then answers 1; too few bits
-- left is 2; a sum above 4,294,967,295 is 3. A run of less than 64 is the last.
unfoldable pub run_take : ℕ → Sum → Entry → Out Sum (Res Sum)
run_take size s (invalid len) = done (fault (cond (leb (s.at + len) size) invalid_code unexpected_eof) s.at)
run_take size s (valid run len) =
    cond (leb (s.at + len) size)
    (cond (leb (s.total + run) most_pixels)
    (cond (ltb run 64) (done (ok (sum (s.at + len) (s.total + run)))) (more (sum (s.at + len) (s.total + run))))
    (done (fault overflow s.at)))
    (done (fault unexpected_eof s.at))

unfoldable pub run_step : Colour → List Bool → Sum → Out Sum (Res Sum)
run_step colour bs s = run_take (length bs) s (lookup colour (window 13 (drop s.at bs)))

-- what falls with each code: the bits left
abbrev pub bits_after : List Bool → Sum → ℕ
bits_after bs s = length bs - s.at

module _ {S A : Type 0} where
  abbrev pub answer : Out S (Res A) → Res A
  answer (more s) = fault unreachable 0
  answer (done r) = r

-- the run of a colour that begins at a bit
unfoldable pub read_run : Colour → List Bool → ℕ → Res Sum
read_run colour bs at = answer (ends (run_step colour bs) (bits_after bs) (sum at 0))
