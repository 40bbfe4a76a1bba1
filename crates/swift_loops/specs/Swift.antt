-- The swift codes of a 2D line: where a line stands between two of them, and what they make of it and of the array that holds it.
use Rattle.std.specs.Prelude.{◌≡◌, ◌⊎◌, Bool, false, cond, List, ℕ, suc, ◌+◌, ◌*◌, ◌%◌, ◌≤◌, ◌<◌, eqb, length, take, drop, Option, Some, None}
use Rattle.rules.specs.Bits.{bits_of}
use Rattle.rules.specs.Runs.{ok}
use Rattle.rules.specs.Modes.{Mode, VR, VL, moded, read_mode}
use Rattle.rules.specs.Lines as Rule
use Rattle.rules.specs.Lines.{recorded, right_of_a0, head_or, code_2d, line_end}
use Rattle.rules.specs.Pages.{overlaid}
use Rattle.rules.specs.Rising.{Rising}
use Rattle.tables.specs.Tables.{colour_of}
use Rattle.bit_reader.specs.Cursor.{most_bits}
use Rattle.bit_reader.specs.Loaded.{Ahead, Loading}
use Rattle.context.specs.declared.line.Line.{Line}
use Rattle.context.specs.declared.reference.Reference.{Reference}
use Rattle.swift_loops.specs.declared.fast_2d.BetweenCodes.{BetweenCodes}
use Rattle.context.specs.State.{ruling}
use Rattle.context.specs.Coding.{reference_in, Placed}
use Rattle.context.specs.Places.{Seen}

-- ---- A stand

-- the line of the rules that stands there, with its changes in front of a row; and the line of the code
abbrev pub standing : List ℕ → Bool → BetweenCodes → Rule.Line
standing row cut s = Rule.line s.at s.position (colour_of (s.place % 2)) (take s.count row) cut

abbrev pub line_of : ℕ → BetweenCodes → ℕ → Line
line_of width s cut = record { width = width; position = s.position; changes = s.count; colour = s.place % 2; cut = cut }

-- a line that has its changes in its room, and whose place is b1's
pub record Stands (reference : List ℕ) (room width : ℕ) (s : BetweenCodes) : Type 0 where
  pub fits : s.position ≤ width
  pub held : s.count ≤ room
  pub seen : Seen reference (right_of_a0 s.position) s.place
  pub near : s.place ≤ suc (length reference) + s.at

-- the room lasts, whatever the line holds: each change takes a pixel at least
abbrev pub Roomy : ℕ → ℕ → BetweenCodes → Type 0
Roomy room width s = width + s.count ≤ room + s.position

-- ---- What codes make of a stand

-- the room of a row that lies in an array from `base` on
abbrev pub room_in : ℕ → List ℕ → ℕ
room_in base xs = length (drop base xs)

-- pixels of the line's colour follow
pub record Noted (row : List ℕ) (s : BetweenCodes) (r : ℕ) (ys : List ℕ) : Type 0 where
  pub counted : r ≡ length (recorded (standing row false s))
  pub stored : ys ≡ overlaid (recorded (standing row false s)) row

-- Codes took the line from a stand to another, and the array from xs to ys. Whatever the rules are, what is left of the line comes to the same; what lies before the
-- row, and behind its changes, is as it was.
pub record Walked (reference : List ℕ) (bs : List Bool) (base room width : ℕ) (xs : List ℕ) (s : BetweenCodes) (ys : List ℕ)
    (t : BetweenCodes) : Type 0 where
  pub stands : Stands reference room width t
  pub roomy : Roomy room width s → Roomy room width t
  pub forth : s.at ≤ t.at
  pub inside : t.at ≤ length bs
  pub longer : s.count ≤ t.count
  pub size : length ys ≡ length xs
  pub front : take base ys ≡ take base xs
  pub store : drop base ys ≡ overlaid (take t.count (drop base ys)) (drop base xs)
  pub same : (strict exact cut : Bool)
      → let code = code_2d (ruling width room strict exact) reference bs in line_end width code bs (standing (drop base xs) cut s) ≡ line_end width code bs (standing (drop base ys) cut t)

-- a code takes bits; one that is another leaves the array
abbrev pub Took : List ℕ → List Bool → ℕ → ℕ → ℕ → List ℕ → BetweenCodes → Option BetweenCodes → List ℕ → Type 0
Took reference bs base room width xs s (Some t) ys = Walked reference bs base room width xs s ys t × (s.at < t.at)
Took reference bs base room width xs s None ys = ys ≡ xs

-- the same of the data whose bits these are, under a reference that is lent or kept before the row, in the row's room
abbrev pub WalkedIn : List ℕ → Reference → List ℕ → List ℕ → ℕ → ℕ → BetweenCodes → List ℕ → BetweenCodes → Type 0
WalkedIn bytes place lent xs base width s ys t =
    Walked (reference_in place base lent xs) (bits_of bytes) base (room_in base xs) width xs s ys t

abbrev pub TookIn : List ℕ → Reference → List ℕ → List ℕ → ℕ → ℕ → BetweenCodes → Option BetweenCodes → List ℕ → Type 0
TookIn bytes place lent xs base width s r ys = Took (reference_in place base lent xs) (bits_of bytes) base (room_in base xs) width xs s r ys

-- the mode that a vertical code of `d` pixels is: to the right where `twice` is twice d, to the left where it is 0
abbrev pub side_mode : ℕ → ℕ → Mode
side_mode d twice = cond (eqb twice 0) (VL d) (VR d)

-- in any data that has a mode's code at the stand, up to a bit; and the same where the next bits are known, so many of them at least
abbrev pub TookMode : Reference → List ℕ → List ℕ → ℕ → ℕ → BetweenCodes → ℕ → Mode → Option BetweenCodes → List ℕ → Type 0
TookMode place lent xs base width s next mode r ys =
    (bytes : List ℕ) → read_mode (bits_of bytes) s.at ≡ ok (moded next mode) → TookIn bytes place lent xs base width s r ys

abbrev pub TookBits : Reference → List ℕ → List ℕ → ℕ → ℕ → BetweenCodes → ℕ → ℕ → ℕ → Mode → Option BetweenCodes → List ℕ → Type 0
TookBits place lent xs base width s bits least next mode r ys =
    (bytes : List ℕ) (live : ℕ) → Ahead bytes s.at live bits → least ≤ live
    → read_mode (bits_of bytes) s.at ≡ ok (moded next mode) → TookIn bytes place lent xs base width s r ys

-- in any data that has these bits at the stand, 57 of them at least
abbrev pub TookAhead : Reference → List ℕ → List ℕ → ℕ → ℕ → BetweenCodes → ℕ → Option BetweenCodes → List ℕ → Type 0
TookAhead place lent xs base width s bits r ys =
    (bytes : List ℕ) (live : ℕ) → Ahead bytes s.at live bits → 57 ≤ live → TookIn bytes place lent xs base width s r ys

-- ---- What they ask

-- a line that stands left of b1
pub record Ready (place : Reference) (lent xs : List ℕ) (base width : ℕ) (s : BetweenCodes) (b1 : ℕ) : Type 0 where
  pub placed : Placed place base xs
  pub narrow : width < 4294967295
  pub rising : Rising width 0 (reference_in place base lent xs)
  pub stands : Stands (reference_in place base lent xs) (room_in base xs) width s
  pub roomy : Roomy (room_in base xs) width s
  pub b1-is : b1 ≡ head_or width (drop s.place (reference_in place base lent xs))
  pub ahead : s.position < b1

-- in data and under a reference of which there may be so much
pub record Asks (place : Reference) (lent xs : List ℕ) (base width : ℕ) (s : BetweenCodes) (b1 : ℕ) : Type 0 where
  pub ready : Ready place lent xs base width s b1
  pub low : s.at ≤ most_bits + 64
  pub long : length (reference_in place base lent xs) < 2305843009213693952

-- and a vertical code of `size` bits
pub record Sided (place : Reference) (lent xs : List ℕ) (base width : ℕ) (s : BetweenCodes) (b1 d twice size : ℕ) : Type 0 where
  pub asks : Asks place lent xs base width s b1
  pub some_pixels : 1 ≤ d
  pub few : d ≤ 3
  pub small : twice ≤ 6
  pub sides : (twice ≡ 0) ⊎ (twice ≡ 2 * d)
  pub some_bits : 1 ≤ size
  pub short : size ≤ 7

-- a line behind a code that turned it: its next pixels begin with a change
pub record Turned (place : Reference) (lent xs : List ℕ) (base width : ℕ) (s : BetweenCodes) : Type 0 where
  pub placed : Placed place base xs
  pub narrow : width < 4294967295
  pub rising : Rising width 0 (reference_in place base lent xs)
  pub stands : Stands (reference_in place base lent xs) (room_in base xs) width s
  pub roomy : Roomy (room_in base xs) width s
  pub begun : 0 < s.position
  pub turns : s.count % 2 ≡ (s.place + 1) % 2
  pub long : length (reference_in place base lent xs) < 2305843009213693952

-- behind a code, if it was taken: it has at most seven bits
abbrev pub TurnedOn : Reference → List ℕ → List ℕ → ℕ → ℕ → BetweenCodes → Option BetweenCodes → Type 0
TurnedOn place lent ys base width s (Some t) = Turned place lent ys base width t × (s.at < t.at) × (t.at ≤ s.at + 7)
TurnedOn place lent ys base width s None = Unit {0}

-- a vertical code of `size` bits, and the line behind it
abbrev pub SideTaken : Reference → List ℕ → List ℕ → ℕ → ℕ → BetweenCodes → ℕ → ℕ → ℕ → Option BetweenCodes → List ℕ → Type 0
SideTaken place lent xs base width s d twice size r ys =
    TookMode place lent xs base width s (s.at + size) (side_mode d twice) r ys × TurnedOn place lent ys base width s r

-- a line that goes on by codes which begin left of a bit
pub record GoesAlong (place : Reference) (lent xs : List ℕ) (base width : ℕ) (s : BetweenCodes) (stop : ℕ) : Type 0 where
  pub turned : Turned place lent xs base width s
  pub low : s.at ≤ most_bits + 71
  pub near : stop ≤ s.at + 50
  pub stops : stop ≤ most_bits + 50

-- ---- What codes behind one that turned the line make of it

-- V0 codes, as many as the bits begin with, took it on; their bits are all of the data
pub record WentStraight (place : Reference) (lent xs : List ℕ) (base width : ℕ) (s : BetweenCodes) (bits : ℕ) (t : BetweenCodes)
    (ys : List ℕ) : Type 0 where
  pub turned : Turned place lent ys base width t
  pub forth : s.at ≤ t.at
  pub walked : (bytes : List ℕ) (live : ℕ) → Ahead bytes s.at live bits
      → WalkedIn bytes place lent xs base width s ys t × (t.at ≤ s.at + live)

-- a code that turns the line, in any data that has these bits at the stand, seven of them at least
pub record Turns (place : Reference) (lent xs : List ℕ) (base width : ℕ) (s : BetweenCodes) (bits : ℕ) (r : Option BetweenCodes) (ys : List ℕ) : Type
    0 where
  pub took : (bytes : List ℕ) (live : ℕ) → Ahead bytes s.at live bits → 7 ≤ live → TookIn bytes place lent xs base width s r ys
  pub turned : TurnedOn place lent ys base width s r

-- codes in any data that has these bits at the stand, up to seven behind the bit before which codes begin
abbrev pub WalkedTo : Reference → List ℕ → List ℕ → ℕ → ℕ → BetweenCodes → ℕ → ℕ → BetweenCodes → List ℕ → Type 0
WalkedTo place lent xs base width s bits stop t ys =
    (bytes : List ℕ) (live : ℕ) → Ahead bytes s.at live bits → stop + 7 ≤ s.at + live
    → WalkedIn bytes place lent xs base width s ys t

-- ---- A line that stands anywhere

-- what its codes ask
pub record Walks (bytes : List ℕ) (place : Reference) (lent xs : List ℕ) (base width : ℕ) (s : BetweenCodes) : Type 0 where
  pub loading : Loading bytes s.at
  pub placed : Placed place base xs
  pub narrow : width < 4294967295
  pub rising : Rising width 0 (reference_in place base lent xs)
  pub stands : Stands (reference_in place base lent xs) (room_in base xs) width s
