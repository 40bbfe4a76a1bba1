-- The pairs of a 1D line: where a line stands between its runs, and what pairs make of it and of the row that holds it.
use Rattle.std.specs.Prelude.{◌≡◌, Bool, true, false, cond, List, ℕ, ◌+◌, ◌*◌, ◌/◌, ◌%◌, ◌≤◌, ◌<◌, eqb, length, take, drop, Option, Some, None}
use Rattle.rules.specs.Bits.{bits_of, peek}
use Rattle.rules.specs.Codes.{white, black}
use Rattle.rules.specs.Runs.{ok, sum, read_run}
use Rattle.rules.specs.Lines as Rule
use Rattle.rules.specs.Lines.{push_run, line_end}
use Rattle.rules.specs.Pages.{overlaid, most_bytes}
use Rattle.tables.specs.Pairs.{pair_table}
use Rattle.tables.specs.Tables.{colour_of, Lookups}
use Rattle.bit_reader.specs.Cursor.{most_bits}
use Rattle.bit_reader.specs.Loaded.{Ahead, Loading}
use Rattle.codes.specs.declared.front.Front.{Front}
use Rattle.context.specs.declared.line.Line.{Line}
use Rattle.swift_loops.specs.declared.fast_1d.BetweenRuns.{BetweenRuns}
use Rattle.swift_loops.specs.declared.fast_1d.BeforePair.{BeforePair}
use Rattle.swift_loops.specs.declared.fast_1d.Pair.{Pair}
use Rattle.context.specs.State.{ruling}

-- ---- A pair

-- a black run at a bit, and a white one behind it
pub record PairRun (bytes : List ℕ) (at : ℕ) (r : Pair) : Type 0 where
  pub middle : ℕ
  pub first : read_run black (bits_of bytes) at ≡ ok (sum middle r.black)
  pub second : read_run white (bits_of bytes) middle ≡ ok (sum (at + r.size) r.white)

-- Such a pair, if it has white pixels, wherever the bits stand in some data. `top` is the first 13 of them.
pub record Paired (top bits : ℕ) (r : Pair) : Type 0 where
  pub few : r.size ≤ 60
  pub narrow : r.black + r.white ≤ 16380
  pub both : 0 < r.white → 0 < r.black
  pub read : (bytes : List ℕ) (at live : ℕ) → Ahead bytes at live bits → 57 ≤ live → top ≡ peek 13 (drop at (bits_of bytes)) → 0 < r.white → PairRun bytes at r

-- of a black run and a white one that were read; none where the first has no pixels
abbrev pub both_of : Front → Front → Pair
both_of first second =
    cond (eqb first.pixels 0) (record { black = 0; white = 0; size = 0 })
    (record { black = first.pixels; white = second.pixels; size = first.size + second.size })

-- by an entry of the pair table
abbrev pub entry_pair : ℕ → Pair
entry_pair entry = record { black = entry % 64; white = entry / 64 % 64; size = entry / 4096 }

-- ---- Bits that are known

-- the next ones, 13 at least, where the data has 64 there
pub record Known (bytes : List ℕ) (at bits : ℕ) : Type 0 where
  pub live : ℕ
  pub enough : 13 ≤ live
  pub next : Ahead bytes at live bits

abbrev pub KnownIn : List ℕ → ℕ → ℕ → Type 0
KnownIn bytes at bits = at + 64 ≤ 8 * length bytes → Known bytes at bits

-- what is asked of a leap over a pair's bits, from a bit at which the data has 64, and what is known behind it
pub record Leaping (bytes : List ℕ) (last at size : ℕ) : Type 0 where
  pub limit : length bytes ≤ most_bytes
  pub last-is : last + 64 ≡ 8 * length bytes
  pub here : at ≤ last
  pub few : size ≤ 60

abbrev pub Leapt : List ℕ → ℕ → ℕ → ℕ → ℕ → Type 0
Leapt bytes at size window r = (live : ℕ) → Ahead bytes at live window → 57 ≤ live → KnownIn bytes (at + size) r

-- ---- Where a line stands

-- the line of the rules that stands there, with its changes in front of a row; and the line of the code
abbrev pub halting : List ℕ → BetweenRuns → Rule.Line
halting row s = Rule.line s.at s.position (colour_of s.colour) (take s.count row) false

abbrev pub halt_line : ℕ → BetweenRuns → Line
halt_line width s = record { width = width; position = s.position; changes = s.count; colour = s.colour; cut = 0 }

-- a new line, and one before a black run
abbrev pub start_at : ℕ → BetweenRuns
start_at at = record { at = at; position = 0; count = 0; colour = 0 }

abbrev pub pace_of : BeforePair → BetweenRuns
pace_of s = record { at = s.at; position = s.position; count = s.count; colour = 1 }

pub record Halts (room width : ℕ) (s : BetweenRuns) : Type 0 where
  pub fits : s.position ≤ width
  pub held : s.count ≤ room
  pub coloured : s.colour ≤ 1

-- Runs took the line from one place to another, and the row from xs to ys. However strictly it is read, what is left of the line comes to the same; what lies
-- behind the row's changes is as it was.
pub record Ran (bs : List Bool) (room width : ℕ) (xs : List ℕ) (s : BetweenRuns) (ys : List ℕ) (t : BetweenRuns) : Type 0 where
  pub halts : Halts room width t
  pub inside : t.at ≤ length bs
  pub longer : s.count ≤ t.count
  pub size : length ys ≡ length xs
  pub store : ys ≡ overlaid (take t.count ys) xs
  pub same : (strict exact : Bool) → let code = push_run (ruling width room strict exact) bs in line_end width code bs (halting xs s) ≡ line_end width code bs (halting ys t)

-- A line before a pair: its last pixel is white, the next bits are known, and the room lasts whatever it holds, as each change takes a pixel at least.
pub record Paces (bytes xs : List ℕ) (width : ℕ) (s : BeforePair) : Type 0 where
  pub halts : Halts (length xs) width (pace_of s)
  pub roomy : width + s.count ≤ length xs + s.position
  pub even : s.count % 2 ≡ 0
  pub inside : s.at ≤ 8 * length bytes
  pub known : KnownIn bytes s.at s.bits

-- what a pair makes of it; it takes pixels
abbrev pub PacedTo : List ℕ → List ℕ → ℕ → BeforePair → Option BeforePair → List ℕ → Type 0
PacedTo bytes xs width s (Some t) ys = Ran (bits_of bytes) (length xs) width xs (pace_of s) ys (pace_of t) × Paces bytes ys width t × (s.position < t.position)
PacedTo bytes xs width s None ys = ys ≡ xs

-- ---- What the functions ask

pub record Putting (row : List ℕ) (width : ℕ) (s : BeforePair) (pair : Pair) : Type 0 where
  pub halts : Halts (length row) width (pace_of s)
  pub roomy : width + s.count ≤ length row + s.position
  pub even : s.count % 2 ≡ 0
  pub narrow : width < 4294967295
  pub low : s.at ≤ most_bits
  pub few : pair.size ≤ 60
  pub thin : pair.black + pair.white ≤ 16380
  pub both : 0 < pair.white → 0 < pair.black

abbrev pub Puts : List ℕ → ℕ → BeforePair → Pair → ℕ → Option BeforePair → List ℕ → Type 0
Puts row width s pair bits r ys = (bytes : List ℕ) → (0 < pair.white → PairRun bytes s.at pair) → KnownIn bytes (s.at + pair.size) bits → PacedTo bytes row width s r ys

pub record Pacing (bytes row : List ℕ) (width last : ℕ) (s : BeforePair) : Type 0 where
  pub limit : length bytes ≤ most_bytes
  pub last-is : last + 64 ≡ 8 * length bytes
  pub narrow : width < 4294967295
  pub paces : Paces bytes row width s

pub record Stepping (bytes row : List ℕ) (width last : ℕ) (s : BeforePair) : Type 0 where
  pub pacing : Pacing bytes row width last s
  pub here : s.at ≤ last

pub record Beginning (width at : ℕ) : Type 0 where
  pub some_pixels : 0 < width
  pub low : at ≤ most_bits

-- whatever data the bits stand in, 57 of them at least, and whatever row has room for the line
abbrev pub BegunTo : List ℕ → List ℕ → ℕ → ℕ → Option BeforePair → Type 0
BegunTo bytes xs width at (Some t) = Ran (bits_of bytes) (length xs) width xs (start_at at) xs (pace_of t) × Paces bytes xs width t
BegunTo bytes xs width at None = Unit {0}

abbrev pub Begins : ℕ → ℕ → ℕ → Option BeforePair → Type 0
Begins width at bits r =
    (bytes xs : List ℕ) (live : ℕ) → Ahead bytes at live bits → 57 ≤ live → width ≤ length xs → BegunTo bytes xs width at r

abbrev pub Fit : ℕ → ℕ → ℕ → ℕ → Bool → Type 0
Fit room width len at r = r ≡ true → (0 < width) × (width ≤ room) × (at + 64 ≤ 8 * len)

-- a line that its first run fills, whatever row there is so much room in
abbrev pub Filled : List ℕ → ℕ → ℕ → ℕ → Option BeforePair → Type 0
Filled bytes room width at (Some t) =
    (t.position ≡ width) × ((xs : List ℕ) → length xs ≡ room → Ran (bits_of bytes) (length xs) width xs (start_at at) xs (pace_of t))
Filled bytes room width at None = Unit {0}

-- the tables, where they are lent
abbrev pub Tabled : Bool → List ℕ → List ℕ → List ℕ → Type 0
Tabled lent w b both = lent ≡ true → Lookups w b × (both ≡ pair_table)

pub record Pairing (lent : Bool) (w b both bytes : List ℕ) (width at : ℕ) : Type 0 where
  pub tables : Tabled lent w b both
  pub loading : Loading bytes at
  pub narrow : width < 4294967295
