-- What a run that is taken from the front of some bits is.
use Rattle.std.specs.Prelude.{◌≡◌, cond, List, ℕ, ◌+◌, ◌*◌, ◌/◌, ◌%◌, ◌^◌, ◌≤◌, ◌<◌, eqb, ltb, drop, get_or}
use Rattle.rules.specs.Bits.{bits_of, window}
use Rattle.rules.specs.Codes.{Colour}
use Rattle.rules.specs.Lookup.{lookup, entry_number, lookup_table}
use Rattle.rules.specs.Runs.{ok, sum, read_run}
use Rattle.rules.specs.Units.{run_units}
use Rattle.bit_reader.specs.Loaded.{Ahead}
use Rattle.codes.specs.declared.front.Front.{Front}

-- the run of a colour that begins at a bit, in 26 bits at most: one code, or two where it has 64 pixels or more
pub record FrontRun (colour : Colour) (bytes : List ℕ) (at : ℕ) (r : Front) : Type 0 where
  pub within : r.size ≤ 26
  pub same : read_run colour (bits_of bytes) at ≡ ok (sum (at + r.size) r.pixels)
  pub codes : run_units (bits_of bytes) colour at ≡ cond (ltb r.pixels 64) 1 2

-- ---- Which runs are taken so, by the entries of the lent table: each is its code's bits × 4096 + its run, or 4095 for a run where no code begins

-- none is
abbrev pub no_front : Front
no_front = record { pixels = 0; size = 0 }

-- behind a make-up code's entry, that of the bits behind it, which must be a terminating code's
abbrev pub behind_makeup : ℕ → ℕ → Front
behind_makeup first last = cond (ltb (last % 4096) 64) (record { pixels = first % 4096 + last % 4096; size = first / 4096 + last / 4096 }) no_front

-- the 13 bits behind an entry's code, of 64 bits that begin with it
abbrev pub behind_code : ℕ → ℕ → ℕ
behind_code first bits = bits * 2 ^ (first / 4096) % 2 ^ 64 / 2 ^ 51

-- One terminating code, or one make-up code and a terminating one. `first` is the table's entry for the first 13 of the bits.
unfoldable pub front_of : List ℕ → ℕ → ℕ → Front
front_of table first bits =
    cond (ltb (first % 4096) 64) (record { pixels = first % 4096; size = first / 4096 })
    (cond (eqb (first % 4096) 4095) no_front (behind_makeup first (get_or table (behind_code first bits) 0)))

-- Exactly that, and a run of the colour's, if it has pixels or bits, whatever colour's table is lent, and wherever the bits stand in some data.
pub record Fronted (table : List ℕ) (first bits : ℕ) (r : Front) : Type 0 where
  pub is : r ≡ front_of table first bits
  pub few : r.size ≤ 30
  pub narrow : r.pixels ≤ 8190
  pub read : (colour : Colour) (bytes : List ℕ) (at live : ℕ) → table ≡ lookup_table colour → Ahead bytes at live bits → 26 ≤ live
      → first ≡ entry_number (lookup colour (window 13 (drop at (bits_of bytes)))) → 0 < r.pixels + r.size → FrontRun colour bytes at r

-- the same by two entries: of whatever table and bits the second is behind the first
abbrev pub Joined : ℕ → ℕ → Front → Type 0
Joined first last r = (table : List ℕ) (bits : ℕ) → last ≡ get_or table (behind_code first bits) 0 → Fronted table first bits r
