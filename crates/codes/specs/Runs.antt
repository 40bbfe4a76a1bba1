-- What the answer of the run reader means.
use Rattle.std.specs.Prelude.{◌≡◌, cond, List, ℕ, ◌+◌, ◌*◌, ◌≤◌, leb, ltb, length, Result, Ok, Err}
use Rattle.rules.specs.Bits.{bits_of}
use Rattle.rules.specs.Codes.{Colour}
use Rattle.rules.specs.Machine.{Out, more, done}
use Rattle.rules.specs.Runs.{Res, ok, fault, Sum, sum, read_run}
use Rattle.rules.specs.Pages.{most_bytes}
use Rattle.rules.specs.Plain as Rule
use Rattle.rules.specs.Plain.{found, lost}
use Rattle.bit_reader.specs.Loaded.{Loaded}
use Rattle.bit_reader.specs.declared.buffer.Buffer.{Buffer}
use Rattle.answer.specs.Answer.{number_of}
use Rattle.codes.specs.declared.fault.Fault.{Fault}
use Rattle.codes.specs.declared.plain.Code.{Code}
use Rattle.codes.specs.declared.plain.LostCode.{LostCode}
use Rattle.codes.specs.declared.run.RunCode.{RunCode}

abbrev pub run_of : Result (ℕ × Buffer) Fault → Res Sum
run_of (Ok r) = ok (sum r.1.at r.0)
run_of (Err e) = fault (number_of e.error) e.at

-- the buffer behind a run holds the data again
abbrev pub LoadedAfter : List ℕ → Result (ℕ × Buffer) Fault → Type 0
LoadedAfter bytes (Ok r) = Loaded bytes r.1
LoadedAfter bytes (Err e) = Unit {0}

-- what the run reader asks: a buffer that holds the data
pub record Reading (bytes : List ℕ) (start : Buffer) : Type 0 where
  pub size : length bytes ≤ most_bytes
  pub loaded : Loaded bytes start

pub record RunRead (colour : Colour) (bytes : List ℕ) (at : ℕ) (r : Result (ℕ × Buffer) Fault) : Type 0 where
  pub same : run_of r ≡ read_run colour (bits_of bytes) at
  pub loaded : LoadedAfter bytes r

-- ---- One code of a run

abbrev pub code_of : Result RunCode Fault → Out Sum (Res Sum)
code_of (Ok (RunCode.Last total at)) = done (ok (sum at total))
code_of (Ok (RunCode.More total at)) = more (sum at total)
code_of (Err e) = done (fault (number_of e.error) e.at)

-- What a code makes of the sum so far, whichever engine found it: "A sum above 4,294,967,295 is 3" (01, "Codes"), and a run of less than 64 is the last.
abbrev pub summed : Sum → Rule.Found → Out Sum (Res Sum)
summed s (found run taken) =
    cond (leb (s.total + run) 4294967295)
    (cond (ltb run 64) (done (ok (sum (s.at + taken) (s.total + run)))) (more (sum (s.at + taken) (s.total + run))))
    (done (fault 3 s.at))
summed s (lost n taken) = done (fault n s.at)

-- what adding one asks: no code has a longer run than 2,560, and its bits lie in the data
abbrev pub Addable : ℕ → Result Code LostCode → Type 0
Addable at (Ok c) = (c.run ≤ 2560) × (at + c.taken ≤ 8 * most_bytes)
Addable at (Err e) = Unit {0}
