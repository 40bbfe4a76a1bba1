-- Demand 2: the codes, the modes and the changing elements that are read and written are those of the standard.
use Rattle.std.specs.Prelude.{◌≡◌, Bool, List, ◌++◌, ℕ, ◌+◌, ◌≤◌, length, drop, Result}
use Rattle.rules.specs.Answers.{most_pixels}
use Rattle.rules.specs.Bits.{bits_of}
use Rattle.rules.specs.Codes.{Colour, black, Code}
use Rattle.rules.specs.Runs.{ok, sum, Made}
use Rattle.rules.specs.Write.{codes_bits}
use Rattle.rules.specs.Modes.{mode_take, mode_by_zeros, read_mode}
use Rattle.rules.specs.Lines.{head_or, tail, b1, b2}
use Rattle.rules.specs.Pixels.{A0, on, pixels_of, right_of, a1_on, a2_on, b1_on, b2_on, a0_at}
use Rattle.rules.specs.Rising.{Rising}
use Rattle.codes.specs.Runs.{run_of, RunRead}
use Rattle.bit_reader.specs.declared.buffer.Buffer.{Buffer}
use Rattle.codes.specs.declared.fault.Fault.{Fault}
use Rattle.codes.specs.Modes.{mode_of}
use Rattle.codes.specs.declared.mode.Mode.{Mode}
use Rattle.context.specs.Reference.{Finds}
use Rattle.context.specs.declared.reference.FoundChanges.{FoundChanges}

-- what `read_run` answers: codes of the standard's tables (T.4 tables 2, 3a and 3b) that make a run, whatever bits follow, are read as that run and no
-- bit more is taken; and where a run is read, such codes make it
abbrev pub RunsAreTheStandards : Type 0
RunsAreTheStandards =
    (colour : Colour) (bytes : List ℕ) (at : ℕ) (r : Result (ℕ × Buffer) Fault) → RunRead colour bytes at r
    → ((n : ℕ) (cs : List Code) (rest : List Bool) → Made colour n cs → drop at (bits_of bytes) ≡ codes_bits cs ++ rest → n ≤ most_pixels
    → run_of r ≡ ok (sum (at + length (codes_bits cs)) n))
    × ((end n : ℕ) → run_of r ≡ ok (sum end n) → (cs : List Code) × Made colour n cs × (drop at (bits_of bytes) ≡ codes_bits cs ++ drop end (bits_of bytes)))

-- what `read_mode` answers is the standard's table (T.4 table 4), of which its contract speaks, and 01's count of leading zeros alike
abbrev pub ModesAreTheStandards : Type 0
ModesAreTheStandards =
    (bytes : List ℕ) (at : ℕ) (r : Result (Mode × ℕ) Fault) → mode_of r ≡ read_mode (bits_of bytes) at
    → mode_of r ≡ mode_take (length (bits_of bytes)) at (mode_by_zeros (drop at (bits_of bytes)))

-- what the reader's search finds on a list of changes is what T.4 4.2.1.1 says of the reference line's pixels
abbrev pub ChangingElementsAreTheStandards : Type 0
ChangingElementsAreTheStandards =
    (reference : List ℕ) (width position : ℕ) (colour : Colour) (r : FoundChanges) → Rising width 0 reference → Finds reference width position colour r
    → (r.b1 ≡ b1_on width (pixels_of reference) (a0_at position) colour) × (r.b2 ≡ b2_on width (pixels_of reference) (a0_at position) colour)

-- What the definition of a line takes for b1 and b2 (Lines.antt), of which the contracts of the line readers, their swift loops and the writers speak, is
-- that too; also behind a change on the first element, where the position is 0 still.
abbrev pub DefinedElementsAreTheStandards : Type 0
DefinedElementsAreTheStandards =
    (reference : List ℕ) (width : ℕ) → Rising width 0 reference
    → ((position : ℕ) (colour : Colour)
    → (b1 width reference position colour ≡ b1_on width (pixels_of reference) (a0_at position) colour)
    × (b2 width reference position colour ≡ b2_on width (pixels_of reference) (a0_at position) colour))
    × (b1 width reference 0 black ≡ b1_on width (pixels_of reference) (on 0) black)
    × (b2 width reference 0 black ≡ b2_on width (pixels_of reference) (on 0) black)

-- What the definition of a written line takes for a1 and a2 (Write.antt), the first two changes that are left of a row, is what the standard says of the
-- row's pixels: `left` are those right of a0, and `past` those before them.
abbrev pub WrittenElementsAreTheStandards : Type 0
WrittenElementsAreTheStandards =
    (width : ℕ) (past left : List ℕ) (a0 : A0) → right_of a0 ≤ width → Rising (right_of a0) 0 past → Rising width (right_of a0) left
    → (head_or width left ≡ a1_on width (pixels_of (past ++ left)) a0) × (head_or width (tail left) ≡ a2_on width (pixels_of (past ++ left)) a0)
