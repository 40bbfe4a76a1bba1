-- A7, "Where the fault was". For 1, 2 and 3 an answer names the bit at which the failing code began; "for other answers it is 0". Which bit that is stands here
-- clause by clause, for the run reader, the mode reader, the line form and the page form, whatever their contracts permit.
use Rattle.std.specs.Prelude.{◌≡◌, Bool, true, false, List, [], ◌∷◌, ◌++◌, ℕ, suc, ◌+◌, ◌-◌, ◌*◌, ◌≤◌, ◌<◌, eqb, length, drop, Result}
use Rattle.rules.specs.Answers.{complete, invalid_code, unexpected_eof, overflow, most_pixels}
use Rattle.rules.specs.Machine.{more, run}
use Rattle.rules.specs.Bits.{bits_of, window, front_bit}
use Rattle.rules.specs.Codes.{Colour, Code, opposite}
use Rattle.rules.specs.Lookup.{Entry, valid, invalid, lookup}
use Rattle.rules.specs.Runs.{ok, fault, Sum, sum, For, read_run}
use Rattle.rules.specs.Modes as Rule
use Rattle.rules.specs.Modes.{pass, horizontal, VR, VL, known, unknown, mode_by_table, Moded, moded, read_mode}
use Rattle.rules.specs.Lines.{Rules, Line, new_line, moved_to, went, push_run, b1, b2, at_the_first, Kind, one, two, code_of, line_step}
use Rattle.rules.specs.Rows.{group4, group3_1_d, group3_2_d, Settings, State, rules_of}
use Rattle.rules.specs.Group4.{eols_before}
use Rattle.rules.specs.Group3.{untagged, tagged, at_line, before}
use Rattle.rules.specs.Pages.{Kept, none_kept, entries, page_step, row_of, strict_if_exact, places_in}
use Rattle.rules.specs.Write.{Written, codes_bits}
use Rattle.rules.specs.Eols.{EolAt}
use Rattle.rules.specs.Counts.{Vertical}
use Rattle.answer.specs.declared.Answer.{Answer}
use Rattle.codes.specs.Runs.{run_of, RunRead}
use Rattle.bit_reader.specs.declared.buffer.Buffer.{Buffer}
use Rattle.codes.specs.declared.fault.Fault.{Fault}
use Rattle.codes.specs.Modes.{mode_of}
use Rattle.codes.specs.declared.mode.Mode.{Mode}
use Rattle.settings.specs.declared.DecodeSettings.{DecodeSettings}
use Rattle.settings.specs.Settings.{settings_of}
use Rattle.ccitt.specs.Decode.{Decodes}
use Rattle.one_line.specs.OneLine.{ReadOne}
use Rattle.writer.specs.Outcome.{Answers}

-- ---- Demand 1: a place is a bit of the data, or its end; with any other number than 1, 2 and 3 it is 0, so that a page whose rows were all kept, recovered
-- ones too, names none. That more room does not change it `MoreRoom` says, which is of the whole answer.

pub record Placed (bytes : List ℕ) (r : Answer) : Type 0 where
  pub inside : r.place ≤ 8 * length bytes
  pub none : r.number ≡ complete → r.place ≡ 0
  pub later : overflow < r.number → r.place ≡ 0

abbrev pub DecodePlaces : Type 0
DecodePlaces =
    (bytes : List ℕ) (settings : DecodeSettings) (changes ends marks : List ℕ) (r : Answer) (changes' ends' marks' : List ℕ)
    → Decodes bytes settings changes ends marks r changes' ends' marks'
    → Placed bytes r

-- "a start past the data points at the end of data"
abbrev pub ReadLinePlaces : Type 0
ReadLinePlaces =
    (bytes : List ℕ) (at columns : ℕ) (strict : Bool) (reference changes : List ℕ) (r : Answer) (changes' : List ℕ)
    → ReadOne bytes at columns strict reference changes r changes'
    → Placed bytes r × (r.number ≡ unexpected_eof → 8 * length bytes < at → r.place ≡ 8 * length bytes)

-- a writer names none
abbrev pub WritersNameNone : Type 0
WritersNameNone = (w : Written) (out : List ℕ) (r : Answer) (out' : List ℕ) → Answers w out r out' → r.place ≡ 0

-- ---- A run: "the make-up or terminating code at fault, and for answer 3 in a sum, the code that passed the limit"

-- make-up codes of a colour, and their sum
pub data MakeUps (colour : Colour) : ℕ → List Code → Type 0 where
  none : MakeUps colour 0 []
  next : {pixels sum : ℕ} {c : Code} {cs : List Code} → For colour pixels c → 64 ≤ pixels → MakeUps colour sum cs → MakeUps colour (pixels + sum) (c ∷ cs)

abbrev pub entry_at : Colour → List Bool → ℕ → Entry
entry_at colour bs at = lookup colour (window 13 (drop at bs))

-- the code at a bit fails behind make-up codes of some sum: no code begins there; its bits, or those up to the first that continues no code, are not all there; or it
-- passes the limit
pub data CodeFails (colour : Colour) (bs : List Bool) (sum place : ℕ) : ℕ → Type 0 where
  no_code : {size : ℕ} → entry_at colour bs place ≡ invalid size → place + size ≤ length bs → CodeFails colour bs sum place invalid_code
  cut_code : {pixels size : ℕ} → entry_at colour bs place ≡ valid pixels size → length bs < place + size → CodeFails colour bs sum place unexpected_eof
  cut_short : {size : ℕ} → entry_at colour bs place ≡ invalid size → length bs < place + size → CodeFails colour bs sum place unexpected_eof
  passes : {pixels size : ℕ} → entry_at colour bs place ≡ valid pixels size → place + size ≤ length bs → most_pixels < sum + pixels → CodeFails colour bs sum place overflow

-- from the run's first bit to the place there are make-up codes alone, which stay within the limit
pub record RunFault (colour : Colour) (bs : List Bool) (at n place : ℕ) : Type 0 where
  pub sum : ℕ
  pub codes : List Code
  pub make_ups : MakeUps colour sum codes
  pub within : sum ≤ most_pixels
  pub there : drop at bs ≡ codes_bits codes ++ drop place bs
  pub place_is : place ≡ at + length (codes_bits codes)
  pub fails : CodeFails colour bs sum place n

abbrev pub RunFaults : Type 0
RunFaults =
    (colour : Colour) (bytes : List ℕ) (at : ℕ) (r : Result (ℕ × Buffer) Fault) → RunRead colour bytes at r
    → (n place : ℕ) → run_of r ≡ fault n place
    → RunFault colour (bits_of bytes) at n place

-- ---- A mode code: the bit at which it was looked for

pub data ModeFault (bs : List Bool) (at : ℕ) : ℕ → Type 0 where
  no_mode : mode_by_table (drop at bs) ≡ unknown → at + 6 ≤ length bs → ModeFault bs at invalid_code
  cut_mode : {m : Rule.Mode} {size : ℕ} → mode_by_table (drop at bs) ≡ known m size → length bs < at + size → ModeFault bs at unexpected_eof
  cut_zeros : mode_by_table (drop at bs) ≡ unknown → length bs < at + 6 → ModeFault bs at unexpected_eof

abbrev pub ModeFaults : Type 0
ModeFaults =
    (bytes : List ℕ) (at : ℕ) (r : Result (Mode × ℕ) Fault) → mode_of r ≡ read_mode (bits_of bytes) at
    → (n place : ℕ) → mode_of r ≡ fault n place
    → (place ≡ at) × ModeFault (bits_of bytes) at n

-- ---- A code of a line

-- a run of a line, from the line's bit on: its own fault; or, where the line is strict, too many pixels, "at the run's first code"
pub data PushFails (R : Rules) (bs : List Bool) (s : Line) : ℕ → ℕ → Type 0 where
  inside_run : {n place : ℕ} → RunFault s.colour bs s.at n place → PushFails R bs s n place
  too_long : {r : Sum} → read_run s.colour bs s.at ≡ ok r → R.strict ≡ true → R.width < s.position + r.total → PushFails R bs s invalid_code s.at

-- where a mode moves to, given b1 and b2
pub data MovesTo (b1 b2 : ℕ) : Rule.Mode → ℕ → Type 0 where
  by_pass : MovesTo b1 b2 pass b2
  right : {k : ℕ} → MovesTo b1 b2 (VR k) (b1 + k)
  left : {k : ℕ} → k ≤ b1 → MovesTo b1 b2 (VL k) (b1 - k)

-- "a1 below 0, above 4,294,967,295, or left of the position is 3"
pub data NoMove (b1 b2 position : ℕ) : Rule.Mode → Type 0 where
  below_0 : {k : ℕ} → b1 < k → NoMove b1 b2 position (VL k)
  above : {m : Rule.Mode} {a1 : ℕ} → MovesTo b1 b2 m a1 → most_pixels < a1 → NoMove b1 b2 position m
  left_of : {m : Rule.Mode} {a1 : ℕ} → MovesTo b1 b2 m a1 → a1 < position → NoMove b1 b2 position m

-- the two runs of a horizontal code, which begin at a bit, are both zero
pub record ZeroRuns (colour : Colour) (bs : List Bool) (at : ℕ) : Type 0 where
  pub between : ℕ
  pub behind : ℕ
  pub first : read_run colour bs at ≡ ok (sum between 0)
  pub second : read_run (opposite colour) bs between ≡ ok (sum behind 0)

-- The code at which a line stands fails. "A vertical move that answers 3, and a strict answer 1 for too many pixels, point at their mode code, or, for a run (in a
-- horizontal code too), at the run's first code." In an exact line (A12) "a vertical move to the very position it starts from, other than the line's first code moving to 0", and
-- "a horizontal code with two zero runs", too, "point at the mode code".
pub data Fails (R : Rules) (bs : List Bool) (s : Line) : Kind → ℕ → ℕ → Type 0 where
  run_1_d : {n place : ℕ} → PushFails R bs s n place → Fails R bs s one n place
  mode : {reference : List ℕ} {n : ℕ} → ModeFault bs s.at n → Fails R bs s (two reference) n s.at
  move : {reference : List ℕ} {m : Moded} → read_mode bs s.at ≡ ok m
      → NoMove (b1 R.width reference s.position s.colour) (b2 R.width reference s.position s.colour) s.position m.mode
      → Fails R bs s (two reference) overflow s.at
  too_many : {reference : List ℕ} {m : Moded} {a1 : ℕ} → read_mode bs s.at ≡ ok m
      → MovesTo (b1 R.width reference s.position s.colour) (b2 R.width reference s.position s.colour) m.mode a1
      → R.strict ≡ true → R.width < a1
      → Fails R bs s (two reference) invalid_code s.at
  idle_move : {reference : List ℕ} {m : Moded} → read_mode bs s.at ≡ ok m → Vertical m.mode
      → MovesTo (b1 R.width reference s.position s.colour) (b2 R.width reference s.position s.colour) m.mode s.position
      → R.exact ≡ true → at_the_first s ≡ false
      → Fails R bs s (two reference) invalid_code s.at
  idle_runs : {reference : List ℕ} {after : ℕ} → read_mode bs s.at ≡ ok (moded after horizontal)
      → ZeroRuns s.colour bs after → R.exact ≡ true
      → Fails R bs s (two reference) invalid_code s.at
  first_run : {reference : List ℕ} {after n place : ℕ} → read_mode bs s.at ≡ ok (moded after horizontal)
      → PushFails R bs (moved_to after s) n place
      → Fails R bs s (two reference) n place
  second_run : {reference : List ℕ} {after n place : ℕ} {t : Line} → read_mode bs s.at ≡ ok (moded after horizontal)
      → push_run R bs (moved_to after s) ≡ went t → PushFails R bs t n place
      → Fails R bs s (two reference) n place

-- a line that began at a bit: so many of its codes are read, and the next one fails
pub record LineFault (R : Rules) (kind : Kind) (bs : List Bool) (start n place : ℕ) : Type 0 where
  pub codes : ℕ
  pub line : Line
  pub reached : run (line_step R.width (code_of R kind bs)) codes (new_line start) ≡ more line
  pub fails : Fails R bs line kind n place

-- "Line .. forms pass the place on"
abbrev pub ReadLineFaults : Type 0
ReadLineFaults =
    (bytes : List ℕ) (at columns : ℕ) (strict : Bool) (reference changes : List ℕ) (r : Answer) (changes' : List ℕ)
    → ReadOne bytes at columns strict reference changes r changes'
    → invalid_code ≤ r.number → r.number ≤ overflow → at ≤ 8 * length bytes
    → LineFault (record { width = columns; strict = strict; exact = false; room = length changes }) (two reference) (bits_of bytes) at r.number r.place

-- ---- A row of a page

-- by its tag bit: 1 for a 1D line, 0 for a 2D line
abbrev pub kind_of : Bool → List ℕ → Kind
kind_of true reference = one
kind_of false reference = two reference

-- The row from a state on fails: in its line, which begins behind the EOLs and, in 2D data, behind the tag bit. "A missing tag bit .. points at the end of data. A strict
-- answer 1 for a missing EOL points at the bit where it was looked for", the one behind the row before.
pub data RowFault (S : Settings) (bs : List Bool) (room : ℕ) (st : State) : ℕ → ℕ → Type 0 where
  in_group4 : {n place : ℕ} → S.encoding ≡ group4
      → LineFault (rules_of S room) (two st.reference) bs (eols_before S bs st).at n place
      → RowFault S bs room st n place
  in_group3_1_d : {n place at : ℕ} {expected : Bool} → S.encoding ≡ group3_1_d → before S untagged bs st (eqb st.count 0) ≡ at_line at expected
      → (expected ≡ true → S.strict ≡ true) → LineFault (rules_of S room) one bs at n place
      → RowFault S bs room st n place
  in_group3_2_d : {n place at : ℕ} {expected : Bool} → S.encoding ≡ group3_2_d → before S tagged bs st (eqb st.count 0) ≡ at_line at expected
      → (expected ≡ true → S.strict ≡ true) → at < length bs → LineFault (rules_of S room) (kind_of (front_bit (drop at bs)) st.reference) bs (suc at) n place
      → RowFault S bs room st n place
  no_tag : {at : ℕ} {expected : Bool} → S.encoding ≡ group3_2_d → before S tagged bs st (eqb st.count 0) ≡ at_line at expected → length bs ≤ at
      → RowFault S bs room st unexpected_eof (length bs)
  without_eol : (S.encoding ≡ group4 → ⊥) → S.strict ≡ true → st.eols ≡ true → (EolAt bs st.at → ⊥)
      → RowFault S bs room st invalid_code st.at

-- a page: rows are kept, and the next one fails
pub record PageFault (S : Settings) (bs : List Bool) (store places rows n place : ℕ) : Type 0 where
  pub kept : Kept
  pub reached : run (page_step (row_of S.encoding S bs) store places) rows none_kept ≡ more kept
  pub fails : RowFault S bs (store - entries kept.rows) kept.state n place

-- ".. and page forms pass the place on"; an exact page is read strictly (A12)
abbrev pub DecodeFaults : Type 0
DecodeFaults =
    (bytes : List ℕ) (settings : DecodeSettings) (changes ends marks : List ℕ) (r : Answer) (changes' ends' marks' : List ℕ)
    → Decodes bytes settings changes ends marks r changes' ends' marks'
    → invalid_code ≤ r.number → r.number ≤ overflow
    → PageFault (strict_if_exact (settings_of settings)) (bits_of bytes) (length changes) (places_in ends marks) r.rows r.number r.place
