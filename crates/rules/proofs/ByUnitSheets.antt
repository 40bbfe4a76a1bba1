-- Small Group 4 pages of 8 columns in calls for units, computed over the definitions: an idle code, whose runs come in two calls; a page that is short of rows; and
-- a row without a place for its mark. Assumes nothing.
use mathlib.Core.Path.{◌≡◌, refl}
use mathlib.Core.Bool.{Bool, true, false}
use mathlib.Core.List.{List, [], ◌∷◌}
use Prim.Native.Nat.{ℕ}
use Rattle.rules.specs.Machine.{run, ends, spent}
use Rattle.rules.specs.Bits.{bit, bits_for, bits_of, window}
use Rattle.rules.specs.Codes.{code_bits, white_terminating, white_makeup, black_terminating, black_makeup, common_makeup, terminating_of, makeup_of, codes_of}
use Rattle.rules.specs.Lookup.{begins, shared, code_in, longest_shared, lookup}
use Rattle.rules.specs.Runs.{run_take, run_step, read_run}
use Rattle.rules.specs.Modes.{mode_bits, modes, mode_among, mode_by_table, mode_take, read_mode}
use Rattle.rules.specs.Lines.{last_colour, recorded, add, push, push_run, right_of_a0, from_b1, vertical, apply, code_2d, line_step, line_end, read_line}
use Rattle.rules.specs.Eols.{zero_run, read_eols}
use Rattle.rules.specs.Rows.{group4, Settings}
use Rattle.rules.specs.Group4.{row4}
use Rattle.rules.specs.Pages.{entries, row_of, ascends_from, overlaid, joined, ends_from}
use Rattle.rules.specs.Units.{settle, unit, call, taken}
use Rattle.rules.specs.InSteps.{Said, says}
use Rattle.rules.specs.ByUnit.{opened, saved_start, Turn, going_of, sound, turn_on, turn}

abbrev page : ℕ → Bool → Bool → Settings
page rows eob exact = record { columns = 8; rows = rows; end_of_block = eob; end_of_line = false; aligned = false; encoding = group4; strict = false; exact = exact }

-- number, place, bytes, rows; nothing is loose
abbrev counts : ℕ → ℕ → ℕ → ℕ → Said
counts n p b r = says n p b r 0 0

-- Horizontal, white 0, black 0, read exactly: two units leave more to come; the third is the last, and the mode code, at bit 0, is at fault (A12).
abbrev idle : List ℕ
idle = 0x26 ∷ 0xa1 ∷ 0xbc ∷ []

abbrev once : Turn
once = turn (page 1 false true) idle (7 ∷ []) (9 ∷ []) (9 ∷ []) 2 (opened saved_start)

abbrev again : Turn
again = turn (page 1 false true) idle once.changes once.ends once.marks 5 once.reading

idle_code : (once.answer ≡ counts 15 0 0 0) × (once.units ≡ 2) × (again.answer ≡ counts 1 0 0 0) × (again.units ≡ 1) × (again.marks ≡ 9 ∷ [])
unfolding run ends bit bits_for bits_of window code_bits white_terminating white_makeup black_terminating black_makeup common_makeup terminating_of makeup_of codes_of begins shared code_in longest_shared lookup run_take run_step read_run mode_bits modes mode_among mode_by_table mode_take read_mode last_colour recorded add push push_run right_of_a0 from_b1 vertical apply code_2d line_step line_end read_line zero_run read_eols row4 row_of ascends_from overlaid entries joined ends_from spent settle unit call taken going_of sound turn_on turn
idle_code = (refl, refl, refl, refl, refl)

-- one white row and EOFB, where exact asks for two rows: 14, and the row is kept with its mark
abbrev short : Turn
short = turn (page 2 true true) (0x80 ∷ 0x08 ∷ 0x00 ∷ 0x80 ∷ []) (7 ∷ []) (9 ∷ []) (9 ∷ []) 9 (opened saved_start)

short-page : (short.answer ≡ counts 14 0 0 1) × (short.units ≡ 3) × (short.ends ≡ 0 ∷ []) × (short.marks ≡ 0 ∷ [])
unfolding run ends bit bits_for bits_of window code_bits white_terminating white_makeup black_terminating black_makeup common_makeup terminating_of makeup_of codes_of begins shared code_in longest_shared lookup run_take run_step read_run mode_bits modes mode_among mode_by_table mode_take read_mode last_colour recorded add push push_run right_of_a0 from_b1 vertical apply code_2d line_step line_end read_line zero_run read_eols row4 row_of ascends_from overlaid entries joined ends_from spent settle unit call taken going_of sound turn_on turn
short-page = (refl, refl, refl, refl)

-- V0: a place for the end, and none for the mark, is 5 (A5); VR1 past the width, lenient, is cut
abbrev unmarked : Turn
unmarked = turn (page 0 false false) (0x80 ∷ []) (7 ∷ []) (9 ∷ []) [] 9 (opened saved_start)

abbrev cut : Turn
cut = turn (page 1 false false) (0x60 ∷ []) (7 ∷ []) (9 ∷ []) (9 ∷ []) 9 (opened saved_start)

marks-kept : (unmarked.answer ≡ counts 5 0 0 0) × (unmarked.ends ≡ 9 ∷ []) × (cut.answer ≡ counts 0 0 1 1) × (cut.marks ≡ 1 ∷ [])
unfolding run ends bit bits_for bits_of window code_bits white_terminating white_makeup black_terminating black_makeup common_makeup terminating_of makeup_of codes_of begins shared code_in longest_shared lookup run_take run_step read_run mode_bits modes mode_among mode_by_table mode_take read_mode last_colour recorded add push push_run right_of_a0 from_b1 vertical apply code_2d line_step line_end read_line zero_run read_eols row4 row_of ascends_from overlaid entries joined ends_from spent settle unit call taken going_of sound turn_on turn
marks-kept = (refl, refl, refl, refl)
