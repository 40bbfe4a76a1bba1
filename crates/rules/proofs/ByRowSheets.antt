-- Small Group 4 pages of 8 columns in calls for a row, computed over the definitions: a page that is short of rows, a row that is cut, and one that finds no room.
-- Assumes nothing.
use mathlib.Core.Path.{◌≡◌, refl}
use mathlib.Core.Bool.{Bool, true, false}
use mathlib.Core.List.{List, [], ◌∷◌}
use Prim.Native.Nat.{ℕ}
use Rattle.rules.specs.Machine.{run, ends}
use Rattle.rules.specs.Bits.{bit, bits_for, bits_of, window}
use Rattle.rules.specs.Codes.{code_bits, white_terminating, white_makeup, black_terminating, black_makeup, common_makeup, terminating_of, makeup_of, codes_of}
use Rattle.rules.specs.Lookup.{begins, shared, code_in, longest_shared, lookup}
use Rattle.rules.specs.Runs.{run_take, run_step, read_run}
use Rattle.rules.specs.Modes.{mode_bits, modes, mode_among, mode_by_table, mode_take, read_mode}
use Rattle.rules.specs.Lines.{last_colour, recorded, add, push, push_run, right_of_a0, from_b1, vertical, apply, code_2d, line_step, line_end, read_line}
use Rattle.rules.specs.Eols.{zero_run, read_eols}
use Rattle.rules.specs.Rows.{group4, Settings}
use Rattle.rules.specs.Group4.{row4}
use Rattle.rules.specs.Pages.{row_of, ascends_from, overlaid}
use Rattle.rules.specs.InSteps.{says}
use Rattle.rules.specs.ByRow.{Arrays, gives, RowStep, RowState, row_start, sound, tested, read_row}

abbrev lent : Arrays
lent = record { first = 7 ∷ []; second = 7 ∷ [] }

-- One white row and EOFB, where exact asks for two rows: the row, read clean; then 14 (A12), with the row kept and no bytes; and 14 again.
abbrev two-rows : Settings
two-rows = record { columns = 8; rows = 2; end_of_block = true; end_of_line = false; aligned = false; encoding = group4; strict = false; exact = true }

abbrev calls : RowState → RowStep
calls p = read_row two-rows (0x80 ∷ 0x08 ∷ 0x00 ∷ 0x80 ∷ []) p lent

short-page :
    ((calls row_start).said ≡ gives 0 1 0)
    × ((calls (calls row_start).state).said ≡ says 14 0 0 1 0 0)
    × ((calls (calls (calls row_start).state).state).said ≡ says 14 0 0 1 0 0)
unfolding run ends bit bits_for bits_of window code_bits white_terminating white_makeup black_terminating black_makeup common_makeup terminating_of makeup_of codes_of begins shared code_in longest_shared lookup run_take run_step read_run mode_bits modes mode_among mode_by_table mode_take read_mode last_colour recorded add push push_run right_of_a0 from_b1 vertical apply code_2d line_step line_end read_line zero_run read_eols row4 row_of ascends_from overlaid sound tested read_row
short-page = (refl, refl, refl)

-- VR1 past the width, lenient: a white row with the mark 1 (A5); exact, 1 at the mode code, without strict too
abbrev one_row : Bool → Settings
one_row exact = record { columns = 8; rows = 1; end_of_block = false; end_of_line = false; aligned = false; encoding = group4; strict = false; exact = exact }

cut-row : ((read_row (one_row false) (0x60 ∷ []) row_start lent).said ≡ gives 1 1 0) × ((read_row (one_row true) (0x60 ∷ []) row_start lent).said ≡ says 1 0 0 0 0 0)
unfolding run ends bit bits_for bits_of window code_bits white_terminating white_makeup black_terminating black_makeup common_makeup terminating_of makeup_of codes_of begins shared code_in longest_shared lookup run_take run_step read_run mode_bits modes mode_among mode_by_table mode_take read_mode last_colour recorded add push push_run right_of_a0 from_b1 vertical apply code_2d line_step line_end read_line zero_run read_eols row4 row_of ascends_from overlaid sound tested read_row
cut-row = (refl, refl)

-- 01's sheet 31 C0: a line array of two entries suffices; one of one entry gives 4, and the one change is loose
abbrev into : List ℕ → RowStep
into line = read_row (one_row false) (0x31 ∷ 0xC0 ∷ []) row_start (record { first = line; second = [] })

no_room : ((into (7 ∷ 7 ∷ [])).said ≡ gives 0 1 2) × ((into (7 ∷ 7 ∷ [])).arrays.first ≡ 3 ∷ 5 ∷ []) × ((into (7 ∷ [])).said ≡ says 4 0 0 0 0 1) × ((into (7 ∷ [])).arrays.first ≡ 3 ∷ [])
unfolding run ends bit bits_for bits_of window code_bits white_terminating white_makeup black_terminating black_makeup common_makeup terminating_of makeup_of codes_of begins shared code_in longest_shared lookup run_take run_step read_run mode_bits modes mode_among mode_by_table mode_take read_mode last_colour recorded add push push_run right_of_a0 from_b1 vertical apply code_2d line_step line_end read_line zero_run read_eols row4 row_of ascends_from overlaid sound tested read_row
no_room = (refl, refl, refl, refl)
