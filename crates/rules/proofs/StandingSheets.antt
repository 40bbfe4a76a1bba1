-- Why the bound of Standing is what it is, on the smallest data, computed over the definitions: pairs that agree in one bit less, and the rows of a lenient Group 3 page that do not stand
-- though the reader is not past the bits that agree. Assumes nothing.
use mathlib.Core.Path.{◌≡◌, refl}
use mathlib.Core.Bool.{Bool, true, false}
use mathlib.Core.List.{List, [], ◌∷◌}
use Prim.Native.Nat.{ℕ}
use Rattle.rules.specs.Machine.{run, ends}
use Rattle.rules.specs.Bits.{bit, bits_for, bits_of, window}
use Rattle.rules.specs.Codes.{code_bits, white_terminating, white_makeup, black_terminating, black_makeup, common_makeup, terminating_of, makeup_of, codes_of}
use Rattle.rules.specs.Lookup.{begins, shared, code_in, longest_shared, lookup}
use Rattle.rules.specs.Runs.{run_take, run_step, read_run}
use Rattle.rules.specs.Modes.{mode_bits, modes, mode_among, mode_by_table, mode_take, read_mode}
use Rattle.rules.specs.Lines.{last_colour, recorded, add, push, push_run, right_of_a0, from_b1, vertical, apply, code_2d, line_step, line_end, read_line}
use Rattle.rules.specs.Eols.{zero_run, read_eols, skip}
use Rattle.rules.specs.Rows.{Encoding, group4, group3_1_d, group3_2_d, Settings, State, page_start, RowOut, row, stop}
use Rattle.rules.specs.Group4.{row4}
use Rattle.rules.specs.Group3.{between_tags, row3}
use Rattle.rules.specs.Pages.{entries, page_step, row_of, read_page, decode}
use Rattle.rules.specs.Standing.{gives_up, has_given_up}

abbrev read : Encoding → Bool → ℕ → Settings
read enc strict columns = record { columns = columns; rows = 0; end_of_block = true; end_of_line = true; aligned = false; encoding = enc; strict = strict; exact = false }

-- the first row, and the row behind a state
abbrev first_row : Settings → List Bool → RowOut
first_row S bits = row_of S.encoding S bits 9 page_start

abbrev next_row : Settings → List Bool → State → RowOut
next_row S bits st = row_of S.encoding S bits 9 st

abbrev after : ℕ → List ℕ → ℕ → Bool → State
after at r count eols = record { at = at; reference = r; count = count; eols = eols }

-- One bit less does not do, strict. Group 4, one column: 1 is a white row up to bit 1; with no bit that agrees, 0 is none. 1D, two columns: 0111, and 011 cut short. 2D, one column: 01, and 0.
one-bit-less :
    (first_row (read group4 true 1) (true ∷ []) ≡ row [] 0 (after 1 [] 1 false))
    × (first_row (read group4 true 1) (false ∷ []) ≡ stop 2 0 0 [])
    × (first_row (read group3_1_d true 2) (bits_for 4 0b0111) ≡ row [] 0 (after 4 [] 1 true))
    × (first_row (read group3_1_d true 2) (bits_for 3 0b011) ≡ stop 2 0 0 [])
    × (first_row (read group3_2_d true 1) (bits_for 2 0b01) ≡ row [] 0 (after 2 [] 1 true))
    × (first_row (read group3_2_d true 1) (bits_for 1 0) ≡ stop 2 1 0 [])
unfolding run ends bit bits_for window code_bits white_terminating white_makeup black_terminating black_makeup common_makeup terminating_of makeup_of codes_of begins shared code_in longest_shared lookup run_take run_step read_run mode_bits modes mode_among mode_by_table mode_take read_mode last_colour recorded add push push_run right_of_a0 from_b1 vertical apply code_2d line_step line_end read_line zero_run read_eols skip between_tags row4 row3 row_of
one-bit-less = (refl, refl, refl, refl, refl, refl)

-- A recovered row does not stand at the reader's bit: no data, and four bits of another. Both agree in the 0 bits that the reader has passed.
recovered-looks-on :
    (first_row (read group3_1_d false 2) [] ≡ row [] 2 (after 0 [] 1 true))
    × (first_row (read group3_1_d false 2) (bits_for 4 0b0111) ≡ row [] 0 (after 4 [] 1 true))
unfolding run ends bit bits_for window code_bits white_terminating white_makeup black_terminating black_makeup common_makeup terminating_of makeup_of codes_of begins shared code_in longest_shared lookup run_take run_step read_run last_colour recorded add push push_run line_step line_end read_line zero_run read_eols skip row3 row_of
recovered-looks-on = (refl, refl)

-- It stands with the eleven zeros of the next EOL, which begins at bit 1 here, and not with ten of them, on four columns: 1000 is white 3, behind which eight zeros are no code; with a one in the place of the
-- eleventh zero they are 1000, then the make-up code of 1792 (00000001000) and black 2 (11), cut to the width. Both agree in eleven bits.
ten-zeros :
    (first_row (read group3_1_d false 4) (bits_for 17 0b10000000000010000) ≡ row [] 2 (after 0 [] 1 true))
    × (first_row (read group3_1_d false 4) (bits_for 17 0b10000000000100011) ≡ row (3 ∷ []) 1 (after 17 (3 ∷ []) 1 true))
unfolding run ends bit bits_for window code_bits white_terminating white_makeup black_terminating black_makeup common_makeup terminating_of makeup_of codes_of begins shared code_in longest_shared lookup run_take run_step read_run last_colour recorded add push push_run line_step line_end read_line zero_run read_eols skip row3 row_of
ten-zeros = (refl, refl)

-- Where a lenient reader gives EOLs up, a row that was read clean does not stand, on two columns: behind 0111, a white row, stands another with no EOL before it, and none behind. It is given, and its state is bit 8.
-- With an EOL from bit 8 on and a black row behind that (white 0, black 2), it is skipped, and the black row is given. Both agree in eight bits.
given-up :
    (next_row (read group3_1_d false 2) (bits_for 8 0b01110111) (after 4 [] 1 true) ≡ row [] 0 (after 8 [] 2 false))
    × (next_row (read group3_1_d false 2) (bits_for 30 0b011101110000000000010011010111) (after 4 [] 1 true) ≡ row (0 ∷ []) 0 (after 30 (0 ∷ []) 2 true))
unfolding run ends bit bits_for window code_bits white_terminating white_makeup black_terminating black_makeup common_makeup terminating_of makeup_of codes_of begins shared code_in longest_shared lookup run_take run_step read_run last_colour recorded add push push_run line_step line_end read_line zero_run read_eols skip row3 row_of
given-up = (refl, refl)

-- The smallest such pages in whole bytes whose rows differ: 2D, one column, 0A and 0A 00 25, both rows clean; 1D, three columns, 88 and 88 00 5E, of which the second row is cut to the width.
given-up-bytes :
    (next_row (read group3_2_d false 1) (bits_for 8 0x0A) (after 5 [] 1 true) ≡ row [] 0 (after 7 [] 2 false))
    × (next_row (read group3_2_d false 1) (bits_for 24 0x0A0025) (after 5 [] 1 true) ≡ row (0 ∷ []) 0 (after 24 (0 ∷ []) 2 true))
    × (next_row (read group3_1_d false 3) (bits_for 8 0x88) (after 4 [] 1 true) ≡ row [] 0 (after 8 [] 2 false))
    × (next_row (read group3_1_d false 3) (bits_for 24 0x88005E) (after 4 [] 1 true) ≡ row (2 ∷ []) 1 (after 24 (2 ∷ []) 2 true))
unfolding run ends bit bits_for window code_bits white_terminating white_makeup black_terminating black_makeup common_makeup terminating_of makeup_of codes_of begins shared code_in longest_shared lookup run_take run_step read_run mode_bits modes mode_among mode_by_table mode_take read_mode last_colour recorded add push push_run right_of_a0 from_b1 vertical apply code_2d line_step line_end read_line zero_run read_eols skip between_tags row3 row_of
given-up-bytes = (refl, refl, refl, refl)

-- And what is said of the two 2D pages: in the first EOLs were given up, in the second they were not.
said-of-both : (has_given_up (read group3_2_d false 1) (0x0A ∷ []) 9 9 ≡ true) × (has_given_up (read group3_2_d false 1) (0x0A ∷ 0x00 ∷ 0x25 ∷ []) 9 9 ≡ false)
unfolding run ends bit bits_for bits_of window code_bits white_terminating white_makeup black_terminating black_makeup common_makeup terminating_of makeup_of codes_of begins shared code_in longest_shared lookup run_take run_step read_run mode_bits modes mode_among mode_by_table mode_take read_mode last_colour recorded add push push_run right_of_a0 from_b1 vertical apply code_2d line_step line_end read_line zero_run read_eols skip between_tags row3 row_of entries page_step read_page decode gives_up has_given_up
said-of-both = (refl, refl)
