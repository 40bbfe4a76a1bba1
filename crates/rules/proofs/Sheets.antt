-- Every ★ sheet of 01 is right: one claim, which is computed over the definitions; and examples of 02's requests, computed too. Assumes nothing.
use mathlib.Core.Path.{◌≡◌, refl}
use mathlib.Core.Bool.{Bool, true, false, ◌&&◌}
use mathlib.Core.List.{List, [], ◌∷◌}
use Prim.Native.Nat.{ℕ}
use lib.Dec.{T, eqb}
use Rattle.rules.specs.Machine.{run, ends, spent, costs}
use Rattle.rules.specs.Bits.{bit, bits_for, bits_of, window}
use Rattle.rules.specs.Codes.{white, black, Code, code_bits, white_terminating, white_makeup, black_terminating, black_makeup, common_makeup, terminating_of, makeup_of, codes_of}
use Rattle.rules.specs.Lookup.{begins, shared, code_in, longest_shared, lookup}
use Rattle.rules.specs.Runs.{run_take, run_step, read_run}
use Rattle.rules.specs.Modes.{mode_bits, modes, mode_among, mode_by_table, mode_take, read_mode}
use Rattle.rules.specs.Lines.{Rules, last_colour, recorded, add, push, push_run, right_of_a0, from_b1, vertical, apply, code_2d, line_step, line_end, read_line}
use Rattle.rules.specs.Counts.{of_code, of_line, mode_codes, codes_but_makeups}
use Rattle.rules.specs.Eols.{zero_run, read_eols, skip}
use Rattle.rules.specs.Rows.{Encoding, group4, group3_1_d, group3_2_d, Settings}
use Rattle.rules.specs.Group4.{row4}
use Rattle.rules.specs.Group3.{between_tags, row3}
use Rattle.rules.specs.Pages.{Answer, entries, page_step, row_of, read_page, ascends_from, decode}
use Rattle.rules.specs.Write.{run_codes, codes_bits, run_bits, bits_2d, line_bits, rows_bits, eol_bits, eofb, page_bits, to_byte, written_at, rows_in, ends_rise, all_ascend, writes, write_page}
use Rattle.rules.specs.Sheets.{sheets, same_bits, same, same_rows, answers, whites, right, all_right}

pub sheets-right : T (all_right sheets)
unfolding run ends bit bits_for bits_of window code_bits white_terminating white_makeup black_terminating black_makeup common_makeup terminating_of makeup_of codes_of begins shared code_in longest_shared lookup run_take run_step read_run mode_bits modes mode_among mode_by_table mode_take read_mode last_colour recorded add push push_run right_of_a0 from_b1 vertical apply code_2d line_step line_end read_line zero_run read_eols row4 entries page_step row_of read_page ascends_from decode run_codes codes_bits run_bits bits_2d line_bits rows_bits eol_bits eofb page_bits to_byte written_at rows_in ends_rise all_ascend writes write_page sheets same_bits same same_rows whites right all_right
sheets-right = tt

-- the runs that codes stand for
unfoldable pub sizes : List Code → List ℕ
sizes [] = []
sizes (c ∷ cs) = c.run ∷ sizes cs

-- A6's own example: "Run 1792 was 1728, 64, 0 and becomes 1792, 0"; and 2560 is repeated while it remains.
pub run-1792 : sizes (run_codes white 1792) ≡ 1792 ∷ 0 ∷ []
unfolding white_terminating white_makeup common_makeup terminating_of makeup_of run_codes sizes
run-1792 = refl

pub run-7000 : sizes (run_codes black 7000) ≡ 2560 ∷ 2560 ∷ 1856 ∷ 24 ∷ []
unfolding black_terminating black_makeup common_makeup terminating_of makeup_of run_codes sizes
run-7000 = refl

-- A5's marks, on lenient pages of 8 columns: 02's own listing; a count that is cut; one that is cut to nothing; and a line that is cut, fails and is recovered.
abbrev leniently : Encoding → ℕ → Settings
leniently enc rows = record { columns = 8; rows = rows; end_of_block = false; end_of_line = false; aligned = false; encoding = enc; strict = false; exact = false }

pub marks-right : T (
    same (decode (leniently group3_1_d 2) (0x00 ∷ 0x17 ∷ 0x80 ∷ 0x06 ∷ 0x60 ∷ []) 8 8).marks (2 ∷ 0 ∷ [])
    && (same (decode (leniently group4 1) (0x60 ∷ []) 8 8).marks (1 ∷ [])
    && (same (decode (leniently group4 1) (0x33 ∷ 0x40 ∷ []) 8 8).marks (1 ∷ [])
    && same (decode (leniently group3_2_d 1) (0x00 ∷ 0x11 ∷ 0xA0 ∷ 0x00 ∷ 0x80 ∷ []) 8 8).marks (2 ∷ [])))
    )
unfolding run ends bit bits_for bits_of window code_bits white_terminating white_makeup black_terminating black_makeup common_makeup terminating_of makeup_of codes_of begins shared code_in longest_shared lookup run_take run_step read_run mode_bits modes mode_among mode_by_table mode_take read_mode last_colour recorded add push push_run right_of_a0 from_b1 vertical apply code_2d line_step line_end read_line zero_run read_eols skip between_tags row4 row3 entries page_step row_of read_page decode same
marks-right = tt

-- A12, on Group 4 pages: columns, rows, end_of_block, strict and exact
abbrev settled : ℕ → ℕ → Bool → Bool → Bool → Settings
settled columns rows eob strict exact =
    record { columns = columns; rows = rows; end_of_block = eob; end_of_line = false; aligned = false; encoding = group4; strict = strict; exact = exact }

abbrev faulted : ℕ → ℕ → List (List ℕ) → Answer → Bool
faulted number place rows a = eqb a.place place && answers number rows 0 a

-- The line's first code moves to 0, and a horizontal code has one zero run: both are read. A horizontal code has two: strict reads them, and exact answers 1, at the mode code. A later
-- code stays at 0, in black. A page that is short of a row; one of which no number of rows is asked; one that would be cut, with strict off; and columns 0.
pub exact-right : T (
    answers 0 ((0 ∷ []) ∷ []) 1 (decode (settled 1 1 false true true) (0x50 ∷ []) 8 8)
    && (answers 0 ((0 ∷ 1 ∷ []) ∷ []) 2 (decode (settled 8 1 false true true) (0x26 ∷ 0xAA ∷ []) 8 8)
    && (answers 0 ([] ∷ []) 3 (decode (settled 8 1 false true false) (0x26 ∷ 0xA1 ∷ 0xBC ∷ []) 8 8)
    && (faulted 1 0 [] (decode (settled 8 1 false true true) (0x26 ∷ 0xA1 ∷ 0xBC ∷ []) 8 8)
    && (faulted 1 15 ((0 ∷ 3 ∷ []) ∷ []) (decode (settled 8 2 false true true) (0x26 ∷ 0xB6 ∷ 0x08 ∷ []) 8 8)
    && (answers 0 ([] ∷ []) 4 (decode (settled 8 2 true true false) (0x80 ∷ 0x08 ∷ 0x00 ∷ 0x80 ∷ []) 8 8)
    && (faulted 14 0 ([] ∷ []) (decode (settled 8 2 true true true) (0x80 ∷ 0x08 ∷ 0x00 ∷ 0x80 ∷ []) 8 8)
    && (answers 0 ([] ∷ []) 4 (decode (settled 8 0 true true true) (0x80 ∷ 0x08 ∷ 0x00 ∷ 0x80 ∷ []) 8 8)
    && (faulted 1 0 [] (decode (settled 8 1 false false true) (0x60 ∷ []) 8 8)
    && answers 0 [] 0 (decode (settled 0 2 false true true) [] 8 8)))))))))
    )
unfolding run ends bit bits_for bits_of window code_bits white_terminating white_makeup black_terminating black_makeup common_makeup terminating_of makeup_of codes_of begins shared code_in longest_shared lookup run_take run_step read_run mode_bits modes mode_among mode_by_table mode_take read_mode last_colour recorded add push push_run right_of_a0 from_b1 vertical apply code_2d line_step line_end read_line zero_run read_eols skip between_tags row4 row3 entries page_step row_of read_page decode same same_rows
exact-right = tt

-- How many codes a line of one column has (proofs/Counts.antt): VL1 to 0, then a horizontal code of black 1 and white 0, which is as many as an exact line may have; and VL1 four times, then
-- V0, which strict reads.
abbrev column : Bool → Rules
column exact = record { width = 1; strict = true; exact = exact; room = 8 }

pub counts-right : T (
    eqb (mode_codes (column true) [] (bits_for 17 0b01000101000110101) 0) 2
    && (eqb (codes_but_makeups (column true) [] (bits_for 17 0b01000101000110101) 0) 4
    && eqb (mode_codes (column false) [] (bits_for 13 0b0100100100101) 0) 5)
    )
unfolding run spent costs ends bit bits_for window code_bits white_terminating white_makeup black_terminating black_makeup common_makeup terminating_of makeup_of codes_of begins shared code_in longest_shared lookup run_take run_step read_run mode_bits modes mode_among mode_by_table mode_take read_mode last_colour recorded add push push_run right_of_a0 from_b1 vertical apply code_2d line_step of_code of_line
counts-right = tt
