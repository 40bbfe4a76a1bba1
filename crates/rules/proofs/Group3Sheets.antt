-- Small Group 3 pages, computed over the definitions: their bits, the writers' answers in their order, why a page of no rows is not written, why A13 asks
-- for three fill zeros and what its settings are for, what a bad line with a tag bit must hold, and a cut that nothing tells. Assumes nothing.
use mathlib.Core.Path.{◌≡◌, refl}
use mathlib.Core.Bool.{Bool, true, false}
use mathlib.Core.List.{List, [], ◌∷◌, ◌++◌}
use Prim.Native.Nat.{ℕ}
use lib.ListN.{take, replicate}
use Rattle.rules.specs.Machine.{run, ends}
use Rattle.rules.specs.Bits.{bit, bits_for, bits_of, window}
use Rattle.rules.specs.Codes.{code_bits, white_terminating, white_makeup, black_terminating, black_makeup, common_makeup, terminating_of, makeup_of, codes_of}
use Rattle.rules.specs.Lookup.{begins, shared, code_in, longest_shared, lookup}
use Rattle.rules.specs.Runs.{run_take, run_step, read_run}
use Rattle.rules.specs.Modes.{mode_bits, modes, mode_among, mode_by_table, mode_take, read_mode}
use Rattle.rules.specs.Lines.{last_colour, recorded, add, push, push_run, right_of_a0, from_b1, vertical, apply, code_2d, line_step, line_end, read_line}
use Rattle.rules.specs.Eols.{zero_run, read_eols, skip}
use Rattle.rules.specs.Rows.{Encoding, Settings, group3_1_d, group3_2_d}
use Rattle.rules.specs.Group3.{between_tags, row3}
use Rattle.rules.specs.Pages.{entries, page_step, row_of, read_page, ascends_from}
use Rattle.rules.specs.Write.{run_codes, codes_bits, run_bits, bits_1d, bits_2d, line_bits, eol_bits, to_byte, written_at, rows_in, ends_rise, all_ascend, writes}
use Rattle.rules.specs.WriteGroup3.{bare, filled, mixed, coded_lines, times, framed, page3_bits, write_group3, write_1d, write_2d}
use Rattle.rules.specs.Damage.{own, other, arrived_lines, arrived_page, stops_by}
use Rattle.rules.specs.Damage2D.{own_2d, other_2d, arrived_page_2d}

-- Four columns, the middle two black: white 1 (000111), black 2 (11), white 1. Two zeros of fill before the EOL, and before the first of the six alone;
-- the same row twice without EOLs; three times with K = 2, which is 1D, 2D (three times V0), 1D, with EOL and a tag before each and six times EOL and a
-- one behind; and with K = 1, where every line is 1D and tagged.
pages :
    (page3_bits 4 (filled 2) ((1 ∷ 3 ∷ []) ∷ []) ≡ bits_for 14 1 ++ (bits_for 14 0b00011111000111 ++ (bits_for 14 1 ++ times 5 (bits_for 12 1))))
    × (page3_bits 4 bare ((1 ∷ 3 ∷ []) ∷ (1 ∷ 3 ∷ []) ∷ []) ≡ bits_for 28 0b0001111100011100011111000111)
    × (page3_bits 4 (mixed 2) ((1 ∷ 3 ∷ []) ∷ (1 ∷ 3 ∷ []) ∷ (1 ∷ 3 ∷ []) ∷ [])
    ≡ bits_for 27 0b000000000001100011111000111 ++ (bits_for 16 0b0000000000010111 ++ (bits_for 27 0b000000000001100011111000111 ++ times 6 (bits_for 13 3))))
    × (page3_bits 4 (mixed 1) ((1 ∷ 3 ∷ []) ∷ (1 ∷ 3 ∷ []) ∷ [])
    ≡ bits_for 27 0b000000000001100011111000111 ++ (bits_for 27 0b000000000001100011111000111 ++ times 6 (bits_for 13 3)))
unfolding page3_bits framed coded_lines times line_bits bits_1d bits_2d run_bits run_codes codes_bits code_bits mode_bits white_terminating black_terminating terminating_of makeup_of bit bits_for eol_bits right_of_a0 from_b1
pages = (refl, refl, refl, refl)

-- The order of answers: 6 before 10, 10 before 8, 8 for no rows before 9; fill above 64 is 10 also where no EOLs are written; K is from 1 to 65,535.
answers-in-order :
    ((write_1d true 65 0 [] [] []).number ≡ 6)
    × ((write_1d true 65 4 [] [] []).number ≡ 10)
    × ((write_1d false 65 4 [] [] []).number ≡ 10)
    × ((write_1d true 64 4 [] [] []).number ≡ 8)
    × ((write_1d true 64 4 (1 ∷ 3 ∷ []) (2 ∷ []) []).number ≡ 9)
    × ((write_1d false 0 4 (1 ∷ 3 ∷ []) (2 ∷ []) (255 ∷ 255 ∷ [])).number ≡ 0)
    × ((write_2d 0 0 [] [] []).number ≡ 6)
    × ((write_2d 0 4 [] [] []).number ≡ 10)
    × ((write_2d 65536 4 [] [] []).number ≡ 10)
    × ((write_2d 65535 4 [] [] []).number ≡ 8)
unfolding write_1d write_2d write_group3 writes rows_in ends_rise all_ascend ascends_from bits_of bit bits_for to_byte written_at page3_bits framed coded_lines times line_bits bits_1d run_bits run_codes codes_bits code_bits white_terminating black_terminating terminating_of makeup_of eol_bits
answers-in-order = (refl, refl, refl, refl, refl, refl, refl, refl, refl, refl)

-- "A page of no rows gets 8, because the crate, strict, answers 2 to six EOLs alone": they are leading EOLs, and no line follows them.
strictly : Settings
strictly = record { columns = 4; rows = 0; end_of_block = true; end_of_line = true; aligned = false; encoding = group3_1_d; strict = true; exact = false }

six-alone : (read_page strictly (page3_bits 4 (filled 0) []) 9 9).number ≡ 2
unfolding strictly run ends bit bits_for window code_bits white_terminating white_makeup black_terminating black_makeup common_makeup terminating_of makeup_of codes_of begins shared code_in longest_shared lookup run_take run_step read_run push_run line_step line_end read_line zero_run read_eols row3 entries page_step row_of read_page eol_bits times coded_lines framed page3_bits
six-alone = refl

-- A13, on one column and two white rows, the first line's code bits being others. Two fill zeros are too few: with the zeros behind it the bit 1 is read as white 3
-- (1000), cut to the width; of the thirteen zeros ten are left, which is no EOL; the next EOL found is the first of the six, and the second row is lost. With
-- three it is kept, and clean, and the first is marked cut. A bad line may be marked clean: white 1 (000111) and a one, which is skipped.
lenient : Settings
lenient = record { columns = 1; rows = 2; end_of_block = true; end_of_line = true; aligned = false; encoding = group3_1_d; strict = false; exact = false }

bad-lines-sheet :
    ((read_page lenient (arrived_page 1 2 (other (true ∷ []) ∷ own [] ∷ []) ++ replicate 6 false) 9 9).rows ≡ [] ∷ [])
    × ((read_page lenient (arrived_page 1 3 (other (true ∷ []) ∷ own [] ∷ []) ++ replicate 2 false) 9 9).rows ≡ [] ∷ [] ∷ [])
    × ((read_page lenient (arrived_page 1 3 (other (true ∷ []) ∷ own [] ∷ []) ++ replicate 2 false) 9 9).marks ≡ 1 ∷ 0 ∷ [])
    × ((read_page lenient (arrived_page 1 3 (other (bits_for 7 0b0001111) ∷ own [] ∷ [])) 9 9).marks ≡ 0 ∷ 0 ∷ [])
unfolding lenient run ends bit bits_for window code_bits white_terminating white_makeup black_terminating black_makeup common_makeup terminating_of makeup_of codes_of begins shared code_in longest_shared lookup run_take run_step read_run last_colour recorded add push push_run line_step line_end read_line zero_run read_eols skip row3 entries page_step row_of read_page run_codes codes_bits run_bits bits_1d line_bits eol_bits times framed arrived_lines arrived_page
bad-lines-sheet = (refl, refl, refl, refl)

-- What A13's other settings are for, on the same page of two lines. With end_of_block the number of rows may be 0 or more, whatever follows the page (eight ones here). Without it the
-- true number of rows does, whatever follows, and so does 0 where nothing follows the page. One zero behind it, as padding is, is a line: its row is recovered, and then EOLs are given up and the answer is 2. With one row
-- fewer the first row is given. So it is with tag bits.
loosely : ℕ → Bool → Encoding → Settings
loosely rows blocked enc = record { columns = 1; rows = rows; end_of_block = blocked; end_of_line = true; aligned = false; encoding = enc; strict = false; exact = false }

abbrev bad-page : List Bool
bad-page = arrived_page 1 3 (other (true ∷ []) ∷ own [] ∷ [])

abbrev bad-page-2d : List Bool
bad-page-2d = arrived_page_2d 1 3 [] (other_2d [] true (true ∷ []) ∷ own_2d true [] ∷ [])

looser-settings :
    ((read_page (loosely 0 true group3_1_d) (bad-page ++ bits_for 8 255) 9 9).marks ≡ 1 ∷ 0 ∷ [])
    × ((read_page (loosely 3 true group3_1_d) (bad-page ++ bits_for 8 255) 9 9).marks ≡ 1 ∷ 0 ∷ [])
    × ((read_page (loosely 2 false group3_1_d) (bad-page ++ bits_for 8 255) 9 9).marks ≡ 1 ∷ 0 ∷ [])
    × ((read_page (loosely 0 false group3_1_d) bad-page 9 9).number ≡ 0)
    × ((read_page (loosely 0 false group3_1_d) bad-page 9 9).marks ≡ 1 ∷ 0 ∷ [])
    × ((read_page (loosely 0 false group3_1_d) (bad-page ++ false ∷ []) 9 9).number ≡ 2)
    × ((read_page (loosely 0 false group3_1_d) (bad-page ++ false ∷ []) 9 9).marks ≡ 1 ∷ 0 ∷ 2 ∷ [])
    × ((read_page (loosely 1 true group3_1_d) bad-page 9 9).marks ≡ 1 ∷ [])
    × ((read_page (loosely 0 false group3_2_d) (bad-page-2d ++ false ∷ []) 9 9).number ≡ 2)
    × ((read_page (loosely 0 false group3_2_d) (bad-page-2d ++ false ∷ []) 9 9).marks ≡ 1 ∷ 0 ∷ 2 ∷ [])
unfolding loosely run ends bit bits_for window code_bits white_terminating white_makeup black_terminating black_makeup common_makeup terminating_of makeup_of codes_of begins shared code_in longest_shared lookup run_take run_step read_run mode_bits modes mode_among mode_by_table mode_take read_mode last_colour recorded add push push_run right_of_a0 from_b1 vertical apply code_2d line_step line_end read_line zero_run read_eols skip between_tags row3 entries page_step row_of read_page run_codes codes_bits run_bits bits_1d line_bits eol_bits times framed arrived_lines arrived_page arrived_page_2d
looser-settings = (refl, refl, refl, refl, refl, refl, refl, refl, refl, refl)

-- Two zeros of fill, or none, do where a bad line's reading ends by the fill: 1 does not (it takes three zeros, as above), 10 does, and so does 0001111 with no fill, whose seventh bit is skipped.
less-fill :
    (stops_by 1 2 (true ∷ []) ≡ false)
    × (stops_by 1 2 (true ∷ false ∷ []) ≡ true)
    × (stops_by 1 0 (bits_for 7 0b0001111) ≡ true)
    × ((read_page lenient (arrived_page 1 2 (other (true ∷ false ∷ []) ∷ own [] ∷ [])) 9 9).marks ≡ 1 ∷ 0 ∷ [])
    × ((read_page lenient (arrived_page 1 0 (other (bits_for 7 0b0001111) ∷ own [] ∷ [])) 9 9).marks ≡ 0 ∷ 0 ∷ [])
unfolding lenient stops_by run ends bit bits_for window code_bits white_terminating white_makeup black_terminating black_makeup common_makeup terminating_of makeup_of codes_of begins shared code_in longest_shared lookup run_take run_step read_run last_colour recorded add push push_run line_step line_end read_line zero_run read_eols skip row3 entries page_step row_of read_page run_codes codes_bits run_bits bits_1d line_bits eol_bits times framed arrived_lines arrived_page
less-fill = (refl, refl, refl, refl, refl)

-- The same with tag bits, and what the other bits must be then: two fill zeros are too few, three are enough; a tag bit 1 with no one behind it stands between two EOLs as in an RTC, and its row is
-- lost; and so is the row of a tag bit 0 with ten zeros and a one behind it, which are an EOL.
lenient-2d : Settings
lenient-2d = record { columns = 1; rows = 2; end_of_block = true; end_of_line = true; aligned = false; encoding = group3_2_d; strict = false; exact = false }

bad-lines-2d-sheet :
    ((read_page lenient-2d (arrived_page_2d 1 2 [] (other_2d [] true (true ∷ []) ∷ own_2d true [] ∷ [])) 9 9).rows ≡ [] ∷ [])
    × ((read_page lenient-2d (arrived_page_2d 1 3 [] (other_2d [] true (true ∷ []) ∷ own_2d true [] ∷ [])) 9 9).marks ≡ 1 ∷ 0 ∷ [])
    × ((read_page lenient-2d (arrived_page_2d 1 3 [] (own_2d true [] ∷ other_2d [] true [] ∷ [])) 9 9).rows ≡ [] ∷ [])
    × ((read_page lenient-2d (arrived_page_2d 1 3 [] (other_2d [] false (bits_for 11 1) ∷ own_2d true [] ∷ [])) 9 9).rows ≡ [] ∷ [])
unfolding lenient-2d run ends bit bits_for window code_bits white_terminating white_makeup black_terminating black_makeup common_makeup terminating_of makeup_of codes_of begins shared code_in longest_shared lookup run_take run_step read_run last_colour recorded add push push_run line_step line_end read_line zero_run read_eols skip between_tags row3 entries page_step row_of read_page run_codes codes_bits run_bits bits_1d line_bits eol_bits times arrived_page_2d
bad-lines-2d-sheet = (refl, refl, refl, refl)

-- A cut between two lines tells nothing but by the number of rows: of two white rows on two columns the first two bytes are the first line, and are answered with 0 and one clean row, by a strict reading
-- too, and with the true number of rows.
two-rows : Settings
two-rows = record { columns = 2; rows = 2; end_of_block = true; end_of_line = true; aligned = false; encoding = group3_1_d; strict = true; exact = false }

cut-sheet :
    (take 16 (page3_bits 2 (filled 0) ([] ∷ [] ∷ [])) ≡ bits_of (0x00 ∷ 0x17 ∷ []))
    × (read_page two-rows (bits_of (0x00 ∷ 0x17 ∷ [])) 9 9 ≡ record { number = 0; place = 0; bytes = 2; rows = [] ∷ []; marks = 0 ∷ []; loose = [] })
unfolding two-rows run ends bit bits_of bits_for window code_bits white_terminating white_makeup black_terminating black_makeup common_makeup terminating_of makeup_of codes_of begins shared code_in longest_shared lookup run_take run_step read_run last_colour recorded add push push_run line_step line_end read_line zero_run read_eols row3 entries page_step row_of read_page run_codes codes_bits run_bits bits_1d line_bits eol_bits times coded_lines framed page3_bits
cut-sheet = (refl, refl)
