-- Every sheet of units is right: one claim, which is computed over the definitions. Assumes nothing.
use lib.Dec.{T}
use Rattle.rules.specs.Machine.{run, ends, spent, costs}
use Rattle.rules.specs.Bits.{bit, bits_for, bits_of, window}
use Rattle.rules.specs.Codes.{code_bits, white_terminating, white_makeup, black_terminating, black_makeup, common_makeup, terminating_of, makeup_of, codes_of}
use Rattle.rules.specs.Lookup.{begins, shared, code_in, longest_shared, lookup}
use Rattle.rules.specs.Runs.{run_take, run_step, read_run}
use Rattle.rules.specs.Modes.{mode_bits, modes, mode_among, mode_by_table, mode_take, read_mode}
use Rattle.rules.specs.Lines.{last_colour, recorded, add, push, push_run, right_of_a0, from_b1, vertical, apply, code_2d, line_step, line_end, read_line}
use Rattle.rules.specs.Eols.{zero_run, read_eols}
use Rattle.rules.specs.Group4.{row4}
use Rattle.rules.specs.Pages.{entries, page_step, row_of}
use Rattle.rules.specs.Counts.{of_code, of_line}
use Rattle.rules.specs.Units.{run_units, row_units, page_units}
use Rattle.rules.specs.UnitSheets.{unit_sheets, units_right}

pub unit-sheets-right : T (units_right unit_sheets)
unfolding run ends bit bits_for bits_of window code_bits white_terminating white_makeup black_terminating black_makeup common_makeup terminating_of makeup_of codes_of begins shared code_in longest_shared lookup run_take run_step read_run mode_bits modes mode_among mode_by_table mode_take read_mode last_colour recorded add push push_run right_of_a0 from_b1 vertical apply code_2d line_step line_end read_line zero_run read_eols row4 entries page_step row_of spent costs run_units of_code of_line row_units page_units unit_sheets units_right
unit-sheets-right = tt
