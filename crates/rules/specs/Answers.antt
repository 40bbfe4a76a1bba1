-- The numbers of the answers, each named once (01 "The row store and what the desk says"; 02), and what 32 bits count.
use Rattle.std.specs.Prelude.{ℕ}

-- ---- 01's list

-- 0: "done"
abbrev pub complete : ℕ
complete = 0

-- 1 InvalidCode: "as in the crate"; no code, mode or EOL where one must be, or a strict line with too many pixels
abbrev pub invalid_code : ℕ
invalid_code = 1

-- 2 UnexpectedEof: the data ends first
abbrev pub unexpected_eof : ℕ
unexpected_eof = 2

-- 3 Overflow: a sum or a place that 32 bits do not count, or a move left of the position
abbrev pub overflow : ℕ
overflow = 3

-- 4: "a change is to be recorded and no entry is left"
abbrev pub no_entry : ℕ
no_entry = 4

-- 5: "a row is complete and no row end is left"
abbrev pub no_row_end : ℕ
no_row_end = 5

-- 6: "columns 4,294,967,295; for one line or a writer also 0"
abbrev pub bad_width : ℕ
bad_width = 6

-- 7: data or output above the limit (A4)
abbrev pub too_long : ℕ
too_long = 7

-- 8: "a row or reference to be used isn't strictly ascending below the width, or row ends fall or pass the array"; of a form in steps also a state that is none
abbrev pub bad_rows : ℕ
bad_rows = 8

-- 9: "the writer's bits don't fit"
abbrev pub no_fit : ℕ
no_fit = 9

-- ---- 02's numbers

-- 10 (A3, A9, A10): a caller's number off its range: fill, units, K
abbrev pub bad_number : ℕ
bad_number = 10

-- 11 (A11): the boxes, the least count or the quota are none that a form has
abbrev pub bad_form : ℕ
bad_form = 11

-- 12 (A11): not exactly one tick in a column
abbrev pub not_one_tick : ℕ
not_one_tick = 12

-- 13 (A11): a box holds a pixel of a row that was not read clean
abbrev pub mended_row : ℕ
mended_row = 13

-- 14 (A12): an exact page that ends with fewer rows than it is to have
abbrev pub too_few_rows : ℕ
too_few_rows = 14

-- 15: "A call in steps that is neither refused nor ends the page answers 15, more to come, with bytes 0 and its other counts as they stand."
abbrev pub more_to_come : ℕ
more_to_come = 15

-- ---- A limit

-- no place on a line and no sum of a run is more, and no page is so wide
abbrev pub most_pixels : ℕ
most_pixels = 4294967295
