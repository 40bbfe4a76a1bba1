-- The numbers of the verdicts on a page. Up to 15 they are the answers' (rules: specs/Answers.antt); those above are the desk's own (docs/DECISIONS.md).
use Rattle.std.specs.Prelude.{ℕ}

-- ---- Of the page

-- it was read with other columns than the form's
abbrev pub other_columns : ℕ
other_columns = 16

-- bytes are left behind it: a second page?
abbrev pub bytes_behind : ℕ
bytes_behind = 17

-- it has other rows than the form says
abbrev pub other_rows : ℕ
other_rows = 18

-- a row that the form rests on is not clean
abbrev pub unclean_row : ℕ
unclean_row = 19

-- a place that must be black, white, is not
abbrev pub not_black : ℕ
not_black = 20

abbrev pub not_white : ℕ
not_white = 21

-- a box has too many black pixels for none, and too few for a tick
abbrev pub in_doubt : ℕ
in_doubt = 22

-- the marks that end its lines were expected and then given up: the rows behind hang on all of its bytes (rules: specs/Standing.antt,
-- `has_given_up`)
abbrev pub eols_given_up : ℕ
eols_given_up = 23

-- it is not proper: its bytes are not what a writer writes for its rows (rules: specs/Proper.antt)
abbrev pub not_proper : ℕ
not_proper = 24

-- the form, which may lie aside of its place, fits at two places of it, and they read other heads
abbrev pub other_ticks : ℕ
other_ticks = 25

-- ---- Of the form file: its lines

-- none of a form's lines
abbrev pub no_form_line : ℕ
no_form_line = 32

-- it says what a line above it says
abbrev pub said_twice : ℕ
said_twice = 33

-- its numbers are out of order
abbrev pub bad_numbers : ℕ
bad_numbers = 34

-- one place more than there is room for
abbrev pub too_many_places : ℕ
too_many_places = 35

-- ---- and the whole

-- a line that a form must have
abbrev pub missing_line : ℕ
missing_line = 36

-- a box or place outside the page
abbrev pub outside_page : ℕ
outside_page = 37

-- two boxes on each other
abbrev pub overlapping : ℕ
overlapping = 38

-- no eighty numbers are lent for the boxes
abbrev pub no_room_for_boxes : ℕ
no_room_for_boxes = 39

-- a text of more than 65,536 bytes
abbrev pub long_form : ℕ
long_form = 40

-- a range of rows and no places, for a reading that is not exact
abbrev pub unfit_form : ℕ
unfit_form = 41

-- ---- Of the page's file, which a program could not use

abbrev pub no_file : ℕ
no_file = 42

abbrev pub unreadable_file : ℕ
unreadable_file = 43

abbrev pub a_folder : ℕ
a_folder = 44

abbrev pub empty_file : ℕ
empty_file = 45

abbrev pub long_file : ℕ
long_file = 46

-- neither its name's ending nor the command says the encoding
abbrev pub no_encoding : ℕ
no_encoding = 47

-- it ended before its length
abbrev pub cut_file : ℕ
cut_file = 48

-- ---- The ranges

-- the last of the page's, the first of the form's, and the last of all
abbrev pub last_of_page : ℕ
last_of_page = 25

abbrev pub first_of_form : ℕ
first_of_form = 32

abbrev pub last_verdict : ℕ
last_verdict = 48
