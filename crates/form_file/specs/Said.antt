-- What a line of a form file says, by its first word. All words behind it are numbers; the boxes' edges are those of 02 A11: right and bottom are not included.
use Rattle.std.specs.Prelude.{true, false, ◌&&◌, List, [], ◌∷◌, ℕ, ◌+◌, ◌*◌, eqb, ltb, length, get_or}
use Rattle.listing_text.specs.Text.{ascii}
use Rattle.heads.specs.Form.{all}
use Rattle.heads.specs.Numbers.{box_in}
use Rattle.form_file.specs.Words.{same, none, values_of}
use Rattle.form_file.specs.declared.said.Said.{Said}
use Rattle.form_file.specs.declared.said.Said.TheVariants.{Nothing as nothing, Square as box, Page as page, Tick as tick, Doubt as doubt, Place as place, Proper as proper, Shift as shift, Wrong as wrong}

-- `tens D LEFT RIGHT TOP BOTTOM`, `units D ..`: the box of a digit. A box has the number 2 × digit, and one more in the units' column.
abbrev pub box_said : ℕ → List ℕ → Said
box_said column ns =
    elim (eqb (length ns) 5 && ltb (get_or ns 0 0) 10) [ true ↦ box (2 * get_or ns 0 0 + column) (box_in ns 1) | false ↦ wrong ]

-- `page COLUMNS ROWS`, `page COLUMNS LEAST MOST`: the width, and how many rows the page has
abbrev pub page_said : List ℕ → Said
page_said ns =
    elim (eqb (length ns) 2) [
      | true ↦ page (get_or ns 0 0) (get_or ns 1 0) (get_or ns 1 0)
      | false ↦
          elim (eqb (length ns) 3) [ true ↦ page (get_or ns 0 0) (get_or ns 1 0) (get_or ns 2 0) | false ↦ wrong ]
    ]

-- `tick N`: "a box is ticked from N black pixels on"; `doubt N`: with N or more, and fewer than the tick's, it is in doubt
abbrev pub one_said : (ℕ → Said) → List ℕ → Said
one_said said ns = elim (eqb (length ns) 1) [ true ↦ said (get_or ns 0 0) | false ↦ wrong ]

-- `black LEFT RIGHT TOP BOTTOM N`, `white ..`: "a place on the form that must have at least, at most N black pixels"
abbrev pub place_said : ℕ → List ℕ → Said
place_said kind ns = elim (eqb (length ns) 5) [ true ↦ place kind (box_in ns 0) (get_or ns 4 0) | false ↦ wrong ]

-- `proper`, and no number: a page is to be, to the last bit, what a writer of T.6 or T.4 writes for its rows
abbrev pub proper_said : List ℕ → Said
proper_said ns = elim (eqb (length ns) 0) [ true ↦ proper | false ↦ wrong ]

-- `shift ACROSS DOWN`: how far the form may lie from its place, to either side, and up or down
abbrev pub shift_said : List ℕ → Said
shift_said ns = elim (eqb (length ns) 2) [ true ↦ shift (get_or ns 0 0) (get_or ns 1 0) | false ↦ wrong ]

abbrev pub white_kind : ℕ
white_kind = 0

abbrev pub black_kind : ℕ
black_kind = 1

unfoldable pub by_word : List ℕ → List ℕ → Said
by_word word ns =
    elim (same word (ascii "tens")) [
      | true ↦ box_said 0 ns
      | false ↦
          elim (same word (ascii "units")) [
            | true ↦ box_said 1 ns
            | false ↦
                elim (same word (ascii "page")) [
                  | true ↦ page_said ns
                  | false ↦
                      elim (same word (ascii "tick")) [
                        | true ↦ one_said tick ns
                        | false ↦
                            elim (same word (ascii "doubt")) [
                              | true ↦ one_said doubt ns
                              | false ↦
                                  elim (same word (ascii "black")) [
                                    | true ↦ place_said black_kind ns
                                    | false ↦
                                        elim (same word (ascii "white")) [
                                          | true ↦ place_said white_kind ns
                                          | false ↦
                                              elim (same word (ascii "proper")) [
                                                | true ↦ proper_said ns
                                                | false ↦ elim (same word (ascii "shift")) [ true ↦ shift_said ns | false ↦ wrong ]
                                              ]
                                        ]
                                  ]
                            ]
                      ]
                ]
          ]
    ]

-- A line of no words says nothing. Each number is one that 32 bits hold.
unfoldable pub line_says : List (List ℕ) → Said
line_says [] = nothing
line_says (word ∷ ws) = elim (all (λ n. ltb n none) (values_of ws)) [ true ↦ by_word word (values_of ws) | false ↦ wrong ]
