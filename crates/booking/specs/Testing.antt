-- What the functions below `on_page` answer: the names of Tests.antt, each by what it looks at alone.
use Rattle.std.specs.Prelude.{Bool, true, false, not, ◌&&◌, ◌≡◌, List, [], ℕ, ◌+◌, ◌*◌, eqb, leb, ltb, pos, length}
use Rattle.rules.specs.Answers.{complete}
use Rattle.settings.specs.declared.EncodingMode.{EncodingMode}
use Rattle.settings.specs.declared.EncodingMode.TheVariants.{Group4}
use Rattle.heads.specs.Form.{Page, page_in, black_in, clean_under, heads_on}
use Rattle.heads.specs.Numbers.{form_in}
use Rattle.heads.specs.declared.Box.{Box}
use Rattle.form_file.specs.First.{first_of}
use Rattle.form_file.specs.Heard.{form_of, no_form}
use Rattle.form_file.specs.FormFile.{box_at, place_at}
use Rattle.form_file.specs.declared.Form.{Form}
use Rattle.ledger.specs.Verdicts.{in_doubt}
use Rattle.booking.specs.declared.Finding.{Finding}
use Rattle.booking.specs.Tests as Tests
use Rattle.booking.specs.Tests.{finding, counted_as}

-- a page of which nothing is looked at
abbrev empty_page : Page
empty_page = page_in 0 [] []

-- a row that is not clean
abbrev pub unclean_at : List ℕ → ℕ → Bool
unclean_at marks = Tests.unclean no_form [] [] Group4 empty_page marks

-- a box, and a place, that touch one, on a page of as many rows as there are marks
abbrev pub box_touches : ℕ → List ℕ → List ℕ → ℕ → Bool
box_touches columns marks boxes k = not (clean_under columns (length marks) marks (box_at boxes k))

abbrev pub place_touches : ℕ → List ℕ → List ℕ → ℕ → Bool
place_touches columns marks places k = not (clean_under columns (length marks) marks (place_at places k))

-- a row above another that is not clean
abbrev pub unclean_above : List ℕ → ℕ → ℕ → Bool
unclean_above marks low y = ltb y low && unclean_at marks y

-- a page that is so wide, and that has a row for each mark
abbrev pub Sized : ℕ → List ℕ → Page → Type 0
Sized columns marks page = (page.columns ≡ columns) × (length page.rows ≡ length marks)

-- what is told of a row that is not clean under a box
abbrev pub mended_on : Page → List ℕ → List ℕ → Finding
mended_on page boxes marks = Tests.mended no_form boxes [] Group4 page marks

-- a place that has the black pixels that it must have, one that has not
abbrev pub holds_at : Page → List ℕ → ℕ → Bool
holds_at page places = Tests.place_holds no_form [] places Group4 page []

abbrev pub fails_at : Page → List ℕ → ℕ → Bool
fails_at page places k = not (holds_at page places k)

-- and what is told of one that has not
abbrev pub wrong_for : Page → List ℕ → ℕ → Finding
wrong_for page places = Tests.wrong_at no_form [] places Group4 page []

-- a box that is in doubt
abbrev pub doubts_in : Page → ℕ → ℕ → Box → Bool
doubts_in page doubt tick b = leb doubt (black_in page b) && ltb (black_in page b) tick

abbrev pub doubts_at : Page → ℕ → ℕ → List ℕ → ℕ → Bool
doubts_at page doubt tick boxes k = doubts_in page doubt tick (box_at boxes k)

-- the first of them
abbrev pub in_doubt_of : Form → List ℕ → Page → ℕ
in_doubt_of form boxes page = first_of (doubts_at page form.doubt form.tick boxes) 20 0

-- the ticks of a column, and what is told where they are not one in each
abbrev pub ticked_at : Page → List ℕ → ℕ → ℕ → ℕ → Bool
ticked_at page boxes tick column d = leb tick (black_in page (box_at boxes (2 * d + column)))

abbrev pub ticks_of : Page → List ℕ → ℕ → ℕ → ℕ
ticks_of page boxes tick = Tests.ticks_in (form_of 0 0 0 tick 0 0 false 0 0) boxes [] Group4 page []

abbrev pub not_one_of : Page → List ℕ → ℕ → Finding
not_one_of page boxes tick = Tests.not_one (form_of 0 0 0 tick 0 0 false 0 0) boxes [] Group4 page []

-- what is found where the rows are clean, by A11's number and heads
unfoldable pub standing : Form → List ℕ → List ℕ → Page → ℕ → ℕ → Finding
standing form boxes places page said heads =
    elim (eqb (first_of (fails_at page places) form.places 0) form.places) [
      | false ↦ wrong_for page places (first_of (fails_at page places) form.places 0)
      | true ↦
          elim (eqb (in_doubt_of form boxes page) 20) [
            | false ↦ finding in_doubt (in_doubt_of form boxes page) 0 0 (black_in page (box_at boxes (in_doubt_of form boxes page))) form.doubt form.tick
            | true ↦ elim (eqb said complete) [ false ↦ not_one_of page boxes form.tick | true ↦ counted_as heads ]
          ]
    ]

-- what is found where the boxes and the places are there
abbrev pub tested_on : Form → List ℕ → List ℕ → EncodingMode → Page → List ℕ → Finding
tested_on form boxes places encoding page marks =
    Tests.tested form boxes places encoding page marks (heads_on page marks (form_in boxes) form.tick (pos 0))
