-- A row at a time (02, A1; 01 "Where a later request calls a form in steps"). A call reads one row into one of two lent line arrays, under the row
-- that the call before it left in the other, and hands its state back. That called to the end it gives what the page form gives is proved
-- (proofs/FormsAgree.antt, `forms-agree`).
use Rattle.std.specs.Prelude.{Bool, true, false, cond, ◌&&◌, List, [], ◌∷◌, ◌++◌, ℕ, suc, ◌+◌, ◌*◌, ◌≤◌, eqb, leb, ltb, length, take}
use Rattle.rules.specs.Answers.{complete, bad_width, too_long, bad_rows, too_few_rows, more_to_come}
use Rattle.rules.specs.Machine.{Out, more, done}
use Rattle.rules.specs.Bits.{bits_of}
use Rattle.rules.specs.Rows.{Settings, State, RowOut, row, stop}
use Rattle.rules.specs.Pages.{Answer, entries, row_of, strict_if_exact, too_few, most_bytes, is_too_wide, ascends, overlaid}
use Rattle.rules.specs.InSteps.{Said, says, says_only, most_counted}

-- ---- The lent arrays

pub data Side : Type 0 where
  first second : Side

abbrev pub other : Side → Side
other first = second
other second = first

pub record Arrays : Type 0 where
  pub first : List ℕ
  pub second : List ℕ

abbrev pub array_at : Side → Arrays → List ℕ
array_at first xs = xs.first
array_at second xs = xs.second

-- changes that go to the front of one of them: "Every later entry keeps its value."
abbrev pub written : Side → List ℕ → Arrays → Arrays
written first r xs = record { first = overlaid r xs.first; second = xs.second }
written second r xs = record { first = xs.first; second = overlaid r xs.second }

-- ---- The state

-- the page goes on; or it has ended: the answer's number, the bit at fault, its bytes, and the count of its loose entries
pub data End : Type 0 where
  unended : End
  ended : ℕ → ℕ → ℕ → ℕ → End

-- The next bit, the rows given so far and the entries in them, whether EOLs are expected (Group 3 alone), the array that holds the reference and how
-- many changes it has there, and the end.
pub record RowState : Type 0 where
  pub at : ℕ
  pub rows : ℕ
  pub entries : ℕ
  pub eols : Bool
  pub side : Side
  pub held : ℕ
  pub end : End

-- before the first call, after which the first row lies in the first array
abbrev pub row_start : RowState
row_start = record { at = 0; rows = 0; entries = 0; eols = false; side = second; held = 0; end = unended }

module _ (p : RowState) (xs : Arrays) where
  -- the reference, which after a call that gave a row is that row
  abbrev pub reference_in : List ℕ
  reference_in = take p.held (array_at p.side xs)

  -- the state between two rows, as the page form has it
  abbrev pub between : State
  between = record { at = p.at; reference = reference_in; count = p.rows; eols = p.eols }

  -- the room of the next row: that of "the line array it goes to", which is the other one
  abbrev pub room_in : ℕ
  room_in = length (array_at (other p.side) xs)

-- ---- One call

-- what a call says, the state that it hands back, and the arrays after it
pub record RowStep : Type 0 where
  pub said : Said
  pub state : RowState
  pub arrays : Arrays

-- 15 and a row of this mark, which is among those counted
abbrev pub gives : ℕ → ℕ → ℕ → Said
gives mark rows entries = record { number = more_to_come; mark = mark; rows = rows; entries = entries; loose = 0; bytes = 0; place = 0 }

abbrev pub ended_with : RowState → ℕ → ℕ → ℕ → ℕ → RowState
ended_with p n place bytes loose =
    record { at = p.at; rows = p.rows; entries = p.entries; eols = p.eols; side = p.side; held = p.held; end = ended n place bytes loose }

-- The row is the next reference; or the page has ended, and the unfinished row's changes so far, the loose entries, lie where the row would.
abbrev pub after_row : RowState → Arrays → RowOut → RowStep
after_row p xs (row r mark next) = record {
  said = gives mark (suc p.rows) (p.entries + length r);
  state = record { at = next.at; rows = suc p.rows; entries = p.entries + length r; eols = next.eols; side = other p.side; held = length r; end = unended };
  arrays = written (other p.side) r xs;
}
after_row p xs (stop n place bytes loose) = record {
  said = says n place bytes p.rows p.entries (length loose);
  state = ended_with p n place bytes (length loose);
  arrays = written (other p.side) loose xs;
}

-- 8: "a bit past the data, .. a count past its array or past 8 × bytes + 1, or a reference .. not strictly ascending below the width". No state that a
-- call handed back is refused so (proofs/ByRow.antt, `own-sound`).
unfoldable pub sound : Settings → List ℕ → RowState → Arrays → Bool
sound S bytes p xs =
    leb p.at (8 * length bytes)
    && (leb p.held (length (array_at p.side xs))
    && (leb p.held (most_counted bytes)
    && (leb p.rows (most_counted bytes) && (leb p.entries (most_counted bytes) && ascends S.columns (reference_in p xs)))))

module _ (S : Settings) (bytes : List ℕ) (p : RowState) (xs : Arrays) where
  -- everything stays as found
  abbrev pub leaves : Said → RowStep
  leaves s = record { said = s; state = p; arrays = xs }

  -- a refusal does not end the page
  abbrev pub refuses : ℕ → RowStep
  refuses n = leaves (says_only n)

  -- "Columns 0, once the tests that apply are passed, gives 0, no rows, 0 bytes", and that is the page's end
  abbrev pub no_columns : RowStep
  no_columns = record {
    said = says_only complete;
    state = record { at = p.at; rows = 0; entries = 0; eols = p.eols; side = p.side; held = p.held; end = ended 0 0 0 0 };
    arrays = xs;
  }

  -- the page's end is 14 where the rows given are too few (A12)
  abbrev pub unless_few : RowOut → RowOut
  unless_few (row r mark next) = row r mark next
  unless_few (stop n place b loose) = cond (too_few S n p.rows) (stop too_few_rows 0 0 loose) (stop n place b loose)

  -- what the next row does, read as the page form reads it
  abbrev pub row_here : RowOut
  row_here = row_of S.encoding (strict_if_exact S) (bits_of bytes) (room_in p xs) (between p xs)

  abbrev pub next_row : RowStep
  next_row = after_row p xs (unless_few row_here)

  -- 6, 7 and 8 in this order
  unfoldable pub tested : RowStep
  tested =
      elim (is_too_wide S.columns) [
        | true ↦ refuses bad_width
        | false ↦ elim (ltb most_bytes (length bytes)) [
          | true ↦ refuses too_long
          | false ↦ elim (sound S bytes p xs) [
            | false ↦ refuses bad_rows
            | true ↦ elim (eqb S.columns 0) [ true ↦ no_columns | false ↦ next_row ]
          ]
        ]
      ]

  -- "Once the page has ended, a call repeats that answer before tests 6 to 8 and writes nothing."
  abbrev pub unless_ended : End → RowStep
  unless_ended unended = tested
  unless_ended (ended n place b loose) = leaves (says n place b p.rows p.entries loose)

  unfoldable pub read_row : RowStep
  read_row = unless_ended p.end

-- ---- Calls to the end, by a caller who hands state and arrays back as left

-- between two calls: the state and the arrays, and the rows that were given, with their marks
pub record Caller : Type 0 where
  pub state : RowState
  pub arrays : Arrays
  pub rows : List (List ℕ)
  pub marks : List ℕ

abbrev pub caller_with : Arrays → Caller
caller_with xs = record { state = row_start; arrays = xs; rows = []; marks = [] }

-- what the last call said, the rows that were given before it, with their marks, and the loose entries that it left
pub record Over : Type 0 where
  pub said : Said
  pub rows : List (List ℕ)
  pub marks : List ℕ
  pub loose : List ℕ

-- a row was given where 15 was said
abbrev pub does_go_on : Caller → RowStep → Bool → Out Caller Over
does_go_on c d true = more (record {
  state = d.state;
  arrays = d.arrays;
  rows = c.rows ++ reference_in d.state d.arrays ∷ [];
  marks = c.marks ++ d.said.mark ∷ [];
})
does_go_on c d false = done (record {
  said = d.said;
  rows = c.rows;
  marks = c.marks;
  loose = take d.said.loose (array_at (other d.state.side) d.arrays);
})

unfoldable pub call_step : Settings → List ℕ → Caller → Out Caller Over
call_step S bytes c =
    let d = read_row S bytes c.state c.arrays in
    does_go_on c d (eqb d.said.number more_to_come)

-- a page's answer, as the row form gives it
abbrev pub over_of : Answer → Over
over_of a = record {
  said = says a.number a.place a.bytes (length a.rows) (entries a.rows) (length a.loose);
  rows = a.rows;
  marks = a.marks;
  loose = a.loose;
}

-- rows and then the loose one, into arrays that take turns: the next has room for m changes, the other for n
unfoldable pub FitIn : ℕ → ℕ → List (List ℕ) → List ℕ → Type 0
FitIn m n [] loose = length loose ≤ m
FitIn m n (r ∷ rs) loose = (length r ≤ m) × FitIn n m rs loose
