-- What an answer that a larger room gave becomes in a smaller one (01: 4 and 5).
use Rattle.std.specs.Prelude.{true, false, List, [], ◌∷◌, ◌++◌, ℕ, ◌-◌, leb, ltb, length, take}
use Rattle.rules.specs.Answers.{no_entry, no_row_end}
use Rattle.rules.specs.Pages.{Answer, entries}

-- an answer that a larger room gave
module _ (a : Answer) where
  -- an end behind its first rows, which keep their marks
  abbrev pub cut_behind : ℕ → List (List ℕ) → List ℕ → Answer
  cut_behind n kept loose = record { number = n; place = 0; bytes = 0; rows = kept; marks = take (length kept) a.marks; loose = loose }

  -- "4: a change is to be recorded and no entry is left"
  abbrev pub four : List (List ℕ) → List ℕ → Answer
  four = cut_behind no_entry

  -- "5: a row is complete and no row end is left", nor a place for its mark (A5)
  abbrev pub five : List (List ℕ) → List ℕ → Answer
  five = cut_behind no_row_end

-- that answer, in a store of so many change entries and places for so many row ends with their marks
module _ (store places : ℕ) (a : Answer) where
  -- Behind the rows kept so far come the rest of the answer's rows, and then its loose entries. What does not fit the entries left is 4, and its front that fits
  -- is loose; a row that fits where no place is left for its end with its mark is 5, and is loose; where everything fits, it is the answer itself.
  unfoldable pub within_from : List (List ℕ) → List (List ℕ) → Answer
  within_from kept [] =
      elim (leb (length a.loose) (store - entries kept)) [ true ↦ a | false ↦ four a kept (take (store - entries kept) a.loose) ]
  within_from kept (r ∷ rows) =
      elim (leb (length r) (store - entries kept)) [
        | false ↦ four a kept (take (store - entries kept) r)
        | true ↦ elim (ltb (length kept) places) [ false ↦ five a kept r | true ↦ within_from (kept ++ r ∷ []) rows ]
      ]

  abbrev pub within : Answer
  within = within_from [] a.rows
