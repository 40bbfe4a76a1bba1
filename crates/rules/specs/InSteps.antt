-- What the forms in steps share (01 "Where a later request calls a form in steps"): what a call says, and the limit of a state's counts.
use Rattle.std.specs.Prelude.{List, ℕ, ◌+◌, ◌*◌, length}

-- A call's answer: its number, the mark of the row that it gives (A5; 0 where it gives none), the rows so far, the entries in them, the loose entries, its
-- bytes, and the bit at fault.
pub record Said : Type 0 where
  pub number : ℕ
  pub mark : ℕ
  pub rows : ℕ
  pub entries : ℕ
  pub loose : ℕ
  pub bytes : ℕ
  pub place : ℕ

-- number, place and bytes, then rows, entries and loose entries; and no row is given
abbrev pub says : ℕ → ℕ → ℕ → ℕ → ℕ → ℕ → Said
says n place bytes rows entries loose = record { number = n; mark = 0; rows = rows; entries = entries; loose = loose; bytes = bytes; place = place }

-- "Later numbers give zero counts", as refusals do.
abbrev pub says_only : ℕ → Said
says_only n = says n 0 0 0 0 0

-- 8: "a count past its array or past 8 × bytes + 1"
abbrev pub most_counted : List ℕ → ℕ
most_counted bytes = 8 * length bytes + 1
