-- What listing a page asks, and what it leaves in the lent array.
use Rattle.std.specs.Prelude.{◌≡◌, true, List, ℕ, ◌+◌, ◌*◌, ◌≤◌, length, take}
use Rattle.rules.specs.Pages.{overlaid}
use Rattle.rules.specs.Write.{rows_in, ends_rise}
use Rattle.answer.specs.declared.Answer.{Answer}
use Rattle.listing_text.specs.Sheet.{listing_text}

-- row ends that neither fall nor pass the store
abbrev pub Rising : List ℕ → List ℕ → Type 0
Rising changes ends = ends_rise (length changes) 0 ends ≡ true

-- the rows that an answer keeps in a store
abbrev pub rows_kept : Answer → List ℕ → List ℕ → List (List ℕ)
rows_kept answer changes ends = rows_in 0 changes (take answer.rows ends)

-- Room for all lines, each number at its longest: 19 bytes for the columns, 50 for a row with its mark and 11 for each of its changes, 58 for the stop
pub record Listing (out : List ℕ) (answer : Answer) (changes ends marks : List ℕ) : Type 0 where
  pub placed : answer.rows ≤ length ends
  pub marked : answer.rows ≤ length marks
  pub rising : Rising changes (take answer.rows ends)
  pub room : 77 + 50 * answer.rows + 11 * length changes ≤ length out

-- the listing of an answer whose rows a store keeps
abbrev pub listing_of : ℕ → Answer → List ℕ → List ℕ → List ℕ → List ℕ
listing_of columns answer changes ends marks = listing_text columns answer.number (rows_kept answer changes ends) (take answer.rows marks) answer.bytes

-- a text at the front of the lent array, and its length
pub record Prints (before text : List ℕ) (r : ℕ) (after : List ℕ) : Type 0 where
  pub count : r ≡ length text
  pub array : after ≡ overlaid text before
