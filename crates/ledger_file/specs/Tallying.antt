-- What the functions that add up ledgers find on their way.
use Rattle.std.specs.Prelude.{◌≡◌, Result, Ok, Err, List, ℕ, ◌+◌, ◌≤◌, ◌<◌, length, get_or, take, drop}
use Rattle.ledger.specs.declared.Ledger.{Ledger}
use Rattle.ledger_file.specs.Sums.{Sum, Went, on, wrong, Added, name_at}
use Rattle.ledger_file.specs.declared.AddedUp.{AddedUp}
use Rattle.ledger_file.specs.declared.tally.Tally.{Tally}
use Rattle.ledger_file.specs.declared.tally.Wrong.{Wrong}

-- a tab ends the name with which the line at a place begins
pub record Tabbed (text : List ℕ) (at : ℕ) : Type 0 where
  pub inside : at + length (name_at text at) < length text
  pub tab-is : get_or text (at + length (name_at text at)) 0 ≡ 9

-- the first entries of a lent array are where the pages' lines begin
abbrev pub sum_in : Tally → List ℕ → Sum
sum_in t starts = record { books = t.books; closed = t.closed; starts = take t.books.pages starts }

pub record Standing (text : List ℕ) (pages : ℕ) (starts : List ℕ) : Type 0 where
  pub fits : pages ≤ length starts
  pub tabbed : (k : ℕ) → k < pages → Tabbed text (get_or starts k 0)

-- a line that is sound: the array holds where its pages begin then, and behind them each entry keeps its value
pub record Onward (text : List ℕ) (w : Went) (pages : ℕ) (starts : List ℕ) (t' : Tally) (starts' : List ℕ) : Type 0 where
  pub is : w ≡ on (sum_in t' starts')
  pub more : pages ≤ t'.books.pages
  pub behind : drop t'.books.pages starts' ≡ drop t'.books.pages starts
  pub stands : Standing text t'.books.pages starts'

-- one that is not: the array is as it was
pub record Stopped (w : Went) (starts : List ℕ) (number other : ℕ) (starts' : List ℕ) : Type 0 where
  pub is : w ≡ wrong number other
  pub same : starts' ≡ starts

abbrev pub Gone : List ℕ → Went → ℕ → List ℕ → Result Tally Wrong → List ℕ → Type 0
Gone text w pages starts (Ok t') starts' = Onward text w pages starts t' starts'
Gone text w pages starts (Err e) starts' = Stopped w starts e.number e.other starts'

abbrev pub told : ℕ → Ledger → ℕ → ℕ → AddedUp
told number books at other = record { number = number; ledger = books; at = at; other = other }

-- an answer that tells what was added
pub record Tells (read : Added) (r : AddedUp) : Type 0 where
  pub number : r.number ≡ read.number
  pub at : r.at ≡ read.at
  pub other : r.other ≡ read.other
  pub books : r.ledger ≡ read.sum.books
