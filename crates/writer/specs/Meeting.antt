-- Bits that data is held against, from a bit on; and what is answered of a page (rules: Proper).
use Rattle.std.specs.Prelude.{◌≡◌, Bool, true, false, Result, Ok, Err, List, ℕ, ◌+◌, ◌≤◌, ◌<◌, length, drop}
use Rattle.rules.specs.Bits.{bits_of}
use Rattle.rules.specs.Lookup.{begins, shared}
use Rattle.rules.specs.Pages.{most_bytes}
use Rattle.rules.specs.Rising.{Rising}
use Rattle.rules.specs.Answers.{complete}
use Rattle.rules.specs.Proper.{padded, parts_at, parts_nowhere}
use Rattle.row_store.specs.Store.{good_rows}
use Rattle.writer.specs.declared.met.Unmet.{Unmet}
use Rattle.writer.specs.declared.Parting.{Parting}

-- how far data has some bits: the bit after them, or the first at which it parts; and whether it has them all
pub record Met : Type 0 where
  pub at : ℕ
  pub same : Bool

-- what a value of the source says
abbrev pub met_of : Result ℕ Unmet → Met
met_of (Ok n) = record { at = n; same = true }
met_of (Err u) = record { at = u.at; same = false }

-- r is the first bit at which the data parts from xs, or the bit after them; and whether the data has them all
pub record Meets (bytes : List ℕ) (at : ℕ) (xs : List Bool) (r : Met) : Type 0 where
  pub place : r.at ≡ at + shared xs (drop at (bits_of bytes))
  pub whole : r.same ≡ begins xs (drop at (bits_of bytes))

-- a row that stands under another, at a width
pub record Facing (width : ℕ) (above row : List ℕ) : Type 0 where
  pub wide : 0 < width
  pub narrow : width < 4294967295
  pub rises : Rising width 0 above
  pub rises' : Rising width 0 row

-- rows that data can be held against
pub record Facings (width : ℕ) (changes ends bytes : List ℕ) : Type 0 where
  pub wide : 0 < width
  pub narrow : width < 4294967295
  pub good : good_rows width changes 0 ends ≡ true
  pub small : length bytes ≤ most_bytes

-- what is answered of data and a page of these bits, with zeros to a byte
abbrev pub parting_from : List Bool → List ℕ → Parting
parting_from xs bytes = record { number = complete; same = parts_nowhere (padded xs) bytes; place = parts_at (padded xs) bytes }
