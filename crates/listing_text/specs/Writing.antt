-- Text that is written to a lent array from a place on.
use Rattle.std.specs.Prelude.{◌≡◌, List, ◌++◌, ℕ, ◌+◌, ◌≤◌, length, take, drop}
use Rattle.rules.specs.Pages.{overlaid}

-- "Every later entry keeps its value", and so does every earlier one
unfoldable pub written_to : ℕ → List ℕ → List ℕ → List ℕ
written_to at text array = take at array ++ overlaid text (drop at array)

pub record Room (array : List ℕ) (at : ℕ) (text : List ℕ) : Type 0 where
  pub fits : at + length text ≤ length array

pub record Puts (before : List ℕ) (at : ℕ) (text : List ℕ) (next : ℕ) (after : List ℕ) : Type 0 where
  pub place : next ≡ at + length text
  pub array : after ≡ written_to at text before
