-- A place between two rows of a store that passed its test: what holds there. It serves any loop over a page's rows. Assumes nothing.
use mathlib.Core.Path.{◌≡◌}
use mathlib.Core.Bool.{true}
use mathlib.Core.List.{List}
use Prim.Native.Nat.{ℕ, ◌+◌, ◌≤◌, ◌<◌}
use native.Mathlib.Omega.{arith}
use lib.ListN.{length, get_or, drop}
use Rattle.rules.specs.Rising.{Rising, none}
use Rattle.row_store.specs.Store.{good_rows}
use Rattle.row_store.proofs.GoodRows.{row_to, Good, good}

-- the rows from the k-th on are left, under the row from `from` to `base`
pub record AtRow (width : ℕ) (changes ends : List ℕ) (from base k : ℕ) : Type 0 where
  pub order : from ≤ base
  pub within : base ≤ length changes
  pub rest : good_rows width changes base (drop k ends) ≡ true
  pub rises : Rising width 0 (row_to changes from base)

-- before the first, under a white row
pub first-row : {width : ℕ} {changes ends : List ℕ} → good_rows width changes 0 ends ≡ true → AtRow width changes ends 0 0 0
first-row e = record { order = omega arith; within = omega arith; rest = e; rises = none }

module _ {width : ℕ} {changes ends : List ℕ} {from base k : ℕ} (a : AtRow width changes ends from base k) (h : k < length ends) where
  -- the row passed the test
  pub tested : Good width changes base ends k h
  tested = good width changes base ends k h a.rest

  -- and behind it
  pub next_row : AtRow width changes ends base (get_or ends k 0) (k + 1)
  next_row = record { order = tested.low; within = tested.high; rest = tested.rest; rises = tested.rises }
