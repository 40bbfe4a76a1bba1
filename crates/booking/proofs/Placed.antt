-- What is told of a place, of a box in doubt, and of a column that has not one tick. Assumes nothing.
use mathlib.Core.Path.{◌≡◌, sym}
use mathlib.Core.Bool.{true, false}
use mathlib.Core.List.{List}
use Prim.Native.Nat.{ℕ, ◌+◌, ◌*◌, ◌≤◌, ◌<◌}
use lib.Dec.{leb, ltb}
use lib.ListN.{get_or}
use borrow.Author.Tests.{eq-eqb, ne_eqb, lt-leb, le-leb}
use Rattle.rules.specs.Answers.{not_one_tick}
use Rattle.heads.specs.Form.{Page, black_in}
use Rattle.heads.specs.declared.Box.{Box}
use Rattle.form_file.specs.FormFile.{box_at, place_at}
use Rattle.ledger.specs.Verdicts.{not_black, not_white}
use Rattle.booking.specs.Tests.{finding, place_holds, wrong_at, not_one}
use Rattle.booking.specs.Testing.{holds_at, wrong_for, doubts_in, ticked_at, ticks_of, not_one_of}

-- ---- A place, by the black pixels in its box

module _ (page : Page) (places : List ℕ) (k : ℕ) {count : ℕ} {b : Box} (e : count ≡ black_in page b) (p : b ≡ place_at places k) where
  abbrev kind : ℕ
  kind = get_or places (7 * k) 0

  abbrev asked : ℕ
  asked = get_or places (7 * k + 5) 0

  abbrev line : ℕ
  line = get_or places (7 * k + 6) 0

  module _ (h : kind ≡ 1) where
    pub black-holds : leb asked count ≡ holds_at page places k
    black-holds = rw (e, p, holds_at, place_holds, eq-eqb kind 1 h)

    pub black-wrong : finding not_black 0 line 0 count asked 0 ≡ wrong_for page places k
    unfolding wrong_at
    black-wrong = rw (e, p, wrong_at, eq-eqb kind 1 h)

  module _ (h : kind ≡ 1 → ⊥) where
    pub white-holds : leb count asked ≡ holds_at page places k
    white-holds = rw (e, p, holds_at, place_holds, ne_eqb kind 1 h)

    pub white-wrong : finding not_white 0 line 0 count 0 asked ≡ wrong_for page places k
    unfolding wrong_at
    white-wrong = rw (e, p, wrong_at, ne_eqb kind 1 h)

-- ---- A box, by its black pixels

module _ (page : Page) (doubt tick : ℕ) (b : Box) {count : ℕ} (e : count ≡ black_in page b) where
  pub doubts-few : count < doubt → false ≡ doubts_in page doubt tick b
  doubts-few h = sym (rw (← e, lt-leb doubt count h))

  pub doubts-some : doubt ≤ count → ltb count tick ≡ doubts_in page doubt tick b
  doubts-some h = sym (rw (← e, le-leb doubt count h))

module _ (page : Page) (boxes : List ℕ) (tick column d : ℕ) {count : ℕ} {b : Box} (e : count ≡ black_in page b) (p : b ≡ box_at boxes (2 * d + column)) where
  pub ticked : tick ≤ count → ticked_at page boxes tick column d ≡ true
  ticked h = rw (← p, ← e) (le-leb tick count h)

  pub unticked : count < tick → ticked_at page boxes tick column d ≡ false
  unticked h = rw (← p, ← e) (lt-leb tick count h)

-- ---- A column, by its ticks

module _ (page : Page) (boxes : List ℕ) (tick : ℕ) {tens : ℕ} (e : tens ≡ ticks_of page boxes tick 0) where
  pub not-one-tens : (tens ≡ 1 → ⊥) → finding not_one_tick 0 0 0 tens 1 1 ≡ not_one_of page boxes tick
  unfolding not_one
  not-one-tens h = sym (rw (not_one, ← e, ne_eqb tens 1 h, ← e))

  pub not-one-units : tens ≡ 1 → {units : ℕ} → units ≡ ticks_of page boxes tick 1 → finding not_one_tick 1 0 0 units 1 1 ≡ not_one_of page boxes tick
  unfolding not_one
  not-one-units h f = sym (rw (not_one, ← e, eq-eqb tens 1 h, ← f))
