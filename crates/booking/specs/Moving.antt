-- What the functions that move a form and look for it ask for and answer: the names of Found.antt, each by the numbers that it looks at alone.
use Rattle.std.specs.Prelude.{◌≡◌, Bool, true, false, not, ◌&&◌, List, ℕ, ◌+◌, ◌*◌, ◌≤◌, ◌<◌, leb, length}
use Rattle.heads.specs.Form.{Page, page_in}
use Rattle.heads.specs.Steps.{Good, Sound}
use Rattle.heads.specs.declared.Box.{Box}
use Rattle.form_file.specs.FormFile.{box_at, place_at}
use Rattle.form_file.specs.declared.Form.{Form}
use Rattle.booking.specs.Found.{moved_places, box_inside, can_look_for, is_inside}
use Rattle.booking.specs.Testing.{holds_at}

-- ---- Edges

-- an edge that is, moved, a number of 32 bits
pub record Edged (x by back : ℕ) : Type 0 where
  pub low : back ≤ x + by
  pub high : x + by ≤ back + 4294967295

pub record Movable (across down u v : ℕ) (b : Box) : Type 0 where
  pub left : Edged b.left u across
  pub right : Edged b.right u across
  pub top : Edged b.top v down
  pub bottom : Edged b.bottom v down

-- the boxes, and so many places, each of which can be moved
pub record BoxesMovable (across down u v : ℕ) (boxes : List ℕ) : Type 0 where
  pub long : length boxes ≡ 80
  pub each : (k : ℕ) → k < 20 → Movable across down u v (box_at boxes k)

pub record PlacesMovable (across down u v count : ℕ) (places : List ℕ) : Type 0 where
  pub long : 7 * count ≤ length places
  pub each : (k : ℕ) → k < count → Movable across down u v (place_at places k)

-- two edges in order that lie, moved, between 0 and a last one
abbrev pub is_between : ℕ → ℕ → ℕ → ℕ → ℕ → Bool
is_between low high last by back = leb back (low + by) && (leb low high && leb (high + by) (last + back))

-- ---- Places

-- a place of so many that stands, on a page of so many rows, and one that does not
abbrev pub stands_by : ℕ → ℕ → ℕ → ℕ → ℕ → ℕ → Page → List ℕ → ℕ → Bool
stands_by rows count across down u v page places k =
    box_inside across down u v page.columns rows (place_at places k) && holds_at page (moved_places across down u v count places) k

abbrev pub fails_by : ℕ → ℕ → ℕ → ℕ → ℕ → ℕ → Page → List ℕ → ℕ → Bool
fails_by rows count across down u v page places k = not (stands_by rows count across down u v page places k)

-- as many as there are, or a limit
pub record Upto (limit total n : ℕ) : Type 0 where
  pub few : n ≤ total
  pub small : n ≤ limit
  pub all : n < limit → n ≡ total

-- ---- Offsets

-- a page of so many rows, a form whose boxes and places are there, and a shift that a form file may have
pub record Seekable (columns rows across count : ℕ) (changes ends boxes places : List ℕ) : Type 0 where
  pub good : Good columns changes ends
  pub rows_are : rows ≡ length ends
  pub near : across ≤ 1000
  pub boxed : length boxes ≡ 80
  pub placed : 7 * count ≤ length places
  pub few : count ≤ 256

-- how many fail, up to a limit, where the form lies inside the page; the limit, where it does not
pub record Failed (inside : Bool) (limit total n : ℕ) : Type 0 where
  pub outside : inside ≡ false → n ≡ limit
  pub within : inside ≡ true → Upto limit total n

-- a page in a store, and a form that can be looked for on it
pub record Looking (columns rows : ℕ) (changes ends marks : List ℕ) (form : Form) (boxes places : List ℕ) : Type 0 where
  pub sound : Sound columns changes ends marks
  pub marked : length marks ≡ length ends
  pub rows_are : rows ≡ length ends
  pub can : can_look_for form boxes places ≡ true

-- and one that lies inside it at an offset
pub record Lying (columns : ℕ) (changes ends marks : List ℕ) (form : Form) (boxes places : List ℕ) (i : ℕ) : Type 0 where
  pub sound : Sound columns changes ends marks
  pub marked : length marks ≡ length ends
  pub short : length ends ≤ 4294967295
  pub can : can_look_for form boxes places ≡ true
  pub inside : is_inside form.across form.down form.places boxes places (page_in columns changes ends) i ≡ true
