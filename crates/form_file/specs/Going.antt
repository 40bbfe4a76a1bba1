-- The steps of a reading that contracts of inner functions speak of: what the lent arrays hold between two lines.
use Rattle.std.specs.Prelude.{◌≡◌, Result, Ok, Err, Bool, ◌&&◌, List, ℕ, ◌*◌, ◌≤◌, leb, length, take, drop}
use Rattle.heads.specs.declared.Box.{Box}
use Rattle.rules.specs.Pages.{overlaid}
use Rattle.listing_text.specs.Lines.{lines_of}
use Rattle.form_file.specs.Heard.{Heard, no_form, heard, on, fault}
use Rattle.form_file.specs.FormFile.{Read, hearing, places_for}
use Rattle.form_file.specs.declared.Form.{Form}
use Rattle.form_file.specs.declared.Formed.{Formed}
use Rattle.form_file.specs.declared.heard.Fault.{Fault}
use Rattle.form_file.specs.declared.said.Said.{Said}
use Rattle.form_file.specs.declared.said.Said.TheVariants.{Nothing as nothing, Square as box, Page as page, Tick as tick, Doubt as doubt, Place as place, Proper as proper, Shift as shift, Wrong as wrong}

-- what was heard, where a form's places are the first of those that are lent
abbrev pub heard_in : Form → List ℕ → List ℕ → List ℕ → Heard
heard_in f boxes lines places = record { form = f; boxes = boxes; lines = lines; places = take (7 * f.places) places }

-- a box inside so many columns and rows
abbrev pub within : ℕ → ℕ → Box → Bool
within columns least b = leb b.right columns && leb b.bottom least

-- what is lent has room: eighty numbers for the boxes, twenty for their lines, seven for each place
pub record Roomy (boxes lines places : List ℕ) (count : ℕ) : Type 0 where
  pub boxes_long : length boxes ≡ 80
  pub lines_long : length lines ≡ 20
  pub places_long : 7 * count ≤ length places

-- ---- One line more

-- how the arrays are lent while lines are heard: with room for so many places, of which no more are taken
pub record Lent (room : ℕ) (f : Form) (boxes lines places : List ℕ) : Type 0 where
  pub boxes_long : length boxes ≡ 80
  pub lines_long : length lines ≡ 20
  pub places_long : 7 * room ≤ length places
  pub small : room ≤ 256
  pub fits : f.places ≤ room

-- the number of the box that a line says
abbrev pub box_of : Said → ℕ
box_of nothing = 0
box_of (box which b) = which
box_of (page columns least most) = 0
box_of (tick n) = 0
box_of (doubt n) = 0
box_of (place kind b n) = 0
box_of proper = 0
box_of (shift across down) = 0
box_of wrong = 0

-- a line that is sound: the arrays hold what is heard then, and behind the places each entry keeps its value
pub record Onward (room line : ℕ) (f : Form) (said : Said) (boxes lines places : List ℕ) (f' : Form) (boxes' lines' places' : List ℕ) : Type 0 where
  pub is : heard room line (heard_in f boxes lines places) said ≡ on (heard_in f' boxes' lines' places')
  pub more : f.places ≤ f'.places
  pub fits : f'.places ≤ room
  pub behind : drop (7 * f'.places) places' ≡ drop (7 * f'.places) places

-- a line at fault: the boxes and the places are as they were
pub record Stopped (room line : ℕ) (f : Form) (said : Said) (boxes lines places : List ℕ) (number which : ℕ) (boxes' places' : List ℕ) : Type 0 where
  pub is : heard room line (heard_in f boxes lines places) said ≡ fault number which
  pub boxes_same : boxes' ≡ boxes
  pub places_same : places' ≡ places

abbrev pub Gone : ℕ → ℕ → Form → Said → List ℕ → List ℕ → List ℕ → Result Form Fault → List ℕ → List ℕ → List ℕ → Type 0
Gone room line f said boxes lines places (Ok f') boxes' lines' places' = Onward room line f said boxes lines places f' boxes' lines' places'
Gone room line f said boxes lines places (Err e) boxes' lines' places' = Stopped room line f said boxes lines places e.number e.which boxes' places'

-- a line that changes nothing but the form; the boxes; the places
abbrev pub FormGoes : Form → Said → Result Form Fault → Type 0
FormGoes f said went = (room line : ℕ) (boxes lines places : List ℕ) → f.places ≤ room → Gone room line f said boxes lines places went boxes lines places

abbrev pub BoxGoes : ℕ → Form → Said → List ℕ → List ℕ → Result Form Fault → List ℕ → List ℕ → Type 0
BoxGoes line f said boxes lines went boxes' lines' = (room : ℕ) (places : List ℕ) → f.places ≤ room → Gone room line f said boxes lines places went boxes' lines' places

abbrev pub PlaceGoes : ℕ → ℕ → Form → Said → List ℕ → Result Form Fault → List ℕ → Type 0
PlaceGoes room line f said places went places' = (boxes lines : List ℕ) → f.places ≤ room → Gone room line f said boxes lines places went boxes lines places'

-- ---- The lines, one behind the other

-- what a reading tells, and leaves in what was lent
pub record Leaves (read : Read) (lent : List ℕ) (r : Formed) (boxes' places' : List ℕ) : Type 0 where
  pub formed : r ≡ read.formed
  pub boxes_are : boxes' ≡ read.boxes
  pub places_are : places' ≡ overlaid read.places lent

-- a text from a place on, where nothing was heard
abbrev pub heard_from : List ℕ → ℕ → List ℕ → List ℕ → List ℕ → Read
heard_from text from boxes lines lent = hearing (places_for (length lent)) 1 (heard_in no_form boxes lines lent) (lines_of (drop from text))

-- what `hear` is lent
pub record Hearable (text : List ℕ) (from : ℕ) (boxes lines : List ℕ) : Type 0 where
  pub inside : from ≤ length text
  pub short : length text ≤ 65536
  pub boxes_long : length boxes ≡ 80
  pub lines_long : length lines ≡ 20
