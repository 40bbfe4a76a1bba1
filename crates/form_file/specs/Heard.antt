-- What the lines of a form file say together, up to the first that is at fault.
use Rattle.std.specs.Prelude.{Bool, true, false, ◌&&◌, List, [], ◌∷◌, ◌++◌, ℕ, suc, ◌+◌, ◌*◌, eqb, leb, ltb, get_or, set, replicate}
use Rattle.heads.specs.declared.Box.{Box}
use Rattle.ledger.specs.Verdicts.{no_form_line, said_twice, bad_numbers, too_many_places}
use Rattle.form_file.specs.declared.Form.{Form}
use Rattle.form_file.specs.declared.said.Said.{Said}
use Rattle.form_file.specs.declared.said.Said.TheVariants.{Nothing as nothing, Square as box, Page as page, Tick as tick, Doubt as doubt, Place as place, Proper as proper, Shift as shift, Wrong as wrong}

-- The numbers of a form, 0 until they are said, and whether it asks for proper pages; the four edges of each box, and the line at which it
-- stands, 0 where it stands at none; the places, with seven numbers for each: kind, edges, count and line.
pub record Heard : Type 0 where
  pub form : Form
  pub boxes : List ℕ
  pub lines : List ℕ
  pub places : List ℕ

abbrev pub form_of : ℕ → ℕ → ℕ → ℕ → ℕ → ℕ → Bool → ℕ → ℕ → Form
form_of columns least most ticked doubted places only-proper across down = record {
  columns = columns;
  least = least;
  most = most;
  tick = ticked;
  doubt = doubted;
  places = places;
  proper = only-proper;
  across = across;
  down = down;
}

-- a form that may lie aside of its place, or above or below it
abbrev pub is_shift : ℕ → ℕ → Bool
is_shift across down = ltb 0 (across + down)

abbrev pub has_shift : Form → Bool
has_shift f = is_shift f.across f.down

-- "Each at most 1,000"
abbrev pub most_shift : ℕ
most_shift = 1000

abbrev pub no_form : Form
no_form = form_of 0 0 0 0 0 0 false 0 0

-- before the first line: a box of which no line says anything keeps the numbers that were lent
abbrev pub unheard : List ℕ → Heard
unheard boxes = record { form = no_form; boxes = boxes; lines = replicate 20 0; places = [] }

abbrev pub with_form : Heard → Form → Heard
with_form h f = record { form = f; boxes = h.boxes; lines = h.lines; places = h.places }

-- a line that is sound, or at fault, with the fault's number and its box
pub data Went : Type 0 where
  on : Heard → Went
  fault : ℕ → ℕ → Went

-- "not empty, in order": the edges have at least one pixel between them
abbrev pub holds : Box → Bool
holds b = ltb b.left b.right && ltb b.top b.bottom

unfoldable pub set_four : List ℕ → ℕ → Box → List ℕ
set_four xs at b = set (set (set (set xs at b.left) (at + 1) b.right) (at + 2) b.top) (at + 3) b.bottom

abbrev pub place_numbers : ℕ → Box → ℕ → ℕ → List ℕ
place_numbers kind b n line = kind ∷ b.left ∷ b.right ∷ b.top ∷ b.bottom ∷ n ∷ line ∷ []

-- one line more, with its number, where there is room for so many places
abbrev pub heard : ℕ → ℕ → Heard → Said → Went
heard room line h nothing = on h
heard room line h wrong = fault no_form_line 0
-- "each box stands once"
heard room line h (box which b) =
    elim (eqb (get_or h.lines which 0) 0) [
      | false ↦ fault said_twice which
      | true ↦
          elim (holds b) [
            | false ↦ fault bad_numbers which
            | true ↦
                on (record { form = h.form; boxes = set_four h.boxes (4 * which) b; lines = set h.lines which line; places = h.places })
          ]
    ]
heard room line h (page columns least most) =
    elim (eqb h.form.columns 0) [
      | false ↦ fault said_twice 0
      | true ↦
          elim (ltb 0 columns && (ltb 0 least && leb least most)) [
            | false ↦ fault bad_numbers 0
            | true ↦ on (with_form h (form_of columns least most h.form.tick h.form.doubt h.form.places h.form.proper h.form.across h.form.down))
          ]
    ]
heard room line h (tick n) =
    elim (eqb h.form.tick 0) [
      | false ↦ fault said_twice 0
      | true ↦
          elim (ltb 0 n) [
            | false ↦ fault bad_numbers 0
            | true ↦ on (with_form h (form_of h.form.columns h.form.least h.form.most n h.form.doubt h.form.places h.form.proper h.form.across h.form.down))
          ]
    ]
heard room line h (doubt n) =
    elim (eqb h.form.doubt 0) [
      | false ↦ fault said_twice 0
      | true ↦
          elim (ltb 0 n) [
            | false ↦ fault bad_numbers 0
            | true ↦ on (with_form h (form_of h.form.columns h.form.least h.form.most h.form.tick n h.form.places h.form.proper h.form.across h.form.down))
          ]
    ]
heard room line h (place kind b n) =
    elim (ltb h.form.places room) [
      | false ↦ fault too_many_places 0
      | true ↦
          elim (holds b) [
            | false ↦ fault bad_numbers 0
            | true ↦
                on (record {
                  form = form_of h.form.columns h.form.least h.form.most h.form.tick h.form.doubt (suc h.form.places) h.form.proper h.form.across h.form.down;
                  boxes = h.boxes;
                  lines = h.lines;
                  places = h.places ++ place_numbers kind b n line;
                })
          ]
    ]
heard room line h proper =
    elim h.form.proper [
      | true ↦ fault said_twice 0
      | false ↦ on (with_form h (form_of h.form.columns h.form.least h.form.most h.form.tick h.form.doubt h.form.places true h.form.across h.form.down))
    ]
-- "at least one of them above 0"
heard room line h (shift across down) =
    elim (has_shift h.form) [
      | true ↦ fault said_twice 0
      | false ↦
          elim (is_shift across down && (leb across most_shift && leb down most_shift)) [
            | false ↦ fault bad_numbers 0
            | true ↦
                on (with_form h (form_of h.form.columns h.form.least h.form.most h.form.tick h.form.doubt h.form.places h.form.proper across down))
          ]
    ]
