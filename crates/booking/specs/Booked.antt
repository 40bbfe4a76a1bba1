-- From the form's text and the page's bytes to the verdict; and to the books behind it, and the line that is read.
use Rattle.std.specs.Prelude.{◌≡◌, Bool, true, false, List, ℕ, eqb, length}
use Rattle.rules.specs.Pages as Page
use Rattle.rules.specs.Pages.{overlaid, changes_after, ends_after, marks_after}
use Rattle.settings.specs.declared.DecodeSettings.{DecodeSettings}
use Rattle.form_file.specs.FormFile as Form
use Rattle.form_file.specs.FormFile.{read_form}
use Rattle.form_file.specs.declared.Formed.{Formed}
use Rattle.ledger.specs.Entered.{entry_line, books_after}
use Rattle.ledger.specs.declared.Ledger.{Ledger}
use Rattle.ledger.specs.declared.Verdict.{Verdict}
use Rattle.booking.specs.Verdict.{read_as, reading_of, gave_up_in, verdict_on}
use Rattle.booking.specs.declared.Booked.{Booked}

-- ---- The verdict

-- what is wrong with the form comes before all else: no page is read by it
abbrev pub unsound : Formed → Verdict
unsound f = record { number = f.number; heads = 0; which = f.which; line = f.line; rows = 0; bytes = 0; place = 0; row = 0; count = 0; least = 0; most = 0 }

abbrev pub is_sound : Formed → Bool
is_sound f = eqb f.number 0

-- what is given: the form's text, the page's bytes, how it is read, and the settings; and the five arrays that are lent
pub record Given : Type 0 where
  pub text : List ℕ
  pub src : List ℕ
  pub how : ℕ
  pub settings : DecodeSettings
  pub boxes : List ℕ
  pub places : List ℕ
  pub changes : List ℕ
  pub ends : List ℕ
  pub marks : List ℕ

abbrev pub given : List ℕ → List ℕ → ℕ → DecodeSettings → List ℕ → List ℕ → List ℕ → List ℕ → List ℕ → Given
given text src how settings boxes places changes ends marks =
    record { text = text; src = src; how = how; settings = settings; boxes = boxes; places = places; changes = changes; ends = ends; marks = marks }

module _ (g : Given) where
  abbrev pub form_read : Form.Read
  form_read = read_form g.text g.boxes (length g.places)

  -- the arrays of the boxes and the places, behind the form's reading
  abbrev pub boxes_after : List ℕ
  boxes_after = form_read.boxes

  abbrev pub places_after : List ℕ
  places_after = overlaid form_read.places g.places

  abbrev pub page_settings : DecodeSettings
  page_settings = read_as g.how form_read.formed.form g.settings

  abbrev pub page_read : Page.Answer
  page_read = reading_of page_settings g.src g.changes g.ends g.marks

  abbrev pub page_gave_up : Bool
  page_gave_up = gave_up_in page_settings g.src g.changes g.ends g.marks

  unfoldable pub verdict_from : Verdict
  verdict_from =
      elim (is_sound form_read.formed) [
        | false ↦ unsound form_read.formed
        | true ↦ verdict_on form_read.formed.form boxes_after places_after page_settings g.src page_gave_up page_read
      ]

  -- an array that the page is read into: by a form that is not sound none is, and it stays as it was
  abbrev pub if_sound : List ℕ → List ℕ → List ℕ
  if_sound after before = elim (is_sound form_read.formed) [ true ↦ after | false ↦ before ]

-- the verdict, and the arrays behind it
pub record Finds (g : Given) (r : Verdict) (boxes places changes ends marks : List ℕ) : Type 0 where
  pub verdict : r ≡ verdict_from g
  pub boxes_are : boxes ≡ boxes_after g
  pub places_are : places ≡ places_after g
  pub changes_are : changes ≡ if_sound g (changes_after (page_read g) g.changes) g.changes
  pub ends_are : ends ≡ if_sound g (ends_after (page_read g) g.ends) g.ends
  pub marks_are : marks ≡ if_sound g (marks_after (page_read g) g.marks) g.marks

-- ---- The books and the line

-- the verdict, and the page entered into the books with its line
pub record Books (name : List ℕ) (b : Ledger) (g : Given) (out : List ℕ) (r : Booked) (boxes places changes ends marks out' : List ℕ) : Type 0 where
  pub found : Finds g r.verdict boxes places changes ends marks
  pub ledger : r.ledger ≡ books_after name b (verdict_from g) out
  pub length-is : r.text ≡ length (entry_line name b (verdict_from g) out)
  pub array : out' ≡ overlaid (entry_line name b (verdict_from g) out) out
