-- Pinning the answers down, of the desk: text and its lines, the books, the form file, and the verdict on a page.
use Rattle.std.specs.Prelude.{◌≡◌, Bool, List, ℕ, ℤ}
use Rattle.settings.specs.declared.DecodeSettings.{DecodeSettings}
use Rattle.listing_text.specs.Lines.{LineTo}
use Rattle.listing_text.specs.Writing.{Puts}
use Rattle.ledger.specs.Entered.{Enters}
use Rattle.ledger.specs.Said.{Tells}
use Rattle.ledger.specs.declared.Ledger.{Ledger}
use Rattle.ledger.specs.declared.Verdict.{Verdict}
use Rattle.ledger_file.specs.Sums.{AddsUp}
use Rattle.form_file.specs.FormFile.{Forms}
use Rattle.form_file.specs.declared.Form.{Form}
use Rattle.form_file.specs.declared.Formed.{Formed}
use Rattle.booking.specs.Showing.{Moves}
use Rattle.booking.specs.Verdict.{Judges}
use Rattle.booking.specs.Booked.{Given, Finds, Books}
use Rattle.booking.specs.declared.Booked.{Booked}
use Rattle.exports.specs.Verdict.{FindsForC}
use Rattle.promises.specs.OneAnswer.{OneAnswer, OneWith, OneWithThree}

-- put_byte and put_number: the place behind the text, and every byte of the array
abbrev pub PutsPinned : Type 0
PutsPinned = (before : List ℕ) (at : ℕ) (text : List ℕ) → OneWith (Puts before at text)

-- line_end. What line_start leaves open is in docs/PROMISES.md.
abbrev pub LineEndPinned : Type 0
LineEndPinned = (text : List ℕ) (at : ℕ) → OneAnswer (LineTo text at)

-- put_line, put_reason and put_total
abbrev pub TellsPinned : Type 0
TellsPinned = (name : ℕ) (text before : List ℕ) → OneWith (Tells name text before)

-- enter
abbrev pub EnterPinned : Type 0
EnterPinned = (name : List ℕ) (b : Ledger) (v : Verdict) (out : List ℕ) → OneWith (Enters name b v out)

-- add_up, with where the pages' lines begin
abbrev pub AddUpPinned : Type 0
AddUpPinned = (text : List ℕ) (quota : ℤ) (starts : List ℕ) → OneWith (AddsUp text quota starts)

-- read_form, with the boxes and the places
abbrev pub ReadFormPinned : Type 0
ReadFormPinned =
    (text boxes places : List ℕ) (r s : Formed) (xs ys ps qs : List ℕ) → Forms text boxes places r xs ps → Forms text boxes places s ys qs → (r ≡ s) × (xs ≡ ys) × (ps ≡ qs)

-- judge
abbrev pub JudgePinned : Type 0
JudgePinned = (form : Form) (boxes places : List ℕ) (settings : DecodeSettings) (src changes ends marks : List ℕ) → OneWithThree (Judges form boxes places settings src changes ends marks)

-- move_form, with both arrays
abbrev pub MoveFormPinned : Type 0
MoveFormPinned =
    (form : Form) (rows across down : ℕ) (boxes places lent lent' : List ℕ) (r s : Bool) (xs ys ps qs : List ℕ)
    → Moves form rows across down boxes places lent lent' r xs ps → Moves form rows across down boxes places lent lent' s ys qs → (r ≡ s) × (xs ≡ ys) × (ps ≡ qs)

-- verdict_on and ccitt_verdict: the verdict, and the five arrays
abbrev pub One : (Verdict → List ℕ → List ℕ → List ℕ → List ℕ → List ℕ → Type 0) → Type 0
One C =
    (r s : Verdict) (boxes boxes' places places' changes changes' ends ends' marks marks' : List ℕ)
    → C r boxes places changes ends marks → C s boxes' places' changes' ends' marks'
    → (r ≡ s) × (boxes ≡ boxes') × (places ≡ places') × (changes ≡ changes') × (ends ≡ ends') × (marks ≡ marks')

abbrev pub VerdictPinned : Type 0
VerdictPinned = (g : Given) → One (Finds g)

abbrev pub ForCVerdictPinned : Type 0
ForCVerdictPinned = (encoding : ℕ) (g : Given) → One (FindsForC encoding g)

-- book_page: the verdict, the books and the text's length, with six arrays
abbrev pub BookPagePinned : Type 0
BookPagePinned =
    (name : List ℕ) (b : Ledger) (g : Given) (out : List ℕ) (r s : Booked) (boxes boxes' places places' changes changes' ends ends' marks marks' text text' : List ℕ)
    → Books name b g out r boxes places changes ends marks text → Books name b g out s boxes' places' changes' ends' marks' text'
    → (r ≡ s) × (boxes ≡ boxes') × (places ≡ places') × (changes ≡ changes') × (ends ≡ ends') × (marks ≡ marks') × (text ≡ text')
