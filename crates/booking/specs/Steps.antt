-- What the functions below `judge` ask for and answer.
use Rattle.std.specs.Prelude.{◌≡◌, Bool, true, false, not, ◌&&◌, List, [], ℕ, ◌≤◌, leb, length, take}
use Rattle.rules.specs.Pages as Page
use Rattle.rules.specs.Pages.{decode, places_in}
use Rattle.rules.specs.Proper.{is_proper, parts_in}
use Rattle.rules.specs.Standing.{has_given_up}
use Rattle.rules.specs.Write.{rows_in}
use Rattle.answer.specs.declared.Answer.{Answer}
use Rattle.settings.specs.declared.EncodingMode.{EncodingMode}
use Rattle.settings.specs.Settings.{settings_of}
use Rattle.settings.specs.declared.DecodeSettings.{DecodeSettings}
use Rattle.ccitt.specs.Decode.{most_rows, Decodes}
use Rattle.proper.specs.declared.Checked.{Checked}
use Rattle.heads.specs.Form as Heads
use Rattle.heads.specs.Steps.{Sound}
use Rattle.form_file.specs.declared.Form.{Form}
use Rattle.ledger.specs.Verdicts.{other_rows, not_proper}
use Rattle.ledger.specs.declared.Verdict.{Verdict}
use Rattle.booking.specs.Tests.{finding}
use Rattle.booking.specs.Found.{on_form}
use Rattle.booking.specs.declared.Finding.{Finding}

-- a store that so many rows were read into: they are there with their marks, and pass test 8
pub record Stored (rows columns : ℕ) (changes ends marks : List ℕ) : Type 0 where
  pub placed : rows ≤ length ends
  pub marked : rows ≤ length marks
  pub sound : Sound columns changes (take rows ends) (take rows marks)

-- behind a reading of so many bytes: it told no more than there are, and one row more can be counted
pub record Held (size columns : ℕ) (r : Answer) (changes ends marks : List ℕ) : Type 0 where
  pub few_bytes : r.bytes ≤ size
  pub few_rows : r.rows ≤ most_rows
  pub stored : Stored r.rows columns changes ends marks

-- a reading's answer, with the rows and the marks that the store holds
abbrev pub held_in : Answer → List ℕ → List ℕ → List ℕ → Page.Answer
held_in r changes ends marks = record { number = r.number; place = r.place; bytes = r.bytes; rows = rows_in 0 changes (take r.rows ends); marks = take r.rows marks; loose = [] }

-- a reading, with whether EOLs were given up; and, where that is asked, whether the page is proper, and where it parts
pub record Looks (asked : Bool) (bytes : List ℕ) (s : DecodeSettings) (xs es ms : List ℕ) (r : Checked) (ys fs ns : List ℕ) : Type 0 where
  pub decodes : Decodes bytes s xs es ms r.answer ys fs ns
  pub gave_up : r.gave_up ≡ has_given_up (settings_of s) bytes (length xs) (places_in es ms)
  pub proper : asked ≡ true → r.proper ≡ is_proper (settings_of s) bytes (decode (settings_of s) bytes (length xs) (places_in es ms))
  pub parts : asked ≡ true → r.parts ≡ parts_in (settings_of s) bytes (decode (settings_of s) bytes (length xs) (places_in es ms))

-- what is found on a page that is as wide as the form's, to the last byte
unfoldable pub on_rows : Form → List ℕ → List ℕ → EncodingMode → Bool → ℕ → Heads.Page → List ℕ → Finding
on_rows form boxes places encoding proper parts page marks =
    elim (leb form.least (length page.rows) && leb (length page.rows) form.most) [
      | false ↦ finding other_rows 0 0 0 (length page.rows) form.least form.most
      | true ↦
          elim (form.proper && not proper) [
            | true ↦ finding not_proper 0 0 0 parts 0 0
            | false ↦ on_form form boxes places encoding page marks
          ]
    ]

-- a finding, with the rows, the bytes and the place of an answer
abbrev pub verdict_by : Answer → Finding → Verdict
verdict_by r f = record {
  number = f.number;
  heads = f.heads;
  which = f.which;
  line = f.line;
  rows = r.rows;
  bytes = r.bytes;
  place = r.place;
  row = f.row;
  count = f.count;
  least = f.least;
  most = f.most;
}
