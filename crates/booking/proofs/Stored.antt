-- Behind a reading the store holds the answer's page: what `decode` may be relied on. Assumes nothing.
use mathlib.Core.Path.{◌≡◌, refl, sym, ap, ap₂, ◌∙◌}
use mathlib.Core.Bool.{Bool, true, false, not, ◌&&◌}
use mathlib.Core.List.{List, []}
use Prim.Native.Nat.{ℕ, ◌+◌, ◌*◌, ◌≤◌}
use native.Mathlib.Omega.{arith}
use lib.ListN.{length, take, replicate, length-take, length-replicate}
use Rattle.rules.specs.Pages as Page
use Rattle.rules.specs.Pages.{read_page, strict_if_exact, decode, places_in, changes_after, ends_after, marks_after}
use Rattle.rules.specs.Proper.{is_proper, parts_in}
use Rattle.rules.specs.Write.{ends_rise, all_ascend, rows_in}
use Rattle.rules.proofs.Marks.{at-most-at, decode-came, came-listed}
use Rattle.rules.proofs.Stored.{Holds, decode-held, decode-modest, marks-kept, rows-stored, rows-good}
use Rattle.answer.specs.Answer.{answer_of}
use Rattle.answer.specs.declared.Answer.{Answer}
use Rattle.settings.specs.Settings.{settings_of}
use Rattle.settings.specs.declared.DecodeSettings.{DecodeSettings}
use Rattle.ccitt.specs.Decode.{most_rows}
use Rattle.proper.specs.declared.Checked.{Checked}
use Rattle.listing_text.specs.Listed.{Listing}
use Rattle.listing_text.proofs.Stored.{can-list}
use Rattle.heads.specs.Form.{marked, sound}
use Rattle.heads.proofs.Marks as Marks
use Rattle.form_file.specs.declared.Form.{Form}
use Rattle.booking.specs.Steps.{Stored, Held, Looks, held_in, verdict_by}
use Rattle.booking.specs.Verdict.{judged, gave_up_in, verdict_on, Judges}
use Rattle.booking.specs.declared.Finding.{Finding}
use Rattle.ledger.specs.declared.Verdict.{Verdict}

-- ---- The store

module _ (s : DecodeSettings) (src xs es ms : List ℕ) where
  abbrev said : Page.Answer
  said = decode (settings_of s) src (length xs) (places_in es ms)

  abbrev count : ℕ
  count = length said.rows

  held : Holds (length xs) (places_in es ms) said
  held = decode-held (settings_of s) src (length xs) (places_in es ms)

  abbrev room : ℕ
  room = 77 + 50 * length es + 11 * length xs

  -- what lies in the store can be listed: a law already, whose room is no matter here
  list : Listing (replicate room 0) (answer_of said) (changes_after said xs) (ends_after said es) (marks_after said ms)
  list = can-list said xs es ms held (replicate room 0) (omega (arith, length-replicate {A = ℕ} room 0))

  -- no end falls or passes the array, and each row ascends strictly below the width
  good-rows : (ends_rise (length (changes_after said xs)) 0 (take count (ends_after said es)) && all_ascend s.columns (rows_in 0 (changes_after said xs) (take count (ends_after said es)))) ≡ true
  good-rows = rows-good said xs es ms held s.columns (decode-modest (settings_of s) src (length xs) (places_in es ms)).rising

  all-marked : marked (length (take count (ends_after said es))) (take count (marks_after said ms)) ≡ true
  all-marked =
      rw (marks-kept said xs es ms held)
      (Marks.all-marked (length (take count (ends_after said es))) said.marks (omega (arith, held.as_many, length-take count (ends_after said es)))
      (λ n h. at-most-at (came-listed (decode-came (settings_of s) src (length xs) (places_in es ms)).1) n))

  stored : Stored count s.columns (changes_after said xs) (ends_after said es) (marks_after said ms)
  unfolding sound
  stored = record { placed = list.placed; marked = list.marked; sound = ap₂ ◌&&◌ good-rows all-marked }

  module _ (form : Form) (r : Checked) (ys fs ns : List ℕ) (looks : Looks form.proper src s xs es ms r ys fs ns) where
    pub reading-held : Held (length src) s.columns r.answer ys fs ns
    reading-held =
        let m = decode-modest (settings_of s) src (length xs) (places_in es ms) in
        let given = looks.decodes in
        rw (given.answer, given.changes, given.ends, given.marks) (record { few_bytes = m.few_bytes; few_rows = m.few_rows; stored = stored })

    -- what is found in the store is what is found of the answer
    same-page : (boxes places : List ℕ) (gave proper : Bool) (parts : ℕ)
        → judged form boxes places s (length src) gave proper parts (held_in r.answer ys fs ns) ≡ judged form boxes places s (length src) gave proper parts said
    unfolding judged
    same-page boxes places gave proper parts =
        let given = looks.decodes in
        rw (given.answer, given.changes, given.ends, given.marks, rows-stored said xs es ms held, marks-kept said xs es ms held)

    -- whether the page is proper is not looked at where the form does not ask for it
    same-checked : (boxes places : List ℕ)
        → judged form boxes places s (length src) r.gave_up r.proper r.parts said
        ≡ judged form boxes places s (length src) (gave_up_in s src xs es ms) (is_proper (settings_of s) src said) (parts_in (settings_of s) src said) said
    unfolding judged
    same-checked boxes places = rw looks.gave_up (by form.proper refl)
      where
        by : (t : Bool) → form.proper ≡ t
            → judged form boxes places s (length src) (gave_up_in s src xs es ms) r.proper r.parts said
            ≡ judged form boxes places s (length src) (gave_up_in s src xs es ms) (is_proper (settings_of s) src said) (parts_in (settings_of s) src said) said
        by true e = rw (looks.proper e, looks.parts e)
        by false e = rw e

    pub page-judged : (boxes places : List ℕ) (f : Finding)
        → f ≡ judged form boxes places s (length src) r.gave_up r.proper r.parts (held_in r.answer ys fs ns)
        → (v : Verdict) → v ≡ verdict_by r.answer f → Judges form boxes places s src xs es ms v ys fs ns
    unfolding verdict_on
    page-judged boxes places f is v told = record {
      verdict =
          told
          ∙ ap₂ verdict_by looks.decodes.answer (is ∙ same-page boxes places r.gave_up r.proper r.parts ∙ same-checked boxes places);
      changes = looks.decodes.changes;
      ends = looks.decodes.ends;
      marks = looks.decodes.marks;
    }
