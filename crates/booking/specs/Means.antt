-- What a page that is counted means. (That each row under a box or place is read by its own line is `HeadsOfPage`, crates/promises, from the marks that are 0 here.)
use Rattle.std.specs.Prelude.{◌≡◌, Bool, true, false, List, ℕ, ◌/◌, ◌≤◌, ◌<◌, pos, length, get_or}
use Rattle.rules.specs.Pages as Page
use Rattle.rules.specs.Proper.{is_proper}
use Rattle.settings.specs.Settings.{settings_of}
use Rattle.settings.specs.declared.DecodeSettings.{DecodeSettings}
use Rattle.heads.specs.Form.{clean_under, heads_on}
use Rattle.heads.specs.Numbers.{form_in}
use Rattle.heads.specs.declared.HeadsAnswer.{HeadsAnswer}
use Rattle.form_file.specs.Heard.{has_shift}
use Rattle.form_file.specs.FormFile.{place_at}
use Rattle.form_file.specs.declared.Form.{Form}
use Rattle.booking.specs.Tests.{under_above, lowest_of_all, place_holds, doubts}
use Rattle.booking.specs.Found.{reach, fits_in, boxes_in, places_in}
use Rattle.booking.specs.Verdict.{fits, page_of, verdict_on}

module _ (form : Form) (boxes places : List ℕ) (s : DecodeSettings) (src : List ℕ) (gave : Bool) (a : Page.Answer) where
  -- A11's answer on the page that was read
  abbrev pub asked_heads : HeadsAnswer
  asked_heads = heads_on (page_of form boxes places s (length src) a) a.marks (form_in boxes) form.tick (pos 0)

  pub record Counts (heads : ℕ) : Type 0 where
    -- the reading is exact, or the form says how many rows there are, or where its places are
    pub fitting : fits form s ≡ true
    -- the reading reached the page's end, as wide as the form and with as many rows as it says, and no byte is left over
    pub read : a.number ≡ 0
    pub columns : s.columns ≡ form.columns
    pub all_bytes : a.bytes ≡ length src
    pub enough_rows : form.least ≤ length a.rows
    pub few_rows : length a.rows ≤ form.most
    -- EOLs were not given up in it; and where the form asks for proper pages, it is one
    pub eols_kept : gave ≡ false
    pub proper_if : form.proper ≡ true → is_proper (settings_of s) src a ≡ true
    -- there are twenty boxes, and the places are there
    pub boxed : length boxes ≡ 80
    pub placed : form.places ≤ length places / 7
    -- A11 answers these heads: no box touches a row that is not clean, and each column has one tick
    pub answer : asked_heads.number ≡ 0
    pub heads_are : heads ≡ asked_heads.heads
    -- where a row is read under the one above it, each row above the lowest edge of all boxes and places is clean,
    pub clean_above : under_above s.encoding ≡ true → (y : ℕ) → y < length a.rows
        → y < lowest_of_all form boxes places s.encoding (page_of form boxes places s (length src) a) a.marks → get_or a.marks y 0 ≡ 0
    -- and where each row is read by itself, each row that a place touches
    pub clean_places : under_above s.encoding ≡ false → (k : ℕ) → k < form.places → clean_under s.columns (length a.rows) a.marks (place_at places k) ≡ true
    -- every place is as it must be, and no box is in doubt
    pub places_hold : (k : ℕ) → k < form.places → place_holds form boxes places s.encoding (page_of form boxes places s (length src) a) a.marks k ≡ true
    pub no_doubt : (k : ℕ) → k < 20 → doubts form boxes places s.encoding (page_of form boxes places s (length src) a) a.marks k ≡ false

-- A page whose verdict is 0 counts these heads, by a form that has no shift: at its place.
abbrev pub CountedMeans : Type 0
CountedMeans =
    (form : Form) (boxes places : List ℕ) (s : DecodeSettings) (src : List ℕ) (gave : Bool) (a : Page.Answer)
    → has_shift form ≡ false → (verdict_on form boxes places s src gave a).number ≡ 0
    → Counts form boxes places s src gave a (verdict_on form boxes places s src gave a).heads

-- A form with a shift that is found: there is an offset within reach at which it fits, and at every one at which it fits the page counts these very heads.
module _ (form : Form) (boxes places : List ℕ) (s : DecodeSettings) (src : List ℕ) (gave : Bool) (a : Page.Answer) where
  -- at an offset the form fits, and its boxes and its places there (specs/Found.antt)
  abbrev pub reach_of : ℕ
  reach_of = reach form boxes places s.encoding (page_of form boxes places s (length src) a) a.marks

  abbrev pub fits_on : ℕ → Bool
  fits_on = fits_in form boxes places s.encoding (page_of form boxes places s (length src) a) a.marks

  abbrev pub boxes_on : ℕ → List ℕ
  boxes_on = boxes_in form boxes places s.encoding (page_of form boxes places s (length src) a) a.marks

  abbrev pub places_on : ℕ → List ℕ
  places_on = places_in form boxes places s.encoding (page_of form boxes places s (length src) a) a.marks

  pub record FoundCounts (heads : ℕ) : Type 0 where
    pub offset : ℕ
    pub near : offset < reach_of
    pub fitting : fits_on offset ≡ true
    pub each : (j : ℕ) → j < reach_of → fits_on j ≡ true → Counts form (boxes_on j) (places_on j) s src gave a heads

abbrev pub FoundMeans : Type 0
FoundMeans =
    (form : Form) (boxes places : List ℕ) (s : DecodeSettings) (src : List ℕ) (gave : Bool) (a : Page.Answer)
    → has_shift form ≡ true → (verdict_on form boxes places s src gave a).number ≡ 0
    → FoundCounts form boxes places s src gave a (verdict_on form boxes places s src gave a).heads
