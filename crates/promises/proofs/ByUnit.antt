-- The unit form is as demanded: what its contract says of calls, one after the other, is what the rules' laws say of them. Assumes nothing.
use mathlib.Core.Path.{◌≡◌, refl, sym, ap, ap₂, ◌∙◌, subst}
use mathlib.Core.Logic.{◌⊎◌, inl, inr, ◌↔◌}
use mathlib.Core.Bool.{Bool, true, false, true≢false, and-false, ◌&&◌}
use mathlib.Core.List.{List, [], ◌∷◌, ◌++◌}
use Prim.Native.Nat.{ℕ, zero, suc, ◌+◌, ◌-◌, ◌*◌, ◌≤◌, ◌<◌, min}
use native.Mathlib.Nat.{suc-mul, mul-le-mul_right}
use native.Mathlib.Omega.{arith}
use lib.Dec.{eqb, leb, ltb}
use lib.ListN.{length}
use borrow.Author.Tests.{leb-true, ltb-true, ltb-false, eq-eqb, ne_eqb, eqb-true, eqb-false, lt-ltb, le-ltb}
use Rattle.rules.specs.Answers.{complete, bad_width, too_long, bad_rows, bad_number, more_to_come, most_pixels}
use Rattle.rules.specs.Machine as Machine
use Rattle.rules.specs.Machine.{more, done}
use Rattle.rules.specs.Bits.{bits_of}
use Rattle.rules.specs.Rows.{group4, Settings}
use Rattle.rules.specs.Pages as Page'
use Rattle.rules.specs.Pages.{most_bytes, is_too_wide, strict_if_exact, entries, read_page, decode, changes_after, ends_after, marks_after, places_in, joined, ends_from, ascends}
use Rattle.rules.specs.InSteps.{Said, says_only}
use Rattle.rules.specs.Units.{Going, units_start, so_far, call, total, calls_for, page_units}
use Rattle.rules.specs.ByUnit as Rule
use Rattle.rules.specs.ByUnit.{end_of, part, going_of, sound, saved_start, said_behind, unless_fewer, reading_after, opened, ended, as_group4, still, turn_on, turn, turns}
use Rattle.rules.specs.Rising as Rising
use Rattle.rules.proofs.Ascending.{ascends-rises}
use Rattle.rules.proofs.Bits.{length-bits_of, both_true}
use Rattle.rules.proofs.Store.{overlaid-nothing}
use Rattle.rules.proofs.Budget.{whole-bytes}
use Rattle.rules.proofs.Pages.{read-answered}
use Rattle.rules.proofs.Answers.{short-cases, decode-reads}
use Rattle.rules.proofs.Calls.{total-same, calls-enough, calls-few}
use Rattle.rules.proofs.Handed.{passes}
use Rattle.rules.proofs.ByUnit.{turn-cases, turn-ends, turn-repeats, Positive, turns-ended, turns-open, turns-report}
use Rattle.answer.specs.declared.Answer.{Answer}
use Rattle.answer.specs.Answer as Error
use Rattle.settings.specs.declared.DecodeSettings.{DecodeSettings}
use Rattle.settings.specs.declared.EncodingMode.TheVariants.{Group4}
use Rattle.settings.specs.Settings.{encoding_of, settings_of}
use Rattle.by_unit.specs.declared.Saved.{Saved}
use Rattle.by_unit.specs.declared.Reading as Unit
use Rattle.by_unit.specs.declared.Reading.TheVariants.{Open, Ended}
use Rattle.by_unit.specs.declared.Turn.{Turn}
use Rattle.by_unit.specs.Standing.{answer_of}
use Rattle.by_unit.specs.Reading.{saved_of, Ending, said_of, reading_of, TurnIs}
use Rattle.by_unit.proofs.States.{end-listed, same-reading}
use Rattle.promises.specs.Rooms.{Reading}
use Rattle.promises.specs.ByUnit.{UnitCall, UnitReading, number_of, Handed, numbers_of, Follows, Page, UnitsAgree, SameButEncoding, EncodingUnread, Readable, units_of, UnitsTaken, MoreToCome, CallsNeeded, Left, UnitFormRepeats, TenMeans, Sound, UnitRefusals, OwnUnitStates, ReadUnitsPinned, StartPinned}

-- ---- Pinned

pub start-pinned : StartPinned
start-pinned r s e f = same-reading r s (e ∙ sym f)

pub read-units-pinned : ReadUnitsPinned
read-units-pinned bytes settings changes ends marks reading n r s xs ys es fs ms ns g h = (
  (λ i. record { answer = (g.answer ∙ sym h.answer) i; units = (g.units ∙ sym h.units) i; reading = same-reading r.reading s.reading (g.reading ∙ sym h.reading) i }),
  g.changes ∙ sym h.changes,
  g.ends ∙ sym h.ends,
  g.marks ∙ sym h.marks,
)

-- ---- The encoding

pub encoding-unread : EncodingUnread
encoding-unread bytes s t e c g = subst (λ (S : Settings). TurnIs (turn S bytes c.changes c.ends c.marks c.n (reading_of c.reading)) c.turn c.changes' c.ends' c.marks') same g
  where
    same : as_group4 (settings_of s) ≡ as_group4 (settings_of t)
    same = λ i. record {
      columns = e.columns i;
      rows = e.rows i;
      end_of_block = e.end_of_block i;
      end_of_line = e.end_of_line i;
      aligned = e.aligned i;
      encoding = group4;
      strict = e.strict i;
      exact = e.exact i;
    }

-- ---- Numbers

-- each is 1 or more
unfoldable pub Each : List ℕ → Type 0
Each [] = Unit {0}
Each (n ∷ ns) = (0 < n) × Each ns

each_snoc : (ns : List ℕ) (n : ℕ) → Each ns → 0 < n → Each (ns ++ n ∷ [])
unfolding Each
each_snoc [] n h p = (p, tt)
each_snoc (m ∷ ns) n h p = (h.0, each_snoc ns n h.1 p)

total-snoc : (ns : List ℕ) (n : ℕ) → total (ns ++ n ∷ []) ≡ total ns + n
unfolding total
total-snoc [] n = let z : n + 0 ≡ 0 + n = omega arith in z
total-snoc (m ∷ ns) n = ap (λ (i : ℕ). m + i) (total-snoc ns n) ∙ (let z : m + (total ns + n) ≡ m + total ns + n = omega arith in z)

not-fifteen : {n : ℕ} → Ending n → n ≡ more_to_come → ⊥
not-fifteen (inl h) e = omega arith
not-fifteen (inr h) e = omega arith

-- the page form's numbers, once 6 and 7 are passed
decode-listed : (S : Settings) → 0 < S.columns → S.columns < most_pixels → (bytes : List ℕ) → length bytes ≤ most_bytes → (store places : ℕ) → Ending (decode S bytes store places).number
decode-listed S w n bytes few store places =
    subst (λ (a : Page'.Answer). Ending a.number) (sym (decode-reads S w n bytes few store places))
    (short-cases S (read_page (strict_if_exact S) (bits_of bytes) store places) (λ a. Ending a.number) (λ k. inr refl)
    (λ k. inl (read-answered S.encoding (strict_if_exact S) w (bits_of bytes) (whole-bytes bytes) store places refl).numbered))

-- ---- One call

module _ (bytes : List ℕ) (settings : DecodeSettings) where
  abbrev S : Settings
  S = as_group4 (settings_of settings)

  -- what the rules say of it
  abbrev pub told : UnitCall → Rule.Turn
  told c = turn S bytes c.changes c.ends c.marks c.n (reading_of c.reading)

  pub number_is : (c : UnitCall) → UnitReading bytes settings c → number_of c ≡ (told c).answer.number
  number_is c g = ap (λ (a : Answer). a.number) g.answer

  -- a turn of the rules that leaves what a caller holds
  record Leads (t : Rule.Turn) (r : Unit.Reading) (xs es ms : List ℕ) : Type 0 where
    reading : t.reading ≡ reading_of r
    changes : t.changes ≡ xs
    ends : t.ends ≡ es
    marks : t.marks ≡ ms

  abbrev next : ℕ → Rule.Turn → Rule.Turn
  next n t = turn S bytes t.changes t.ends t.marks n t.reading

  handed-is : (t : Rule.Turn) (r : Unit.Reading) (xs es ms : List ℕ) (c : UnitCall) → Leads t r xs es ms → Handed r xs es ms c → told c ≡ next c.n t
  handed-is t r xs es ms c l (a, b, d, e) = λ i. turn S bytes ((b ∙ sym l.changes) i) ((d ∙ sym l.ends) i) ((e ∙ sym l.marks) i) c.n ((ap reading_of a ∙ sym l.reading) i)

  after_call : (c : UnitCall) → UnitReading bytes settings c → (t : Rule.Turn) → told c ≡ t → Leads t c.turn.reading c.changes' c.ends' c.marks'
  after_call c g t e =
      subst (λ (u : Rule.Turn). Leads u c.turn.reading c.changes' c.ends' c.marks') e
      (record { reading = sym g.reading; changes = sym g.changes; ends = sym g.ends; marks = sym g.marks })

  -- ---- Calls one after the other are the rules' turns

  record Followed (t : Rule.Turn) (before : List UnitCall) (last : UnitCall) : Type 0 where
    positive : Each (numbers_of before)
    some' : 0 < last.n
    leads : Leads (turns S bytes (numbers_of before) t) last.reading last.changes last.ends last.marks
    is : TurnIs (next last.n (turns S bytes (numbers_of before) t)) last.turn last.changes' last.ends' last.marks'

  followed : (before : List UnitCall) (last : UnitCall) (r : Unit.Reading) (xs es ms : List ℕ) (t : Rule.Turn) → Leads t r xs es ms → Follows bytes settings r xs es ms before last → Followed t before last
  unfolding Follows Each turns
  followed [] last r xs es ms t l (h, g, p) = record {
    positive = tt;
    some' = p;
    leads = record { reading = l.reading ∙ ap reading_of (sym h.0); changes = l.changes ∙ sym h.1; ends = l.ends ∙ sym h.2; marks = l.marks ∙ sym h.3 };
    is = subst (λ (u : Rule.Turn). TurnIs u last.turn last.changes' last.ends' last.marks') (handed-is t r xs es ms last l h) g;
  }
  followed (c ∷ cs) last r xs es ms t l (h, g, p, f) =
      let e = handed-is t r xs es ms c l h in
      let k = followed cs last c.turn.reading c.changes' c.ends' c.marks' (next c.n t) (after_call c g (next c.n t) e) f in
      record { positive = (p, k.positive); some' = k.some'; leads = k.leads; is = k.is }

  -- a turn more, at the end
  turns-snoc : (ns : List ℕ) (n : ℕ) (t : Rule.Turn) → turns S bytes (ns ++ n ∷ []) t ≡ next n (turns S bytes ns t)
  unfolding turns
  turns-snoc [] n t = refl
  turns-snoc (m ∷ ns) n t = turns-snoc ns n (next m t)

  -- the page's start
  module _ (xs es ms : List ℕ) (before : List UnitCall) (last : UnitCall) (p : Page bytes settings xs es ms before last) where
    abbrev pub begin : Rule.Turn
    begin = still S bytes xs es ms (said_behind 0 0 (so_far (more units_start))) (opened saved_start)

    along : Followed begin before last
    along = followed before last p.start xs es ms begin (record { reading = sym p.is_start; changes = refl; ends = refl; marks = refl }) p.follows

    abbrev pub asked : List ℕ
    asked = numbers_of before ++ last.n ∷ []

    -- all calls, the last one included
    pub whole : TurnIs (turns S bytes asked begin) last.turn last.changes' last.ends' last.marks'
    whole = subst (λ (u : Rule.Turn). TurnIs u last.turn last.changes' last.ends' last.marks') (sym (turns-snoc (numbers_of before) last.n begin)) along.is

    pub asked-each : Each asked
    asked-each = each_snoc (numbers_of before) last.n along.positive along.some'

    pub asked-total : total asked ≡ total (numbers_of before) + last.n
    asked-total = total-snoc (numbers_of before) last.n

    -- they are a first one and others
    first-of : (C : List ℕ → Type 0) → ((n : ℕ) (ns : List ℕ) → asked ≡ n ∷ ns → C (n ∷ ns)) → C asked
    first-of C f = cases (numbers_of before) f
      where
        cases : (l : List ℕ) → ((n : ℕ) (ns : List ℕ) → l ++ last.n ∷ [] ≡ n ∷ ns → C (n ∷ ns)) → C (l ++ last.n ∷ [])
        cases [] f = f last.n [] refl
        cases (m ∷ l) f = f m (l ++ last.n ∷ []) refl

    -- ---- A page that is read

    module _ (w : 0 < settings.columns) (n : settings.columns < most_pixels) (few : length bytes ≤ most_bytes) where
      abbrev pub units : ℕ
      units = page_units (strict_if_exact S) (bits_of bytes) (length xs) (places_in es ms)

      positive : (l : List ℕ) → Each l → Positive S w n bytes few xs es ms l
      unfolding Each Positive
      positive [] h = tt
      positive (m ∷ l) h = (h.0, positive l h.1)

      open-page : total asked < units → number_of last ≡ more_to_come
      open-page l =
          ap (λ (a : Answer). a.number) whole.answer
          ∙ first-of (λ ns. total ns < units → Each ns → (turns S bytes ns begin).answer.number ≡ more_to_come) (λ m ns e l h. (turns-open S w n bytes few xs es ms refl m ns (positive (m ∷ ns) h) l).0) l asked-each

      abbrev answer : Page'.Answer
      answer = decode S bytes (length xs) (places_in es ms)

      ended-page : units ≤ total asked
          → ((turns S bytes asked begin).answer ≡ said_behind 0 0 answer) × ((turns S bytes asked begin).changes ≡ changes_after answer xs) × ((turns S bytes asked begin).ends ≡ ends_after answer es) × ((turns S bytes asked begin).marks ≡ marks_after answer ms)
      ended-page l =
          first-of
          (λ ns. units ≤ total ns → Each ns
          → ((turns S bytes ns begin).answer ≡ said_behind 0 0 answer) × ((turns S bytes ns begin).changes ≡ changes_after answer xs) × ((turns S bytes ns begin).ends ≡ ends_after answer es) × ((turns S bytes ns begin).marks ≡ marks_after answer ms))
          (λ m ns e l h. turns-ended S w n bytes few xs es ms refl m ns (positive (m ∷ ns) h) l) l asked-each

      -- an end is not 15
      ended-number : units ≤ total asked → number_of last ≡ more_to_come → ⊥
      ended-number l e =
          not-fifteen (decode-listed S w n bytes few (length xs) (places_in es ms)) (sym (ap (λ (a : Answer). a.number) whole.answer ∙ ap (λ (s : Said). s.number) (ended-page l).0) ∙ e)

      reported : last.turn.units ≡ min last.n (units - total (numbers_of before))
      reported = along.is.units ∙ turns-report S w n bytes few xs es ms refl (numbers_of before) last.n (positive (numbers_of before) along.positive) along.some'

      pub open-exactly : (number_of last ≡ more_to_come) ↔ (total (numbers_of before) + last.n < units)
      open-exactly = (
        (λ e. cases (ltb (total asked) units) refl e),
        (λ l. open-page (omega (arith, asked-total))),
      )
        where
          cases : (b : Bool) → ltb (total asked) units ≡ b → number_of last ≡ more_to_come → total (numbers_of before) + last.n < units
          cases true q e = omega (arith, ltb-true (total asked) units q, asked-total)
          cases false q e = absurd (ended-number (ltb-false (total asked) units q) e)

    -- ---- A page that is refused, or has no columns

    -- each call leaves the arrays as found, and says the same
    pub stuck : (c : Said) (held : Rule.Reading) → ((n : ℕ) → 0 < n → turn S bytes xs es ms n (opened saved_start) ≡ still S bytes xs es ms c held) → ((n : ℕ) → 0 < n → turn S bytes xs es ms n held ≡ still S bytes xs es ms c held)
        → TurnIs (still S bytes xs es ms c held) last.turn last.changes' last.ends' last.marks'
    unfolding Each turns
    stuck c held first later = subst (λ (u : Rule.Turn). TurnIs u last.turn last.changes' last.ends' last.marks') (all-turns (numbers_of before) along.positive) whole
      where
        others : (ns : List ℕ) (t : Rule.Turn) → Each ns → t ≡ still S bytes xs es ms c held → turns S bytes ns t ≡ still S bytes xs es ms c held
        others [] t h e = e
        others (n ∷ ns) t h e = others ns (next n t) h.1 (ap (next n) e ∙ later n h.0)

        all-turns : (l : List ℕ) → Each l → turns S bytes (l ++ last.n ∷ []) begin ≡ still S bytes xs es ms c held
        all-turns [] h = first last.n along.some'
        all-turns (n ∷ l) h = others (l ++ last.n ∷ []) (next n begin) (each_snoc l last.n h.1 along.some') (first n h.0)

  -- with columns that are too many, or data that is too long
  pub refused-6 : (xs es ms : List ℕ) → settings.columns ≡ most_pixels → (n : ℕ) → 0 < n → turn S bytes xs es ms n (opened saved_start) ≡ still S bytes xs es ms (says_only bad_width) (opened saved_start)
  unfolding turn turn_on
  refused-6 xs es ms e zero p = absurd (omega arith)
  refused-6 xs es ms e (suc n) p = rw (eq-eqb settings.columns most_pixels e, turn_on)

  pub refused-7 : (xs es ms : List ℕ) → (settings.columns ≡ most_pixels → ⊥) → most_bytes < length bytes → (n : ℕ) → 0 < n → turn S bytes xs es ms n (opened saved_start) ≡ still S bytes xs es ms (says_only too_long) (opened saved_start)
  unfolding turn turn_on
  refused-7 xs es ms e l zero p = absurd (omega arith)
  refused-7 xs es ms e l (suc n) p = rw (ne_eqb settings.columns most_pixels e, lt-ltb most_bytes (length bytes) l, turn_on)

  -- the start passes the tests
  start-sound : (xs es ms : List ℕ) → sound xs es saved_start settings.columns (length (bits_of bytes)) (places_in es ms) ≡ true
  start-sound xs es ms = passes xs es saved_start settings.columns (length (bits_of bytes)) (places_in es ms) (record {
    at = omega arith;
    run_stands = omega arith;
    mode_stands = omega arith;
    position = omega arith;
    eols = omega arith;
    rows = omega arith;
    base = omega arith;
    loose = omega arith;
    placed = omega arith;
    ordered = omega arith;
    held = omega arith;
    reference = Rising.none;
    unfinished = Rising.none;
  })

  -- without columns the first call ends the page
  pub without_columns : (xs es ms : List ℕ) → settings.columns ≡ 0 → length bytes ≤ most_bytes → (n : ℕ) → 0 < n → turn S bytes xs es ms n (opened saved_start) ≡ still S bytes xs es ms (says_only complete) (ended (says_only complete))
  unfolding turn turn_on
  without_columns xs es ms e l zero p = absurd (omega arith)
  without_columns xs es ms e l (suc n) p =
      rw (ne_eqb settings.columns most_pixels (λ q. omega arith), le-ltb most_bytes (length bytes) l, start-sound xs es ms, eq-eqb settings.columns 0 e, turn_on)

  pub repeated : (xs es ms : List ℕ) (c : Said) (n : ℕ) → 0 < n → turn S bytes xs es ms n (ended c) ≡ still S bytes xs es ms c (ended c)
  unfolding turn
  repeated xs es ms c zero p = absurd (omega arith)
  repeated xs es ms c (suc n) p = refl

-- ---- Page and unit form agree

-- what is said of an answer of the rules is that answer's
pub same_answer : (a : Page'.Answer) → answer_of (said_behind 0 0 a) ≡ Error.answer_of a
same_answer a = λ i. record {
  number = a.number;
  mark = 0;
  rows = (let z : 0 + length a.rows ≡ length a.rows = omega arith in z) i;
  entries = (let z : 0 + entries a.rows ≡ entries a.rows = omega arith in z) i;
  loose = length a.loose;
  bytes = a.bytes;
  place = a.place;
}

module _ (bytes : List ℕ) (settings : DecodeSettings) (enc : settings.encoding ≡ Group4) (xs es ms : List ℕ) (before : List UnitCall) (last : UnitCall) (p : Page bytes settings xs es ms before last) where
  pub same-settings : as_group4 (settings_of settings) ≡ settings_of settings
  same-settings = λ i. record {
    columns = settings.columns;
    rows = settings.rows;
    end_of_block = settings.end_of_block;
    end_of_line = settings.end_of_line;
    aligned = settings.rows_are_byte_aligned;
    encoding = sym (ap encoding_of enc) i;
    strict = settings.strict;
    exact = settings.exact;
  }

  -- the last call gives an answer of the rules
  abbrev Gives : Page'.Answer → Type 0
  Gives a = (last.turn.answer ≡ Error.answer_of a) × (last.changes' ≡ changes_after a xs) × (last.ends' ≡ ends_after a es) × (last.marks' ≡ marks_after a ms)

  -- one that leaves the arrays as found
  gives-refusal : (n : ℕ) (held : Rule.Reading) → TurnIs (still (as_group4 (settings_of settings)) bytes xs es ms (says_only n) held) last.turn last.changes' last.ends' last.marks' → Gives (Page'.refusal n)
  unfolding changes_after ends_after marks_after joined ends_from entries
  gives-refusal n held t = (t.answer, t.changes ∙ sym (overlaid-nothing xs), t.ends ∙ sym (overlaid-nothing es), t.marks ∙ sym (overlaid-nothing ms))

  gives-read : (w : 0 < settings.columns) (n : settings.columns < most_pixels) (few : length bytes ≤ most_bytes) → (number_of last ≡ more_to_come → ⊥) → Gives (decode (settings_of settings) bytes (length xs) (places_in es ms))
  gives-read w n few ne =
      subst (λ (S : Settings). Gives (decode S bytes (length xs) (places_in es ms))) same-settings
      (cases (ltb (total (asked bytes settings xs es ms before last p)) (units bytes settings xs es ms before last p w n few)) refl)
    where
      cases : (b : Bool) → ltb (total (asked bytes settings xs es ms before last p)) (units bytes settings xs es ms before last p w n few) ≡ b → Gives (decode (as_group4 (settings_of settings)) bytes (length xs) (places_in es ms))
      cases true q = absurd (ne (open-page bytes settings xs es ms before last p w n few (ltb-true _ _ q)))
      cases false q =
          let e = ended-page bytes settings xs es ms before last p w n few (ltb-false _ _ q) in
          let t = whole bytes settings xs es ms before last p in (
            t.answer ∙ ap answer_of e.0 ∙ same_answer (decode (as_group4 (settings_of settings)) bytes (length xs) (places_in es ms)),
            t.changes ∙ e.1,
            t.ends ∙ e.2,
            t.marks ∙ e.3,
          )

  gives : settings.columns ≤ most_pixels → (number_of last ≡ more_to_come → ⊥) → Gives (decode (settings_of settings) bytes (length xs) (places_in es ms))
  unfolding decode
  gives small ne = tests (is_too_wide settings.columns) refl (ltb most_bytes (length bytes)) refl (eqb settings.columns 0) refl
    where
      tests : (a : Bool) → is_too_wide settings.columns ≡ a → (b : Bool) → ltb most_bytes (length bytes) ≡ b → (c : Bool) → eqb settings.columns 0 ≡ c → Gives (decode (settings_of settings) bytes (length xs) (places_in es ms))
      tests true e b f c h =
          let r = refused-6 bytes settings xs es ms (eqb-true _ _ e) in
          rw (e, decode) (gives-refusal bad_width (opened saved_start) (stuck bytes settings xs es ms before last p (says_only bad_width) (opened saved_start) r r))
      tests false e true f c h =
          let r = refused-7 bytes settings xs es ms (eqb-false _ _ e) (ltb-true _ _ f) in
          rw (e, f, decode) (gives-refusal too_long (opened saved_start) (stuck bytes settings xs es ms before last p (says_only too_long) (opened saved_start) r r))
      tests false e false f true h =
          rw (e, f, h, decode)
          (gives-refusal complete (ended (says_only complete))
          (stuck bytes settings xs es ms before last p (says_only complete) (ended (says_only complete)) (without_columns bytes settings xs es ms (eqb-true _ _ h) (ltb-false _ _ f)) (repeated bytes settings xs es ms (says_only complete))))
      tests false e false f false h =
          let z : settings.columns ≡ 0 → ⊥ = eqb-false _ _ h in
          let n : settings.columns ≡ most_pixels → ⊥ = eqb-false _ _ e in
          gives-read (omega (arith, z)) (omega (arith, n, small)) (ltb-false _ _ f) ne

pub units-agree : UnitsAgree
units-agree bytes settings small enc page g before last p ne =
    let e = gives bytes settings enc page.changes page.ends page.marks before last p small ne in
    (e.0 ∙ sym g.answer, e.1 ∙ sym g.changes, e.2 ∙ sym g.ends, e.3 ∙ sym g.marks)

-- ---- The units

pub units-taken : UnitsTaken
units-taken bytes settings r changes ends marks before last p =
    reported bytes settings changes ends marks before last p r.wide r.narrow r.few
    ∙ ap (λ (S : Settings). min last.n (page_units (strict_if_exact S) (bits_of bytes) (length changes) (places_in ends marks) - total (numbers_of before))) (same-settings bytes settings r.encoding changes ends marks before last p)

more-exactly : (bytes : List ℕ) (settings : DecodeSettings) → Readable bytes settings → (changes ends marks : List ℕ) (before : List UnitCall) (last : UnitCall) → Page bytes settings changes ends marks before last
    → (number_of last ≡ more_to_come) ↔ (total (numbers_of before) + last.n < units_of bytes settings changes ends marks)
more-exactly bytes settings r changes ends marks before last p =
    subst (λ (S : Settings). (number_of last ≡ more_to_come) ↔ (total (numbers_of before) + last.n < page_units (strict_if_exact S) (bits_of bytes) (length changes) (places_in ends marks)))
    (same-settings bytes settings r.encoding changes ends marks before last p) (open-exactly bytes settings changes ends marks before last p r.wide r.narrow r.few)

pub more-to-come : MoreToCome
more-to-come bytes settings r changes ends marks before last p = more-exactly bytes settings r changes ends marks before last p

pub calls-needed : CallsNeeded
calls-needed bytes settings r n some' changes ends marks before last p same e =
    let m = more-exactly bytes settings r changes ends marks before last p in
    let t : total (numbers_of before) + last.n ≡ suc (length before) * n = ap₂ (λ (a b : ℕ). a + b) (ap total same ∙ total-same (length before) n) e ∙ sym (suc-mul (length before) n) in (
      (λ q. few (subst (λ (i : ℕ). i < units_of bytes settings changes ends marks) t (m.0 q))),
      (λ l. m.1 (subst (λ (i : ℕ). i < units_of bytes settings changes ends marks) (sym t) (calls-few (units_of bytes settings changes ends marks) n some' (length before) (omega (arith, l))))),
    )
  where
    u : ℕ
    u = units_of bytes settings changes ends marks

    few : suc (length before) * n < u → length before + 1 < calls_for u n
    few l = cases (ltb (length before + 1) (calls_for u n)) refl
      where
        cases : (b : Bool) → ltb (length before + 1) (calls_for u n) ≡ b → length before + 1 < calls_for u n
        cases true q = ltb-true _ _ q
        cases false q =
            let h = (calls-enough u n some').1 in
            let k : calls_for u n * n ≤ suc (length before) * n = mul-le-mul_right n (let z = ltb-false (length before + 1) (calls_for u n) q in let y : calls_for u n ≤ suc (length before) = omega arith in y) in
            absurd (omega arith)

-- ---- What a call on an open page says

-- "Ending", or one of the others
abbrev ListedNumber : ℕ → Type 0
ListedNumber n = Ending n ⊎ ((n ≡ bad_width) ⊎ ((n ≡ too_long) ⊎ ((n ≡ bad_rows) ⊎ (n ≡ more_to_come))))

-- the end that a reading has is of the list
pub ended-listed : (r : Unit.Reading) (d : Said) → reading_of r ≡ ended d → Ending d.number
ended-listed (Ended e c) d q = subst (λ (x : Said). Ending x.number) (let z : said_of e c ≡ d = cc in z) (end-listed e c)
ended-listed (Open s) d q = absurd (let z : ◌≡◌ {A = ℕ} 0 1 = cc in omega arith)

module _ (bytes : List ℕ) (settings : DecodeSettings) (c : UnitCall) (s : Saved) where
  abbrev S₁ : Settings
  S₁ = as_group4 (settings_of settings)

  abbrev places₁ : ℕ
  places₁ = places_in c.ends c.marks

  abbrev sound_here : Bool
  sound_here = sound c.changes c.ends (saved_of s) settings.columns (length (bits_of bytes)) places₁

  -- the test of the state, in 01's words
  pub sound-passes : Sound bytes settings c s → sound_here ≡ true
  sound-passes h =
      let b = length-bits_of bytes in
      passes c.changes c.ends (saved_of s) settings.columns (length (bits_of bytes)) places₁ (record {
        at = omega (arith, h.at);
        run_stands = omega (arith, h.run_at);
        mode_stands = omega (arith, h.mode_is_at);
        position = h.position;
        eols = omega (arith, h.few_eols);
        rows = omega (arith, h.few_rows);
        base = omega (arith, h.few_entries);
        loose = omega (arith, h.few_loose);
        placed = h.placed;
        ordered = h.ordered;
        held = h.held;
        reference = h.reference;
        unfinished = h.unfinished;
      })

  pub passes-sound : sound_here ≡ true → Sound bytes settings c s
  unfolding sound
  passes-sound e =
      let b = length-bits_of bytes in
      let bits = length (bits_of bytes) in
      let start = end_of c.ends (s.rows - 1) in
      let base = end_of c.ends s.rows in
      let (p, q) = both_true (leb s.at bits && (leb s.run_at bits && leb s.mode_at bits)) _ e in
      let (p1, p2) = both_true (leb s.at bits) _ p in
      let (p3, p4) = both_true (leb s.run_at bits) _ p2 in
      let (q1, q2) = both_true (leb s.position settings.columns) _ q in
      let (r, t) = both_true (leb s.eols (bits + 1) && (leb s.rows (bits + 1) && (leb base (bits + 1) && leb s.loose (bits + 1)))) _ q2 in
      let (r1, r2) = both_true (leb s.eols (bits + 1)) _ r in
      let (r3, r4) = both_true (leb s.rows (bits + 1)) _ r2 in
      let (r5, r6) = both_true (leb base (bits + 1)) _ r4 in
      let (t1, t2) = both_true (leb s.rows places₁ && (leb start base && leb (base + s.loose) (length c.changes))) _ t in
      let (u1, u2) = both_true (leb s.rows places₁) _ t1 in
      let (u3, u4) = both_true (leb start base) _ u2 in
      let (v1, v2) = both_true (ascends settings.columns (part start base c.changes)) _ t2 in
      record {
        at = omega (arith, leb-true s.at bits p1);
        run_at = omega (arith, leb-true s.run_at bits p3);
        mode_is_at = omega (arith, leb-true s.mode_at bits p4);
        position = leb-true _ _ q1;
        few_eols = omega (arith, leb-true s.eols (bits + 1) r1);
        few_rows = omega (arith, leb-true s.rows (bits + 1) r3);
        few_entries = omega (arith, leb-true base (bits + 1) r5);
        few_loose = omega (arith, leb-true s.loose (bits + 1) r6);
        placed = leb-true _ _ u1;
        ordered = leb-true _ _ u3;
        held = leb-true _ _ u4;
        reference = ascends-rises _ _ _ v1;
        unfinished = ascends-rises _ _ _ v2;
      }

  record Says (t : Rule.Turn) : Type 0 where
    listed : ListedNumber t.answer.number
    six : (t.answer.number ≡ bad_width) ↔ (settings.columns ≡ most_pixels)
    seven : (t.answer.number ≡ too_long) ↔ ((settings.columns ≡ most_pixels → ⊥) × (most_bytes < length bytes))
    eight : (t.answer.number ≡ bad_rows) ↔ ((settings.columns ≡ most_pixels → ⊥) × (length bytes ≤ most_bytes) × (Sound bytes settings c s → ⊥))
    none : settings.columns ≡ 0 → length bytes ≤ most_bytes → Sound bytes settings c s → (t.answer.number ≡ complete) × (t.answer.rows ≡ 0) × (t.answer.bytes ≡ 0)
    refused : bad_width ≤ t.answer.number → t.answer.number ≤ bad_rows → t ≡ still S₁ bytes c.changes c.ends c.marks (says_only t.answer.number) (opened (saved_of s))

  -- units are taken, or the page ends
  says-read : (settings.columns ≡ most_pixels → ⊥) → length bytes ≤ most_bytes → sound_here ≡ true → 0 < settings.columns → (t : Rule.Turn) → (Ending t.answer.number ⊎ (t.answer.number ≡ more_to_come)) → Says t
  says-read ne size good wide t h = record {
    listed = list h;
    six = ((λ z. absurd (apart h (omega arith) (omega arith))), λ z. absurd (ne z));
    seven = ((λ z. absurd (apart h (omega arith) (omega arith))), λ z. absurd (omega (arith, z.1)));
    eight = ((λ z. absurd (apart h (omega arith) (omega arith))), λ z. absurd (z.2 (passes-sound good)));
    none = λ z. absurd (omega arith);
    refused = λ l k. absurd (apart h l k);
  }
    where
      list : (Ending t.answer.number ⊎ (t.answer.number ≡ more_to_come)) → ListedNumber t.answer.number
      list (inl k) = inl k
      list (inr k) = inr (inr (inr (inr k)))

      apart : (Ending t.answer.number ⊎ (t.answer.number ≡ more_to_come)) → bad_width ≤ t.answer.number → t.answer.number ≤ bad_rows → ⊥
      apart (inl (inl k)) l u = omega arith
      apart (inl (inr k)) l u = omega arith
      apart (inr k) l u = omega arith

  says : (n : ℕ) → (r : Unit.Reading) → reading_of r ≡ (turn S₁ bytes c.changes c.ends c.marks (suc n) (opened (saved_of s))).reading → Says (turn S₁ bytes c.changes c.ends c.marks (suc n) (opened (saved_of s)))
  says n r =
      turn-cases S₁ bytes c.changes c.ends c.marks n (saved_of s) (λ t. reading_of r ≡ t.reading → Says t)
      (λ e k. let q : settings.columns ≡ most_pixels = eqb-true settings.columns most_pixels e in record {
        listed = inr (inl refl);
        six = ((λ z. q), λ z. refl);
        seven = ((λ z. absurd (omega arith)), λ z. absurd (z.0 q));
        eight = ((λ z. absurd (omega arith)), λ z. absurd (z.0 q));
        none = λ z l h. absurd (omega (arith, q, z));
        refused = λ l k. refl;
      })
      (λ e l k. let q : settings.columns ≡ most_pixels → ⊥ = eqb-false settings.columns most_pixels e in record {
        listed = inr (inr (inl refl));
        six = ((λ z. absurd (omega arith)), λ z. absurd (q z));
        seven = ((λ z. (q, l)), λ z. refl);
        eight = ((λ z. absurd (omega arith)), λ z. absurd (omega (arith, z.1)));
        none = λ z m h. absurd (omega (arith, l, m));
        refused = λ l k. refl;
      })
      (λ e l h k. let q : settings.columns ≡ most_pixels → ⊥ = eqb-false settings.columns most_pixels e in record {
        listed = inr (inr (inr (inl refl)));
        six = ((λ z. absurd (omega arith)), λ z. absurd (q z));
        seven = ((λ z. absurd (omega arith)), λ z. absurd (omega (arith, z.1)));
        eight = ((λ z. (q, l, λ t. true≢false (sym (sound-passes t) ∙ h))), λ z. refl);
        none = λ z m t. absurd (true≢false (sym (sound-passes t) ∙ h));
        refused = λ l k. refl;
      })
      (λ e l h z k. let q : settings.columns ≡ most_pixels → ⊥ = eqb-false settings.columns most_pixels e in record {
        listed = inl (inl (omega arith));
        six = ((λ y. absurd (omega arith)), λ y. absurd (q y));
        seven = ((λ y. absurd (omega arith)), λ y. absurd (omega (arith, y.1)));
        eight = ((λ y. absurd (omega arith)), λ y. absurd (y.2 (passes-sound h)));
        none = λ y m t. (refl, refl, refl);
        refused = λ l k. absurd (omega arith);
      })
      (λ e l h w k. says-read (eqb-false settings.columns most_pixels e) l h w _ (number (call (strict_if_exact S₁) (bits_of bytes) (length c.changes) places₁ (suc n) (more (going_of c.changes c.ends (saved_of s)))) k))
    where
      base : ℕ
      base = end_of c.ends s.rows

      number : (o : Machine.Out Going Page'.Answer) → reading_of r ≡ reading_after (unless_fewer S₁ (said_behind s.rows base (so_far o))) o
          → Ending (unless_fewer S₁ (said_behind s.rows base (so_far o))).number ⊎ ((unless_fewer S₁ (said_behind s.rows base (so_far o))).number ≡ more_to_come)
      number (more g) k = inr (rw (and-false settings.exact))
      number (done a) k = inl (ended-listed r (unless_fewer S₁ (said_behind s.rows base a)) k)

-- ---- After the end, and N of 0

-- what leaves everything
left_so : (bytes : List ℕ) (settings : DecodeSettings) (c : UnitCall) (d : Said) → UnitReading bytes settings c → told bytes settings c ≡ still (as_group4 (settings_of settings)) bytes c.changes c.ends c.marks d (reading_of c.reading)
    → (c.turn.answer ≡ answer_of d) × Left c
left_so bytes settings c d g e =
    let t = subst (λ (u : Rule.Turn). TurnIs u c.turn c.changes' c.ends' c.marks') e g in
    (t.answer, record { units = t.units; reading = same-reading c.turn.reading c.reading t.reading; changes = t.changes; ends = t.ends; marks = t.marks })

-- any call with units says a number of the list
any-listed : (bytes : List ℕ) (settings : DecodeSettings) (c : UnitCall) → UnitReading bytes settings c → 0 < c.n → ListedNumber (number_of c)
any-listed bytes settings c g some' = subst ListedNumber (sym (number_is bytes settings c g)) (cases c.n some' c.reading g.reading)
  where
    cases : (n : ℕ) → 0 < n → (r : Unit.Reading) → reading_of c.turn.reading ≡ (turn (as_group4 (settings_of settings)) bytes c.changes c.ends c.marks n (reading_of r)).reading
        → ListedNumber (turn (as_group4 (settings_of settings)) bytes c.changes c.ends c.marks n (reading_of r)).answer.number
    cases zero p r e = absurd (omega arith)
    cases (suc n) p (Open s) e = (says bytes settings c s n c.turn.reading e).listed
    cases (suc n) p (Ended e d) q = inl (subst (λ (t : Rule.Turn). Ending t.answer.number) (sym (turn-repeats (as_group4 (settings_of settings)) bytes c.changes c.ends c.marks n (said_of e d))) (end-listed e d))

not-ten : {n : ℕ} → ListedNumber n → n ≡ bad_number → ⊥
not-ten (inl (inl h)) e = omega arith
not-ten (inl (inr h)) e = omega arith
not-ten (inr (inl h)) e = omega arith
not-ten (inr (inr (inl h))) e = omega arith
not-ten (inr (inr (inr (inl h)))) e = omega arith
not-ten (inr (inr (inr (inr h)))) e = omega arith

ends_so : (bytes : List ℕ) (settings : DecodeSettings) (c : UnitCall) → UnitReading bytes settings c → 0 < c.n → Ending (number_of c) → (told bytes settings c).reading ≡ ended (told bytes settings c).answer
ends_so bytes settings c g some' h = cases c.n some' (subst Ending (number_is bytes settings c g) h)
  where
    cases : (n : ℕ) → 0 < n → Ending (turn (as_group4 (settings_of settings)) bytes c.changes c.ends c.marks n (reading_of c.reading)).answer.number
        → (turn (as_group4 (settings_of settings)) bytes c.changes c.ends c.marks n (reading_of c.reading)).reading ≡ ended (turn (as_group4 (settings_of settings)) bytes c.changes c.ends c.marks n (reading_of c.reading)).answer
    cases zero p k = absurd (omega arith)
    cases (suc n) p k = turn-ends (as_group4 (settings_of settings)) bytes c.changes c.ends c.marks n (reading_of c.reading) k

pub ten-means : TenMeans
unfolding turn
ten-means bytes settings c g = cases c.n refl
  where
    ten : c.n ≡ 0 → (c.turn.answer ≡ answer_of (says_only bad_number)) × Left c
    ten e = left_so bytes settings c (says_only bad_number) g (ap (λ (n : ℕ). turn (as_group4 (settings_of settings)) bytes c.changes c.ends c.marks n (reading_of c.reading)) e)

    cases : (n : ℕ) → c.n ≡ n → ((number_of c ≡ bad_number) ↔ (c.n ≡ 0)) × (c.n ≡ 0 → Left c)
    cases zero e = (((λ q. e), λ q. ap (λ (a : Answer). a.number) (ten e).0), λ q. (ten e).1)
    cases (suc n) e = (((λ q. absurd (never q)), λ q. absurd (omega arith)), λ q. absurd (omega arith))
      where
        -- 10 is no number of a call with units
        never : number_of c ≡ bad_number → ⊥
        never q = not-ten (any-listed bytes settings c g (omega arith)) q

pub unit-form-repeats : UnitFormRepeats
unit-form-repeats bytes settings c g some' h bytes' settings' d e many k =
    let q : reading_of d.reading ≡ ended (told bytes settings c).answer = ap reading_of e ∙ g.reading ∙ ends_so bytes settings c g some' h in
    let t : told bytes' settings' d ≡ still (as_group4 (settings_of settings')) bytes' d.changes d.ends d.marks (told bytes settings c).answer (reading_of d.reading) =
    ap (turn (as_group4 (settings_of settings')) bytes' d.changes d.ends d.marks d.n) q
    ∙ repeated bytes' settings' d.changes d.ends d.marks (told bytes settings c).answer d.n many
    ∙ ap (still (as_group4 (settings_of settings')) bytes' d.changes d.ends d.marks (told bytes settings c).answer) (sym q) in
    let l = left_so bytes' settings' d (told bytes settings c).answer k t in
    (l.0 ∙ sym g.answer, l.1)

-- ---- Refusals

pub unit-refusals : UnitRefusals
unit-refusals bytes settings c g some' s o = (
  record {
    listed = subst ListedNumber (sym n) h.listed;
    six = ((λ e. h.six.0 (sym n ∙ e)), λ e. n ∙ h.six.1 e);
    seven = ((λ e. h.seven.0 (sym n ∙ e)), λ e. n ∙ h.seven.1 e);
    eight = ((λ e. h.eight.0 (sym n ∙ e)), λ e. n ∙ h.eight.1 e);
    without_columns = λ z l t. let k = h.none z l t in (n ∙ k.0, ap (λ (a : Answer). a.rows) g.answer ∙ k.1, ap (λ (a : Answer). a.bytes) g.answer ∙ k.2);
  },
  λ l k.
      let e = h.refused (omega (arith, n)) (omega (arith, n)) in
      let f = left_so bytes settings c (says_only (told bytes settings c).answer.number) g (e ∙ ap (still (as_group4 (settings_of settings)) bytes c.changes c.ends c.marks (says_only (told bytes settings c).answer.number)) (sym (ap reading_of o))) in
      (f.1, ap (λ (a : Answer). a.rows) f.0, ap (λ (a : Answer). a.entries) f.0, ap (λ (a : Answer). a.loose) f.0, ap (λ (a : Answer). a.bytes) f.0),
)
  where
    n : number_of c ≡ (told bytes settings c).answer.number
    n = number_is bytes settings c g

    h : Says bytes settings c s (told bytes settings c)
    h = subst (λ (r : Rule.Reading). Says bytes settings c s (turn (as_group4 (settings_of settings)) bytes c.changes c.ends c.marks c.n r)) (sym (ap reading_of o)) (cases c.n some' (g.reading ∙ ap (λ (r : Rule.Reading). (turn (as_group4 (settings_of settings)) bytes c.changes c.ends c.marks c.n r).reading) (ap reading_of o)))
      where
        cases : (n : ℕ) → 0 < n → reading_of c.turn.reading ≡ (turn (as_group4 (settings_of settings)) bytes c.changes c.ends c.marks n (opened (saved_of s))).reading
            → Says bytes settings c s (turn (as_group4 (settings_of settings)) bytes c.changes c.ends c.marks n (opened (saved_of s)))
        cases zero p e = absurd (omega arith)
        cases (suc n) p e = says bytes settings c s n c.turn.reading e

-- ---- States handed back

-- the page form's numbers are others
not_eight : (S : Settings) (bytes : List ℕ) (store places : ℕ) → S.columns ≤ most_pixels → (decode S bytes store places).number ≡ bad_rows → ⊥
unfolding decode
not_eight S bytes store places small = tests (is_too_wide S.columns) refl (ltb most_bytes (length bytes)) refl (eqb S.columns 0) refl
  where
    tests : (a : Bool) → is_too_wide S.columns ≡ a → (b : Bool) → ltb most_bytes (length bytes) ≡ b → (c : Bool) → eqb S.columns 0 ≡ c → (decode S bytes store places).number ≡ bad_rows → ⊥
    tests true e b f c h = rw (e, decode) (λ z. omega arith)
    tests false e true f c h = rw (e, f, decode) (λ z. omega arith)
    tests false e false f true h = rw (e, f, h, decode) (λ z. omega arith)
    tests false e false f false h = λ z. apart (decode-listed S (let k : S.columns ≡ 0 → ⊥ = eqb-false _ _ h in omega (arith, k)) (let k : S.columns ≡ most_pixels → ⊥ = eqb-false _ _ e in omega (arith, k, small)) bytes (ltb-false _ _ f) store places) z
      where
        apart : {n : ℕ} → Ending n → n ≡ bad_rows → ⊥
        apart (inl k) z = omega arith
        apart (inr k) z = omega arith

pub own-unit-states : OwnUnitStates
unfolding Follows
own-unit-states bytes settings small changes ends marks before last p e =
    not_eight (settings_of g4) bytes (length changes) (places_in ends marks) small
    (sym (ap (λ (a : Answer). a.number) (gives bytes g4 refl changes ends marks before last page small (λ q. omega arith)).0) ∙ e)
  where
    -- "A form made for one encoding doesn't read that setting"
    g4 : DecodeSettings
    g4 = record {
      columns = settings.columns;
      rows = settings.rows;
      end_of_block = settings.end_of_block;
      end_of_line = settings.end_of_line;
      rows_are_byte_aligned = settings.rows_are_byte_aligned;
      encoding = Group4;
      strict = settings.strict;
      exact = settings.exact;
      plain = settings.plain;
    }

    same : SameButEncoding settings g4
    same = record { columns = refl; rows = refl; end_of_block = refl; end_of_line = refl; aligned = refl; strict = refl; exact = refl }

    follows : (cs : List UnitCall) (r : Unit.Reading) (xs es ms : List ℕ) → Follows bytes settings r xs es ms cs last → Follows bytes g4 r xs es ms cs last
    follows [] r xs es ms (h, g, q) = (h, encoding-unread bytes settings g4 same last g, q)
    follows (c ∷ cs) r xs es ms (h, g, q, f) = (h, encoding-unread bytes settings g4 same c g, q, follows cs c.turn.reading c.changes' c.ends' c.marks' f)

    page : Page bytes g4 changes ends marks before last
    page = record { start = p.start; is_start = p.is_start; follows = follows before p.start changes ends marks p.follows }
