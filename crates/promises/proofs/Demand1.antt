-- Demand 1 is met. Assumes nothing.
use mathlib.Core.Path.{◌≡◌, refl, sym, ap, ap₂, ◌∙◌, subst, subst₂}
use mathlib.Core.Logic.{◌⊎◌, inl, inr, ◌↔◌, ⊎_elim}
use mathlib.Core.Bool.{Bool, true, false}
use mathlib.Core.List.{List, [], ◌++◌, append_assoc}
use Prim.Native.Nat.{ℕ, zero, suc, ◌+◌, ◌*◌, ◌≤◌, ◌<◌}
use native.Mathlib.Omega.{arith}
use lib.Dec.{eqb, ltb}
use lib.ListN.{length, take, drop, length-append}
use lib.Seq.{take_at, drop_at}
use borrow.Author.Tests.{eqb-true, eqb-false, ltb-true, ltb-false}
use Rattle.rules.specs.Answers.{complete, no_entry, no_row_end, bad_width, too_long, no_fit, too_few_rows, most_pixels}
use Rattle.rules.specs.Bits.{bits_of}
use Rattle.rules.specs.Pages as Page
use Rattle.rules.specs.Pages.{most_bytes, is_too_wide, entries, joined, ends_from, overlaid, decode, read_page, strict_if_exact, unless_short, places_in, changes_after, ends_after, marks_after}
use Rattle.rules.specs.Write.{rows_in}
use Rattle.rules.proofs.Bits.{length-bits_of}
use Rattle.rules.proofs.Budget.{Bytes}
use Rattle.rules.specs.Rising.{Rows, no_rows}
use Rattle.rules.proofs.Pages.{read-answered}
use Rattle.rules.proofs.Answers.{short-cases}
use Rattle.rules.proofs.ExactPages.{ShortPage, decode-short, decode-done}
use Rattle.rules.proofs.MoreRoom.{decode-settled}
use Rattle.rules.proofs.Marks.{came-as-many, decode-came}
use Rattle.rules.proofs.Store.{length-joined, length-ends, rows_back}
use Rattle.answer.specs.Answer.{answer_of}
use Rattle.answer.specs.declared.Answer.{Answer}
use Rattle.settings.specs.declared.DecodeSettings.{DecodeSettings}
use Rattle.settings.specs.Settings.{settings_of}
use Rattle.ccitt.specs.Decode.{Gives}
use Rattle.promises.specs.Demand1.{TooFew, Listed, Refused, Stored, DecodeAnswers, Stays, MoreRoom}

-- ---- The rules' answer, by the tests

-- a refusal; or the page's answer, once 6 and 7 are passed and the columns are not 0
pub data Said (settings : DecodeSettings) (bytes changes ends marks : List ℕ) : Page.Answer → Type 0 where
  is-six : settings.columns ≡ most_pixels → Said settings bytes changes ends marks (Page.refusal bad_width)
  is-seven : (settings.columns ≡ most_pixels → ⊥) → most_bytes < length bytes → Said settings bytes changes ends marks (Page.refusal too_long)
  without_columns : (settings.columns ≡ most_pixels → ⊥) → length bytes ≤ most_bytes → Said settings bytes changes ends marks (Page.refusal complete)
  is_read : (settings.columns ≡ most_pixels → ⊥) → length bytes ≤ most_bytes → (settings.columns ≡ 0 → ⊥)
      → Said settings bytes changes ends marks (unless_short (settings_of settings) (read_page (strict_if_exact (settings_of settings)) (bits_of bytes) (length changes) (places_in ends marks)))

pub said : (settings : DecodeSettings) (bytes changes ends marks : List ℕ) → Said settings bytes changes ends marks (decode (settings_of settings) bytes (length changes) (places_in ends marks))
unfolding decode
said settings bytes changes ends marks = tests (is_too_wide settings.columns) (eqb-true _ _) (eqb-false _ _) (ltb most_bytes (length bytes)) (ltb-true _ _) (ltb-false _ _) (eqb settings.columns 0) (eqb-false _ _)
  where
    tests : (a : Bool) → (a ≡ true → settings.columns ≡ most_pixels) → (a ≡ false → settings.columns ≡ most_pixels → ⊥)
        → (b : Bool) → (b ≡ true → most_bytes < length bytes) → (b ≡ false → length bytes ≤ most_bytes)
        → (c : Bool) → (c ≡ false → settings.columns ≡ 0 → ⊥)
        → Said settings bytes changes ends marks (elim a as (λ _. Page.Answer) [
          | true ↦ Page.refusal bad_width
          | false ↦ elim b as (λ _. Page.Answer) [
            | true ↦ Page.refusal too_long
            | false ↦ elim c as (λ _. Page.Answer) [ true ↦ Page.refusal complete | false ↦ unless_short (settings_of settings) (read_page (strict_if_exact (settings_of settings)) (bits_of bytes) (length changes) (places_in ends marks)) ]
          ]
        ])
    tests true p q b r s c t = is-six (p refl)
    tests false p q true r s c t = is-seven (q refl) (r refl)
    tests false p q false r s true t = without_columns (q refl) (s refl)
    tests false p q false r s false t = is_read (q refl) (s refl) (t refl)

-- ---- What holds of every answer of the rules

pub record Fine (settings : DecodeSettings) (bytes changes ends marks : List ℕ) (a : Page.Answer) : Type 0 where
  pub listed : (a.number ≤ too_long) ⊎ (a.number ≡ too_few_rows)
  pub six : (a.number ≡ bad_width) ↔ (settings.columns ≡ most_pixels)
  pub seven : (a.number ≡ too_long) ↔ ((settings.columns ≡ most_pixels → ⊥) × (most_bytes < length bytes))
  pub refused : bad_width ≤ a.number → a.number ≤ no_fit → a ≡ Page.refusal a.number
  pub rows_fit : length a.rows ≤ places_in ends marks
  pub entries_fit : entries a.rows + length a.loose ≤ length changes
  pub rising : Rows settings.columns a.rows
  pub clean : a.number ≡ complete → a.loose ≡ []
  pub few_rows : length a.rows ≤ 8 * length bytes + 1
  pub none : settings.columns ≡ 0 → (a.rows ≡ []) × (length bytes ≤ most_bytes → a.number ≡ complete)

fine : {settings : DecodeSettings} {bytes changes ends marks : List ℕ} {a : Page.Answer} → settings.columns ≤ most_pixels → Said settings bytes changes ends marks a → Fine settings bytes changes ends marks a
unfolding entries
fine h (is-six e) = record {
  listed = inl (omega arith);
  six = ((λ q. e), λ q. refl);
  seven = ((λ q. absurd (omega arith)), λ q. absurd (q.0 e));
  refused = λ q l. refl;
  rows_fit = omega arith;
  entries_fit = omega arith;
  rising = no_rows;
  clean = λ q. refl;
  few_rows = omega arith;
  none = λ q. (refl, λ l. absurd (omega (arith, e, q)));
}
fine h (is-seven n l) = record {
  listed = inl (omega arith);
  six = ((λ q. absurd (omega arith)), λ q. absurd (n q));
  seven = ((λ q. (n, l)), λ q. refl);
  refused = λ q l. refl;
  rows_fit = omega arith;
  entries_fit = omega arith;
  rising = no_rows;
  clean = λ q. refl;
  few_rows = omega arith;
  none = λ q. (refl, λ k. absurd (omega (arith, l, k)));
}
fine h (without_columns n l) = record {
  listed = inl (omega arith);
  six = ((λ q. absurd (omega arith)), λ q. absurd (n q));
  seven = ((λ q. absurd (omega arith)), λ q. absurd (omega (arith, q.1)));
  refused = λ q l. refl;
  rows_fit = omega arith;
  entries_fit = omega arith;
  rising = no_rows;
  clean = λ q. refl;
  few_rows = omega arith;
  none = λ q. (refl, λ k. refl);
}
fine {settings} {bytes} {changes} {ends} {marks} h (is_read n l z) =
    let w : 0 < settings.columns = positive settings.columns z in
    let b : Bytes (bits_of bytes) = record { count = length bytes; whole = length-bits_of bytes } in
    let a = read-answered (settings_of settings).encoding (strict_if_exact (settings_of settings)) w (bits_of bytes) b (length changes) (places_in ends marks) refl in
    short-cases (settings_of settings) (read_page (strict_if_exact (settings_of settings)) (bits_of bytes) (length changes) (places_in ends marks)) (Fine settings bytes changes ends marks)
    (λ k. record {
      listed = inr refl;
      six = ((λ q. absurd (omega arith)), λ q. absurd (n q));
      seven = ((λ q. absurd (omega arith)), λ q. absurd (omega (arith, q.1)));
      refused = λ q t. absurd (omega arith);
      rows_fit = a.placed;
      entries_fit = a.roomy;
      rising = a.rising;
      clean = λ q. absurd (omega arith);
      few_rows = omega (arith, a.few_rows, length-bits_of bytes);
      none = λ q. absurd (z q);
    })
    (λ k. record {
      listed = inl (omega (arith, a.numbered));
      six = ((λ q. absurd (omega (arith, a.numbered))), λ q. absurd (n q));
      seven = ((λ q. absurd (omega (arith, a.numbered))), λ q. absurd (omega (arith, q.1)));
      refused = λ q t. absurd (omega (arith, a.numbered));
      rows_fit = a.placed;
      entries_fit = a.roomy;
      rising = a.rising;
      clean = a.clean;
      few_rows = omega (arith, a.few_rows, length-bits_of bytes);
      none = λ q. absurd (z q);
    })
  where
    positive : (n : ℕ) → (n ≡ 0 → ⊥) → 0 < n
    positive zero z = absurd (z refl)
    positive (suc n) z = omega arith

-- ---- The answer and the arrays that an answer of the rules permits

module _ (a : Page.Answer) (changes ends marks : List ℕ) (r : Answer) (changes' ends' marks' : List ℕ) (given : Gives a changes ends marks r changes' ends' marks') where
  number_is : r.number ≡ a.number
  number_is = ap (λ (x : Answer). x.number) given.answer

  rows_are : r.rows ≡ length a.rows
  rows_are = ap (λ (x : Answer). x.rows) given.answer

  entries_are : r.entries ≡ entries a.rows
  entries_are = ap (λ (x : Answer). x.entries) given.answer

  loose-is : r.loose ≡ length a.loose
  loose-is = ap (λ (x : Answer). x.loose) given.answer

  -- everything that was stored is as long as the counts say
  front_length : length (joined a.rows ++ a.loose) ≡ r.entries + r.loose
  front_length = length-append (joined a.rows) a.loose ∙ ap₂ (λ (x y : ℕ). x + y) (length-joined a.rows ∙ sym entries_are) (sym loose-is)

  ends-length : length (ends_from 0 a.rows) ≡ r.rows
  ends-length = length-ends 0 a.rows ∙ sym rows_are

  changes_are : changes' ≡ (joined a.rows ++ a.loose) ++ drop (length (joined a.rows ++ a.loose)) changes
  unfolding changes_after overlaid
  changes_are = given.changes

  ends_are : ends' ≡ ends_from 0 a.rows ++ drop (length (ends_from 0 a.rows)) ends
  unfolding ends_after overlaid
  ends_are = given.ends

  pub changes-front : take (r.entries + r.loose) changes' ≡ joined a.rows ++ a.loose
  changes-front = ap (take (r.entries + r.loose)) changes_are ∙ take_at (joined a.rows ++ a.loose) _ (r.entries + r.loose) front_length

  pub ends-front : take r.rows ends' ≡ ends_from 0 a.rows
  ends-front = ap (take r.rows) ends_are ∙ take_at (ends_from 0 a.rows) _ r.rows ends-length

  marks_are : marks' ≡ a.marks ++ drop (length a.marks) marks
  unfolding marks_after overlaid
  marks_are = given.marks

  -- as many marks as rows
  module _ (as_many : length a.marks ≡ length a.rows) where
    marks-length : length a.marks ≡ r.rows
    marks-length = as_many ∙ sym rows_are

    pub marks-front : take r.rows marks' ≡ a.marks
    marks-front = ap (take r.rows) marks_are ∙ take_at a.marks _ r.rows marks-length

    pub later_marks : drop r.rows marks' ≡ drop r.rows marks
    later_marks = ap (drop r.rows) marks_are ∙ drop_at a.marks _ r.rows marks-length ∙ ap (λ (n : ℕ). drop n marks) marks-length

  pub later_changes : drop (r.entries + r.loose) changes' ≡ drop (r.entries + r.loose) changes
  later_changes = ap (drop (r.entries + r.loose)) changes_are ∙ drop_at (joined a.rows ++ a.loose) _ (r.entries + r.loose) front_length ∙ ap (λ (n : ℕ). drop n changes) front_length

  pub later_ends : drop r.rows ends' ≡ drop r.rows ends
  later_ends = ap (drop r.rows) ends_are ∙ drop_at (ends_from 0 a.rows) _ r.rows ends-length ∙ ap (λ (n : ℕ). drop n ends) ends-length

  -- the rows that lie in the store are the answer's
  pub in-store : rows_in 0 changes' (take r.rows ends') ≡ a.rows
  in-store =
      ap₂ (λ (x y : List ℕ). rows_in 0 x y) (changes_are ∙ append_assoc (joined a.rows) a.loose (drop (length (joined a.rows ++ a.loose)) changes)) ends-front
      ∙ rows_back a.rows (a.loose ++ drop (length (joined a.rows ++ a.loose)) changes)

  module _ (settings : DecodeSettings) (bytes : List ℕ) (f : Fine settings bytes changes ends marks a) (short : a.number ≡ too_few_rows → ShortPage (settings_of settings) bytes a)
      (done : a.number ≡ complete → settings.exact ≡ true → 0 < settings.columns → settings.rows ≤ length a.rows) where
    too_few : r.number ≡ too_few_rows → TooFew bytes settings changes ends marks r changes' ends' marks'
    too_few q = let s = short (sym number_is ∙ q) in record { exact = s.exact; wide = s.allowed.wide; fewer = omega (arith, rows_are, s.fewer) }

    -- a page that ended with 0 has rows enough
    enough : r.number ≡ complete → TooFew bytes settings changes ends marks r changes' ends' marks' → ⊥
    enough q t = omega (arith, rows_are, t.fewer, done (sym number_is ∙ q) t.exact t.wide)

    listed : Listed bytes settings changes ends marks r changes' ends' marks'
    listed = record {
      listed = subst (λ (n : ℕ). (n ≤ too_long) ⊎ (n ≡ too_few_rows)) (sym number_is) f.listed;
      fourteen = ⊎_elim (λ q. ((λ e. too_few e), λ t. absurd (enough q t))) (λ q. ((λ e. too_few e), λ t. q));
      six = ((λ q. f.six.0 (sym number_is ∙ q)), λ q. number_is ∙ f.six.1 q);
      seven = ((λ q. f.seven.0 (sym number_is ∙ q)), λ q. number_is ∙ f.seven.1 q);
      without_columns = λ q l. number_is ∙ (f.none q).1 l;
    }

    refused : bad_width ≤ r.number → r.number ≤ no_fit → Refused bytes settings changes ends marks r changes' ends' marks'
    unfolding changes_after ends_after marks_after overlaid joined ends_from entries
    refused h k =
        let e = f.refused (omega (arith, number_is)) (omega (arith, number_is)) in
        record {
          same_changes = given.changes ∙ ap (λ (x : Page.Answer). changes_after x changes) e;
          same_ends = given.ends ∙ ap (λ (x : Page.Answer). ends_after x ends) e;
          same_marks = given.marks ∙ ap (λ (x : Page.Answer). marks_after x marks) e;
          counts = (rows_are ∙ ap (λ (x : Page.Answer). length x.rows) e, entries_are ∙ ap (λ (x : Page.Answer). entries x.rows) e, loose-is ∙ ap (λ (x : Page.Answer). length x.loose) e, ap (λ (x : Answer). x.bytes) given.answer ∙ ap (λ (x : Page.Answer). x.bytes) e);
        }

    stored : length a.marks ≡ length a.rows → Stored bytes settings changes ends marks r changes' ends' marks'
    stored as_many = record {
      rows_fit = omega (arith, rows_are, f.rows_fit);
      marks_fit = omega (arith, rows_are, f.rows_fit);
      entries_fit = omega (arith, entries_are, loose-is, f.entries_fit);
      counted = ap entries in-store ∙ sym entries_are;
      rising = subst (Rows settings.columns) (sym in-store) f.rising;
      later_changes = later_changes;
      later_ends = later_ends;
      later_marks = later_marks as_many;
      clean = λ q. loose-is ∙ ap length (f.clean (sym number_is ∙ q));
      short = λ q. let s = short (sym number_is ∙ q) in (loose-is ∙ ap length s.no_loose, ap (λ (x : Answer). x.bytes) given.answer ∙ s.no_bytes);
      no_rows = λ q. rows_are ∙ ap length (f.none q).0;
      few_rows = omega (arith, rows_are, f.few_rows);
    }

-- every answer of the rules has as many marks as rows
pub all-marked : (settings : DecodeSettings) (bytes changes ends marks : List ℕ)
    → length (decode (settings_of settings) bytes (length changes) (places_in ends marks)).marks ≡ length (decode (settings_of settings) bytes (length changes) (places_in ends marks)).rows
all-marked settings bytes changes ends marks = came-as-many (decode-came (settings_of settings) bytes (length changes) (places_in ends marks)).1

-- Demand 1, for the page form.
pub decode-answers : DecodeAnswers
decode-answers bytes settings changes ends marks r changes' ends' marks' h called =
    let f = fine h (said settings bytes changes ends marks) in
    let short = decode-short (settings_of settings) bytes (length changes) (places_in ends marks) in
    let done = decode-done (settings_of settings) bytes (length changes) (places_in ends marks) in (
      listed _ changes ends marks r changes' ends' marks' called settings bytes f short done,
      refused _ changes ends marks r changes' ends' marks' called settings bytes f short done,
      stored _ changes ends marks r changes' ends' marks' called settings bytes f short done (all-marked settings bytes changes ends marks),
    )

-- More room never changes an answer but 4 and 5,
pub settled-stays : Stays (λ n. (n ≡ no_entry → ⊥) × (n ≡ no_row_end → ⊥))
settled-stays bytes settings changes ends marks larger-changes larger-ends larger-marks r s changes' ends' marks' larger-changes' larger-ends' larger-marks' hc he hm called later n =
    (is, fronts, row-fronts, mark-fronts)
  where
    same : decode (settings_of settings) bytes (length larger-changes) (places_in larger-ends larger-marks) ≡ decode (settings_of settings) bytes (length changes) (places_in ends marks)
    same = decode-settled (settings_of settings) (length changes) (length larger-changes) (places_in ends marks) (places_in larger-ends larger-marks) hc (omega arith) bytes (λ e. n.0 (number_is _ changes ends marks r changes' ends' marks' called ∙ e)) (λ e. n.1 (number_is _ changes ends marks r changes' ends' marks' called ∙ e))

    is : s ≡ r
    is = later.answer ∙ ap answer_of same ∙ sym called.answer

    large : Gives (decode (settings_of settings) bytes (length changes) (places_in ends marks)) larger-changes larger-ends larger-marks r larger-changes' larger-ends' larger-marks'
    large = subst₂ (λ (x : Page.Answer) (y : Answer). Gives x larger-changes larger-ends larger-marks y larger-changes' larger-ends' larger-marks') same is later

    fronts : take (r.entries + r.loose) larger-changes' ≡ take (r.entries + r.loose) changes'
    fronts = changes-front _ larger-changes larger-ends larger-marks r larger-changes' larger-ends' larger-marks' large ∙ sym (changes-front _ changes ends marks r changes' ends' marks' called)

    row-fronts : take r.rows larger-ends' ≡ take r.rows ends'
    row-fronts = ends-front _ larger-changes larger-ends larger-marks r larger-changes' larger-ends' larger-marks' large ∙ sym (ends-front _ changes ends marks r changes' ends' marks' called)

    mark-fronts : take r.rows larger-marks' ≡ take r.rows marks'
    mark-fronts =
        let m = all-marked settings bytes changes ends marks in
        marks-front _ larger-changes larger-ends larger-marks r larger-changes' larger-ends' larger-marks' large m ∙ sym (marks-front _ changes ends marks r changes' ends' marks' called m)

-- so none from 0 to 3.
pub more_room : MoreRoom
more_room bytes settings changes ends marks larger-changes larger-ends larger-marks r s changes' ends' marks' larger-changes' larger-ends' larger-marks' hc he hm called later n =
    settled-stays bytes settings changes ends marks larger-changes larger-ends larger-marks r s changes' ends' marks' larger-changes' larger-ends' larger-marks' hc he hm called later
    ((λ e. omega arith), λ e. omega arith)
