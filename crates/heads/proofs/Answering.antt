-- The answer, test by test. Assumes nothing.
use mathlib.Core.Path.{◌≡◌, refl, sym, ap}
use mathlib.Core.Bool.{Bool, true, false, ◌&&◌}
use mathlib.Core.List.{List}
use Prim.Native.Nat.{ℕ, ◌≤◌}
use lib.Dec.{leb, ltb}
use lib.IntN.{ℤ}
use lib.ListN.{length, take}
use borrow.Author.Tests.{leb-true, eq-eqb, ne_eqb}
use Rattle.rules.specs.Write.{rows_in}
use Rattle.row_store.specs.Store.{good_rows}
use Rattle.heads.specs.Form.{all, ordered, marked, sound, given, Page, quota_given, clean, page_in, tick_table, heads_in, heads_on, heads, told, refusal}
use Rattle.heads.specs.Steps.{only, told_by}
use Rattle.heads.specs.Numbers.{form_in, heads_from}
use Rattle.heads.specs.declared.Box.{Box}
use Rattle.heads.specs.declared.HeadsAnswer.{HeadsAnswer}
use Rattle.heads.specs.declared.reading.Digit.{Digit}
use Rattle.heads.proofs.RowsAt.{rows-length}
use Rattle.heads.proofs.Tests.{both}
use Rattle.heads.proofs.Ticks.{told-by}

pub told-held : {q quota : ℤ} {t u : Digit} (tens units : List ℕ) → q ≡ quota → t ≡ only tens → u ≡ only units → told_by q t u ≡ told quota tens units
told-held {quota = quota} tens units e f g = rw (e, f, g) (told-by quota tens units)

pub read_held : (least : ℕ) {q quota : ℤ} {t table : List (List ℕ)} → q ≡ quota → t ≡ table → heads_in t least q ≡ heads_in table least quota
read_held least e f = rw (e, f)

pub on-held : (page : Page) (marks : List ℕ) (form : List (List Box)) (least : ℕ) {q quota : ℤ} → q ≡ quota → heads_on page marks form least q ≡ heads_on page marks form least quota
on-held page marks form least e = rw e

-- ---- What passed tests tell

pub given-quota : (form : List (List Box)) (least : ℕ) (quota : ℤ) → given form least quota ≡ true → quota_given quota ≡ true
unfolding given
given-quota form least quota e = (both (ltb 0 least) (quota_given quota) (both (all (all ordered) form) (ltb 0 least && quota_given quota) e).1).1

module _ (columns : ℕ) (changes ends marks : List ℕ) where
  pub sound-not : good_rows columns changes 0 ends ≡ false → false ≡ sound columns changes ends marks
  unfolding sound
  sound-not e = sym (rw e)

  pub sound-marks : good_rows columns changes 0 ends ≡ true → marked (length ends) marks ≡ sound columns changes ends marks
  unfolding sound
  sound-marks e = sym (rw e)

  module _ (s : sound columns changes ends marks ≡ true) where
    pub sound-rows : good_rows columns changes 0 ends ≡ true
    unfolding sound
    sound-rows = (both (good_rows columns changes 0 ends) (marked (length ends) marks) s).0

    pub sound-enough : length ends ≤ length marks
    unfolding sound marked
    sound-enough =
        leb-true (length ends) (length marks)
        (both (leb (length ends) (length marks)) (all (λ m. leb m 2) (take (length ends) marks)) (both (good_rows columns changes 0 ends) (marked (length ends) marks) s).1).0

-- ---- The order of the tests

module _ (columns : ℕ) (changes ends marks : List ℕ) (form : List (List Box)) (least : ℕ) (quota : ℤ) where
  abbrev on_page : HeadsAnswer
  on_page = heads_on (page_in columns changes ends) marks form least quota

  pub heads-8 : sound columns changes ends marks ≡ false → refusal 8 ≡ heads columns changes ends marks form least quota
  unfolding heads
  heads-8 e = sym (rw (heads, e))

  pub heads-on : sound columns changes ends marks ≡ true → on_page ≡ heads columns changes ends marks form least quota
  unfolding heads
  heads-on e = sym (rw (heads, e))

  pub on-11 : given form least quota ≡ false → refusal 11 ≡ on_page
  unfolding heads_on
  on-11 e = sym (rw (heads_on, e))

  module _ (g : given form least quota ≡ true) where
    pub on-13 : clean columns (length ends) marks form ≡ false → refusal 13 ≡ on_page
    unfolding heads_on
    on-13 e = sym (rw (heads_on, g, rows-length 0 changes ends, e))

    pub on_read : clean columns (length ends) marks form ≡ true → heads_in (tick_table (page_in columns changes ends) form) least quota ≡ on_page
    unfolding heads_on
    on_read e = sym (rw (heads_on, g, rows-length 0 changes ends, e))

-- the same of a form in numbers
module _ (columns : ℕ) (changes ends marks boxes : List ℕ) (least : ℕ) (quota : ℤ) where
  pub from-8 : sound columns changes ends marks ≡ false → refusal 8 ≡ heads_from columns changes ends marks boxes least quota
  unfolding heads_from
  from-8 e = sym (rw (heads_from, e))

  module _ (s : sound columns changes ends marks ≡ true) where
    pub from-11 : (length boxes ≡ 80 → ⊥) → refusal 11 ≡ heads_from columns changes ends marks boxes least quota
    unfolding heads_from
    from-11 e = sym (rw (heads_from, s, ne_eqb (length boxes) 80 e))

    pub from_on : length boxes ≡ 80 → heads_on (page_in columns changes ends) marks (form_in boxes) least quota ≡ heads_from columns changes ends marks boxes least quota
    unfolding heads_from
    from_on e = sym (rw (heads_from, s, eq-eqb (length boxes) 80 e))

-- One case principle for the answer: each case is handed the outcome of the tests.
module _ (columns : ℕ) (changes ends marks : List ℕ) (form : List (List Box)) (least : ℕ) (quota : ℤ) (P : HeadsAnswer → Type 0) where
  abbrev is_sound : Bool
  is_sound = sound columns changes ends marks

  abbrev is_given : Bool
  is_given = given form least quota

  abbrev is_clean : Bool
  is_clean = clean columns (length ends) marks form

  abbrev read : HeadsAnswer
  read = heads_in (tick_table (page_in columns changes ends) form) least quota

  pub heads-cases :
      (is_sound ≡ false → P (refusal 8)) → (is_sound ≡ true → is_given ≡ false → P (refusal 11))
      → (is_sound ≡ true → is_given ≡ true → is_clean ≡ false → P (refusal 13))
      → (is_sound ≡ true → is_given ≡ true → is_clean ≡ true → P read)
      → {r : HeadsAnswer} → r ≡ heads columns changes ends marks form least quota → P r
  unfolding heads heads_on
  heads-cases p8 p11 p13 p0 e =
      rw e (by is_sound refl is_given refl (clean columns (length (rows_in 0 changes ends)) marks form) (ap (λ n. clean columns n marks form) (sym (rows-length 0 changes ends))))
    where
      by : (s : Bool) → is_sound ≡ s → (g : Bool) → is_given ≡ g → (k : Bool) → is_clean ≡ k
          → P (elim s [ false ↦ refusal 8 | true ↦ elim g [ false ↦ refusal 11 | true ↦ elim k [ false ↦ refusal 13 | true ↦ read ] ] ])
      by false s g g' k k' = p8 s
      by true s false g k k' = p11 s g
      by true s true g false k = p13 s g k
      by true s true g true k = p0 s g k
