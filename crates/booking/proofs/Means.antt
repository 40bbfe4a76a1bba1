-- What a page that is counted means. Assumes nothing.
use mathlib.Core.Path.{◌≡◌, refl, sym, ap, ◌∙◌}
use mathlib.Core.Bool.{Bool, true, false, not, ◌&&◌, ◌||◌}
use mathlib.Core.List.{List}
use Prim.Native.Nat.{ℕ, ◌-◌, ◌/◌, ◌≤◌, ◌<◌}
use native.Mathlib.Omega.{arith}
use lib.Dec.{eqb, leb, ltb}
use lib.IntN.{pos}
use lib.ListN.{length, get_or}
use borrow.Author.Tests.{eqb-true, eqb-false, leb-true, ltb-true, lt-ltb, not-true, not-false}
use Rattle.rules.specs.Pages as Page
use Rattle.rules.specs.Proper.{is_proper, parts_in}
use Rattle.settings.specs.Settings.{settings_of}
use Rattle.settings.specs.declared.DecodeSettings.{DecodeSettings}
use Rattle.heads.specs.Form as Heads
use Rattle.heads.specs.Form.{touches, clean_under, heads_on}
use Rattle.heads.specs.Numbers.{form_in}
use Rattle.heads.specs.declared.Box.{Box}
use Rattle.heads.specs.declared.HeadsAnswer.{HeadsAnswer}
use Rattle.heads.proofs.Tests.{every-all}
use Rattle.form_file.specs.Heard.{has_shift}
use Rattle.form_file.specs.FormFile.{place_at}
use Rattle.form_file.specs.declared.Form.{Form}
use Rattle.booking.specs.Tests as T
use Rattle.booking.specs.Tests.{finding, under_above, bad_row, tested, on_page, wrong_at, not_one}
use Rattle.booking.specs.Found.{on_form}
use Rattle.booking.specs.Verdict.{fits, page_of, judged, verdict_on}
use Rattle.booking.specs.Means.{Counts, CountedMeans}
use Rattle.booking.specs.declared.Finding.{Finding}
use Rattle.form_file.proofs.Firsts.{first-before}
use Rattle.booking.proofs.Firsts.{none_passes, one_passes}

-- ---- A finding whose number is 0 came by one arm

pub true-arm : (t : Bool) (x y : Finding) → (t ≡ false → y.number ≡ 0 → ⊥) → (elim t as (λ z. Finding) [ true ↦ x | false ↦ y ]).number ≡ 0 → (t ≡ true) × (x.number ≡ 0)
true-arm true x y n e = (refl, e)
true-arm false x y n e = absurd (n refl e)

pub false-arm : (t : Bool) (x y : Finding) → (x.number ≡ 0 → ⊥) → (elim t as (λ z. Finding) [ true ↦ x | false ↦ y ]).number ≡ 0 → (t ≡ false) × (y.number ≡ 0)
false-arm true x y n e = absurd (n e)
false-arm false x y n e = (refl, e)

both : (t u : Bool) → (t && u) ≡ true → (t ≡ true) × (u ≡ true)
both true true e = (refl, refl)
both true false e = absurd (let z : ◌≡◌ {A = ℕ} 0 1 = cc in omega arith)
both false u e = absurd (let z : ◌≡◌ {A = ℕ} 0 1 = cc in omega arith)

-- ---- The tests of a page

module _ (form : Form) (boxes places : List ℕ) (s : DecodeSettings) (page : Heads.Page) (marks : List ℕ) where
  abbrev h : HeadsAnswer
  h = heads_on page marks (form_in boxes) form.tick (pos 0)

  wrong-counts : (k : ℕ) → (wrong_at form boxes places s.encoding page marks k).number ≡ 0 → ⊥
  unfolding wrong_at
  wrong-counts k = by (T.is_black form boxes places s.encoding page marks k)
    where
      by : (t : Bool) → (elim t as (λ z. Finding) [
        | true ↦ finding 20 0 (T.line_of form boxes places s.encoding page marks k) 0 (T.in_place form boxes places s.encoding page marks k) (T.asked form boxes places s.encoding page marks k) 0
        | false ↦ finding 21 0 (T.line_of form boxes places s.encoding page marks k) 0 (T.in_place form boxes places s.encoding page marks k) 0 (T.asked form boxes places s.encoding page marks k)
      ]).number ≡ 0 → ⊥
      by true e = omega arith
      by false e = omega arith

  no-one-counts : (not_one form boxes places s.encoding page marks).number ≡ 0 → ⊥
  unfolding not_one
  no-one-counts = by (eqb (T.ticks_in form boxes places s.encoding page marks 0) 1)
    where
      by : (t : Bool) → (elim t as (λ z. Finding) [
        | false ↦ finding 12 0 0 0 (T.ticks_in form boxes places s.encoding page marks 0) 1 1
        | true ↦ finding 12 1 0 0 (T.ticks_in form boxes places s.encoding page marks 1) 1 1
      ]).number ≡ 0 → ⊥
      by true e = omega arith
      by false e = omega arith

  -- all that was passed
  pub record Passes : Type 0 where
    pub boxed : length boxes ≡ 80
    pub placed : form.places ≤ length places / 7
    pub answer : h.number ≡ 0
    pub rests : bad_row form boxes places s.encoding page marks ≡ length page.rows
    pub right : T.wrong_place form boxes places s.encoding page marks ≡ form.places
    pub sure : T.doubtful form boxes places s.encoding page marks ≡ 20
    pub is : (on_page form boxes places s.encoding page marks).heads ≡ h.heads

  pub passes : (on_page form boxes places s.encoding page marks).number ≡ 0 → Passes
  unfolding on_page tested
  passes e =
      let p = true-arm (eqb (length boxes) 80 && leb form.places (length places / 7)) _ _ (λ t z. omega arith) e in
      let q1 = false-arm (eqb h.number 11) _ _ (λ z. omega arith) p.1 in
      let q2 = false-arm (eqb h.number 13) _ _ (λ z. omega arith) q1.1 in
      let q3 = true-arm (eqb (bad_row form boxes places s.encoding page marks) (length page.rows)) _ _ (λ t z. omega arith) q2.1 in
      let q4 = true-arm (eqb (T.wrong_place form boxes places s.encoding page marks) form.places) _ _ (λ t z. wrong-counts (T.wrong_place form boxes places s.encoding page marks) z) q3.1 in
      let q5 = true-arm (eqb (T.doubtful form boxes places s.encoding page marks) 20) _ _ (λ t z. omega arith) q4.1 in
      let q6 = true-arm (eqb h.number 0) _ _ (λ t z. no-one-counts z) q5.1 in
      let b = both _ _ p.0 in
      record {
        boxed = eqb-true (length boxes) 80 b.0;
        placed = leb-true form.places (length places / 7) b.1;
        answer = eqb-true h.number 0 q6.0;
        rests = eqb-true (bad_row form boxes places s.encoding page marks) (length page.rows) q3.0;
        right = eqb-true (T.wrong_place form boxes places s.encoding page marks) form.places q4.0;
        sure = eqb-true (T.doubtful form boxes places s.encoding page marks) 20 q5.0;
        is = rw (on_page, p.0, tested, q1.0, q2.0, q3.0, q4.0, q5.0, q6.0);
      }

  -- ---- The rows that the form rests on

  clean_above : bad_row form boxes places s.encoding page marks ≡ length page.rows → under_above s.encoding ≡ true
      → (y : ℕ) → y < length page.rows → y < T.lowest_of_all form boxes places s.encoding page marks → get_or marks y 0 ≡ 0
  unfolding bad_row
  clean_above rests e y l low =
      let n = none_passes (λ y. ltb y (T.lowest_of_all form boxes places s.encoding page marks) && T.unclean form boxes places s.encoding page marks y) (length page.rows) (sym (rw (bad_row, e)) ∙ rests) y l in
      eqb-true (get_or marks y 0) 0 (not-false (eqb (get_or marks y 0) 0) (rw (lt-ltb y (T.lowest_of_all form boxes places s.encoding page marks) low) at n))

  -- a box whose first row that is not clean is behind the page touches clean rows alone
  clean-box : (b : Box) → T.bad_row_in form boxes places s.encoding page marks b ≡ length page.rows → clean_under page.columns (length page.rows) marks b ≡ true
  unfolding clean_under
  clean-box b e =
      every-all (λ y. not (touches page.columns b y) || eqb (get_or marks y 0) 0) (length page.rows) 0
      (λ y p q. by y (omega arith) (leb b.top y) (leb-true b.top y) (ltb y b.bottom) (ltb-true y b.bottom) (ltb b.left b.right && ltb b.left page.columns))
    where
      either : (t : Bool) → (t || true) ≡ true
      either true = refl
      either false = refl

      by : (y : ℕ) → y < length page.rows → (t : Bool) → (t ≡ true → b.top ≤ y) → (u : Bool) → (u ≡ true → y < b.bottom) → (v : Bool)
          → (not ((t && u) && v) || eqb (get_or marks y 0) 0) ≡ true
      by y l true f true g v =
          let c = first-before (T.unclean form boxes places s.encoding page marks) (b.bottom - b.top) b.top y (f refl) (omega (arith, e)) in
          rw (not-false (eqb (get_or marks y 0) 0) c) (either (not v))
      by y l true f false g v = refl
      by y l false f u g v = refl

  clean_places : bad_row form boxes places s.encoding page marks ≡ length page.rows → under_above s.encoding ≡ false
      → (k : ℕ) → k < form.places → clean_under page.columns (length page.rows) marks (place_at places k) ≡ true
  unfolding bad_row
  clean_places rests e k l = by (eqb (T.bad_place form boxes places s.encoding page marks) form.places) refl
    where
      touching : ℕ → Bool
      touching k = not (clean_under page.columns (length page.rows) marks (place_at places k))

      by : (t : Bool) → eqb (T.bad_place form boxes places s.encoding page marks) form.places ≡ t → clean_under page.columns (length page.rows) marks (place_at places k) ≡ true
      by true p = not-false _ (none_passes touching form.places (eqb-true _ form.places p) k l)
      by false p =
          let b = T.bad_place form boxes places s.encoding page marks in
          let f = clean-box (place_at places b) (sym (rw (bad_row, e, p)) ∙ rests) in
          let g = not-true _ (one_passes touching form.places (eqb-false _ form.places p)) in
          absurd (let z : ◌≡◌ {A = Bool} true false = sym f ∙ g in let y : ◌≡◌ {A = ℕ} 0 1 = cc in omega arith)

-- ---- The verdict

module _ (form : Form) (boxes places : List ℕ) (s : DecodeSettings) (src : List ℕ) (gave : Bool) (a : Page.Answer) where
  abbrev size : ℕ
  size = length src

  abbrev page : Heads.Page
  page = page_of form boxes places s size a

  abbrev proper : Bool
  proper = is_proper (settings_of s) src a

  abbrev parts : ℕ
  parts = parts_in (settings_of s) src a

  -- a page that is not found at fault for it is proper, where the form asks for it
  asked : (t p : Bool) → (t && not p) ≡ false → t ≡ true → p ≡ true
  asked true true e z = refl
  asked true false e z = absurd (let z : ◌≡◌ {A = ℕ} 0 1 = cc in omega arith)
  asked false p e z = absurd (let z : ◌≡◌ {A = ℕ} 0 1 = cc in omega arith)

  abbrev found : Finding
  found = on_form form boxes places s.encoding page a.marks

  -- what comes before the form is looked at
  pub record Before (heads : ℕ) : Type 0 where
    pub fitting : fits form s ≡ true
    pub read : a.number ≡ 0
    pub columns : s.columns ≡ form.columns
    pub all_bytes : a.bytes ≡ length src
    pub enough_rows : form.least ≤ length a.rows
    pub few_rows : length a.rows ≤ form.most
    pub eols_kept : gave ≡ false
    pub proper_if : form.proper ≡ true → is_proper (settings_of s) src a ≡ true
    pub counted : found.number ≡ 0
    pub heads_are : heads ≡ found.heads

  came : (judged form boxes places s size gave proper parts a).number ≡ 0 → Before (judged form boxes places s size gave proper parts a).heads
  unfolding judged
  came e =
      let p0 = true-arm (fits form s) _ _ (λ t z. omega arith) e in
      let p1 = true-arm (eqb a.number 0) _ _ (λ t z. eqb-false a.number 0 t z) p0.1 in
      let p2 = true-arm (eqb s.columns form.columns) _ _ (λ t z. omega arith) p1.1 in
      let p3 = true-arm (eqb a.bytes size) _ _ (λ t z. omega arith) p2.1 in
      let g = false-arm gave _ _ (λ z. omega arith) p3.1 in
      let p4 = true-arm (leb form.least (length a.rows) && leb (length a.rows) form.most) _ _ (λ t z. omega arith) g.1 in
      let p5 = false-arm (form.proper && not proper) _ _ (λ z. omega arith) p4.1 in
      let b = both _ _ p4.0 in
      record {
        fitting = p0.0;
        read = eqb-true a.number 0 p1.0;
        columns = eqb-true s.columns form.columns p2.0;
        all_bytes = eqb-true a.bytes size p3.0;
        enough_rows = leb-true form.least (length a.rows) b.0;
        few_rows = leb-true (length a.rows) form.most b.1;
        eols_kept = g.0;
        proper_if = asked form.proper proper p5.0;
        counted = p5.1;
        heads_are = rw (judged, p0.0, p1.0, p2.0, p3.0, g.0, p4.0, p5.0);
      }

  pub verdict-came : (verdict_on form boxes places s src gave a).number ≡ 0 → Before (verdict_on form boxes places s src gave a).heads
  unfolding verdict_on
  verdict-came e = came e

  -- by the numbers of the boxes and the places where the form lies
  pub counts : {n : ℕ} → Before n → (bs ps : List ℕ) → (on_page form bs ps s.encoding page a.marks).number ≡ 0
      → (heads : ℕ) → heads ≡ (on_page form bs ps s.encoding page a.marks).heads → Counts form bs ps s src gave a heads
  counts f bs ps e heads is =
      let on = passes form bs ps s page a.marks e in
      record {
        fitting = f.fitting;
        read = f.read;
        columns = f.columns;
        all_bytes = f.all_bytes;
        enough_rows = f.enough_rows;
        few_rows = f.few_rows;
        eols_kept = f.eols_kept;
        proper_if = f.proper_if;
        boxed = on.boxed;
        placed = on.placed;
        answer = on.answer;
        heads_are = is ∙ on.is;
        clean_above = clean_above form bs ps s page a.marks on.rests;
        clean_places = clean_places form bs ps s page a.marks on.rests;
        places_hold = λ k l. not-false _ (none_passes (λ k. not (T.place_holds form bs ps s.encoding page a.marks k)) form.places on.right k l);
        no_doubt = λ k l. none_passes (T.doubts form bs ps s.encoding page a.marks) 20 on.sure k l;
      }

  -- without a shift it lies at its place
  pub still : has_shift form ≡ false → found ≡ on_page form boxes places s.encoding page a.marks
  unfolding on_form
  still z = rw (on_form, z)

pub counted-means : CountedMeans
counted-means form boxes places s src gave a z e =
    let b = verdict-came form boxes places s src gave a e in
    let q = still form boxes places s src gave a z in
    counts form boxes places s src gave a b boxes places (sym (ap (λ (f : Finding). f.number) q) ∙ b.counted) _ (b.heads_are ∙ ap (λ (f : Finding). f.heads) q)
