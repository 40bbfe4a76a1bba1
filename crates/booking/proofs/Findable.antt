-- What it means that a form was found. Assumes nothing.
use mathlib.Core.Path.{◌≡◌, refl, sym, ap, ◌∙◌}
use mathlib.Core.Bool.{Bool, true, false, not, ◌&&◌, true≢false}
use mathlib.Core.List.{List}
use Prim.Native.Nat.{ℕ, zero, suc, ◌+◌, ◌-◌, ◌*◌, ◌/◌, ◌≤◌, ◌<◌}
use native.Mathlib.Omega.{arith}
use lib.Dec.{eqb, leb, ltb}
use lib.ListN.{length}
use borrow.Author.Tests.{eqb-true, eqb-false, ltb-true, ltb-false, eq-eqb, not-true, not-false}
use Rattle.rules.specs.Pages as Page
use Rattle.settings.specs.declared.DecodeSettings.{DecodeSettings}
use Rattle.heads.specs.Form as Heads
use Rattle.heads.proofs.Tests.{both, every-at}
use Rattle.form_file.specs.First.{first_of, count_of}
use Rattle.form_file.specs.Heard.{has_shift}
use Rattle.form_file.specs.FormFile.{place_at}
use Rattle.form_file.specs.declared.Form.{Form}
use Rattle.form_file.proofs.Firsts.{first-before, first_passes}
use Rattle.booking.specs.Tests as T
use Rattle.booking.specs.Tests.{finding, plainly, on_page}
use Rattle.booking.specs.Found as F
use Rattle.booking.specs.Found.{box_inside, right_of, down_of, is_inside, failing, fits_at, found_at, found_behind, looked_for, can_look_for, on_form}
use Rattle.booking.specs.Verdict.{page_of, verdict_on}
use Rattle.booking.specs.Means.{Counts, FoundCounts, FoundMeans}
use Rattle.booking.specs.declared.Finding.{Finding}
use Rattle.booking.proofs.Firsts.{first_some, first-none, none_passes}
use Rattle.booking.proofs.Moved.{boxes_long, places_long}
use Rattle.booking.proofs.Seeking.{best-inside}
use Rattle.booking.proofs.Tested.{on_both}
use Rattle.booking.proofs.Means.{true-arm, false-arm, passes, Before, verdict-came, counts}

count-nothing : (test : ℕ → Bool) (n i : ℕ) → ((x : ℕ) → i ≤ x → x < i + n → test x ≡ false) → count_of test n i ≡ 0
unfolding count_of
count-nothing test zero i f = refl
count-nothing test (suc n) i f = rw (count_of, f i (omega arith) (omega arith)) (count-nothing test n (suc i) (λ x h k. f x (omega arith) (omega arith)))

module _ (form : Form) (boxes places : List ℕ) (s : DecodeSettings) (page : Heads.Page) (marks : List ℕ) where
  abbrev found : ℕ → Finding
  found = found_at form boxes places s.encoding page marks

  abbrev fits : ℕ → Bool
  fits = F.fits_in form boxes places s.encoding page marks

  abbrev last : ℕ
  last = F.reach form boxes places s.encoding page marks

  abbrev first : ℕ
  first = F.first form boxes places s.encoding page marks

  abbrev best : ℕ
  best = F.best form boxes places s.encoding page marks

  abbrev boxes_of : ℕ → List ℕ
  boxes_of = F.boxes_in form boxes places s.encoding page marks

  abbrev places_of : ℕ → List ℕ
  places_of = F.places_in form boxes places s.encoding page marks

  -- ---- What is found at an offset is what is found on the page of the form that lies there

  pub on-there : (j : ℕ) → found j ≡ on_page form (boxes_of j) (places_of j) s.encoding page marks
  unfolding found_at
  on-there j =
      let u = right_of form.across form.down form.places boxes places page j in
      let v = down_of form.across form.down form.places boxes places page j in
      on_both form (boxes_of j) (places_of j) s.encoding page marks (boxes_long form.across form.down u v boxes)
      (let e = places_long form.across form.down u v form.places places in omega arith)

  -- one that lies inside and counts, fits
  counts-fits : (j : ℕ) → is_inside form.across form.down form.places boxes places page j ≡ true → (found j).number ≡ 0 → fits j ≡ true
  unfolding fits_at
  counts-fits j i e =
      let on = passes form (boxes_of j) (places_of j) s page marks (sym (ap (λ (f : Finding). f.number) (on-there j)) ∙ e) in
      let u = right_of form.across form.down form.places boxes places page j in
      let v = down_of form.across form.down form.places boxes places page j in
      let inside = (both (F.boxes_inside form.across form.down u v page.columns (length page.rows) boxes) _ i).1 in
      let none : failing form.across form.down form.places boxes places page j ≡ 0 =
      count-nothing (λ k. not (F.stands form.across form.down form.places boxes places page j k)) form.places 0
      (λ k l h. ap not (conj (every-at (λ k. box_inside form.across form.down u v page.columns (length page.rows) (place_at places k)) form.places 0 inside k l h)
      (not-false _ (none_passes (λ k. not (T.place_holds form (boxes_of j) (places_of j) s.encoding page marks k)) form.places on.right k (omega arith))))) in
      rw (fits_at, i, eq-eqb (failing form.across form.down form.places boxes places page j) 0 none)
    where
      conj : {a b : Bool} → a ≡ true → b ≡ true → (a && b) ≡ true
      conj p q = rw (p, q)

  -- ---- By the arms

  -- where it fits nowhere, nothing is counted
  not-best : last ≤ first → best < last → (found best).number ≡ 0 → ⊥
  not-best h l e =
      let i = best-inside form.across form.down form.places boxes places page last last 0 last (suc form.places) (λ z. absurd (omega arith)) l in
      true≢false (sym (counts-fits best i e) ∙ first-none fits last 0 (omega (arith, h)) best (omega arith) (omega (arith, l)))

  abbrev other : ℕ
  other = F.other_fit form boxes places s.encoding page marks (found first).heads (suc first)

  pub record Fitting : Type 0 where
    pub near : first < last
    pub counted : (found first).number ≡ 0
    pub alone : last ≤ other
    pub is : looked_for form boxes places s.encoding page marks ≡ found first

  behind : (found_behind form boxes places s.encoding page marks first).number ≡ 0 → (last ≤ other) × (found_behind form boxes places s.encoding page marks first ≡ found first)
  unfolding found_behind
  behind e = by (ltb other last) refl
    where
      by : (t : Bool) → ltb other last ≡ t → (last ≤ other) × (found_behind form boxes places s.encoding page marks first ≡ found first)
      by false p = (ltb-false other last p, rw (found_behind, p))
      by true p =
          let q = true-arm (eqb (found other).number 0) (finding 25 0 0 0 0 (found first).heads (found other).heads) (found other)
          (λ t z. eqb-false (found other).number 0 t z) (rw (found_behind, p) at e) in
          absurd (let z : ◌≡◌ {A = ℕ} 25 0 = q.1 in omega arith)

  pub fitting : (looked_for form boxes places s.encoding page marks).number ≡ 0 → Fitting
  unfolding looked_for
  fitting e = by (ltb first last) refl
    where
      by : (t : Bool) → ltb first last ≡ t → Fitting
      by false p = absurd (nowhere (ltb best last) refl)
        where
          nowhere : (t : Bool) → ltb best last ≡ t → ⊥
          nowhere true q = not-best (ltb-false first last p) (ltb-true best last q) (rw (looked_for, p, q) at e)
          nowhere false q = let z : ◌≡◌ {A = ℕ} 11 0 = rw (looked_for, p, q) at e in omega arith
      by true p =
          let q = true-arm (eqb (found first).number 0) (found_behind form boxes places s.encoding page marks first) (found first)
          (λ t z. eqb-false (found first).number 0 t z) (rw (looked_for, p) at e) in
          let b = behind q.1 in
          record {
            near = ltb-true first last p;
            counted = eqb-true (found first).number 0 q.0;
            alone = b.0;
            is = rw (looked_for, p, q.0) b.1;
          }

  -- ---- At every offset at which it fits

  module _ (f : Fitting) (j : ℕ) (h : j < last) (e : fits j ≡ true) where
    agrees : (eqb (found j).number 0 && eqb (found j).heads (found first).heads) ≡ true → ((found j).number ≡ 0) × ((found j).heads ≡ (found first).heads)
    agrees z = let p = both _ _ z in (eqb-true (found j).number 0 p.0, eqb-true (found j).heads (found first).heads p.1)

    pub same-heads : ((found j).number ≡ 0) × ((found j).heads ≡ (found first).heads)
    same-heads = by (ltb j first) refl (ltb first j) refl
      where
        by : (t : Bool) → ltb j first ≡ t → (u : Bool) → ltb first j ≡ u → ((found j).number ≡ 0) × ((found j).heads ≡ (found first).heads)
        by true p u q = absurd (true≢false (sym e ∙ first-before fits last 0 j (omega arith) (ltb-true j first p)))
        by false p true q =
            let d = first-none (F.differs form boxes places s.encoding page marks (found first).heads) (last - suc first) (suc first)
            (omega (arith, f.alone, f.near)) j (ltb-true first j q) (omega (arith, f.near)) in
            agrees (not-false _ (rw e at d))
        by false p false q =
            let z : j ≡ first = omega (arith, ltb-false j first p, ltb-false first j q) in
            (ap (λ (n : ℕ). (found n).number) z ∙ f.counted, ap (λ (n : ℕ). (found n).heads) z)

-- ---- The verdict

pub found-means : FoundMeans
unfolding on_form
found-means form boxes places s src gave a z e =
    let b = verdict-came form boxes places s src gave a e in
    let page = page_of form boxes places s (length src) a in
    let l = true-arm (can_look_for form boxes places) (looked_for form boxes places s.encoding page a.marks) (plainly 11) (λ t y. omega arith) (rw (on_form, z) at b.counted) in
    let f = fitting form boxes places s page a.marks l.1 in
    record {
      offset = F.first form boxes places s.encoding page a.marks;
      near = f.near;
      fitting = first_passes (F.fits_in form boxes places s.encoding page a.marks) (F.reach form boxes places s.encoding page a.marks) 0 (omega (arith, f.near));
      each = λ j h y.
          let m = same-heads form boxes places s page a.marks f j h y in
          let o = on-there form boxes places s page a.marks j in
          counts form boxes places s src gave a b _ _ (sym (ap (λ (x : Finding). x.number) o) ∙ m.0) _
          (b.heads_are ∙ rw (on_form, z, l.0) (ap (λ (x : Finding). x.heads) f.is) ∙ sym m.1 ∙ ap (λ (x : Finding). x.heads) o);
    }
