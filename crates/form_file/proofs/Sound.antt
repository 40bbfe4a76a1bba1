-- Laws of a form that is sound: each test of what was heard hands its outcome to one of these. Assumes nothing.
use mathlib.Core.Path.{◌≡◌, refl, sym, ap, ◌∙◌}
use mathlib.Core.Bool.{Bool, true, false, not, ◌&&◌}
use mathlib.Core.List.{List, []}
use Prim.Native.Nat.{ℕ, ◌+◌, ◌*◌, ◌≤◌, ◌<◌}
use native.Mathlib.Omega.{arith}
use lib.Dec.{eqb}
use lib.ListN.{get_or, take}
use lib.Seq.{get_or-take}
use borrow.Author.Tests.{eq-eqb, ne_eqb, le-leb, lt-leb, lt-ltb, le-ltb}
use Rattle.heads.specs.Numbers.{box_in}
use Rattle.heads.specs.declared.Box.{Box}
use Rattle.ledger.specs.Verdicts.{bad_numbers, missing_line, outside_page, overlapping}
use Rattle.form_file.specs.First.{first_of}
use Rattle.form_file.specs.Heard.{Heard, has_shift}
use Rattle.form_file.specs.FormFile.{no_page, no_tick, no_place, no_box, nothing_missing, first_unsaid, first_missing, inside, box_at, place_at, box_outside, overlaps, box_over, place_outside, faulty, doubted, whole}
use Rattle.form_file.specs.Going.{heard_in, within}
use Rattle.form_file.specs.declared.Form.{Form}
use Rattle.form_file.proofs.Firsts.{first-high, first-same}

-- ---- What is missing

module _ (h : Heard) where
  pub lacks-page : h.form.columns ≡ 0 → no_page ≡ first_missing h
  unfolding first_missing
  lacks-page e = sym (rw (first_missing, eq-eqb h.form.columns 0 e))

  module _ (page : h.form.columns ≡ 0 → ⊥) where
    pub lacks-tick : h.form.tick ≡ 0 → no_tick ≡ first_missing h
    unfolding first_missing
    lacks-tick e = sym (rw (first_missing, ne_eqb h.form.columns 0 page, eq-eqb h.form.tick 0 e))

    module _ (tick : h.form.tick ≡ 0 → ⊥) (k : ℕ) (is : k ≡ first_unsaid h) where
      pub lacks-box : k < 20 → k ≡ first_missing h
      unfolding first_missing
      lacks-box l = is ∙ sym (rw (first_missing, ne_eqb h.form.columns 0 page, ne_eqb h.form.tick 0 tick, lt-ltb (first_unsaid h) 20 (omega arith)))

      module _ (l : 20 ≤ k) where
        abbrev last : Bool → ℕ
        last t = elim t [ true ↦ no_place | false ↦ nothing_missing ]

        lacks-last : first_missing h ≡ last (has_shift h.form && eqb h.form.places 0)
        unfolding first_missing
        lacks-last = rw (first_missing, ne_eqb h.form.columns 0 page, ne_eqb h.form.tick 0 tick, le-ltb (first_unsaid h) 20 (omega arith))

        pub lacks-nothing : (h.form.places ≡ 0 → ⊥) → nothing_missing ≡ first_missing h
        lacks-nothing e = sym (lacks-last ∙ rw (ne_eqb h.form.places 0 e) (by (has_shift h.form)))
          where
            by : (t : Bool) → last (t && false) ≡ nothing_missing
            by true = refl
            by false = refl

        module _ (e : h.form.places ≡ 0) {t : Bool} (s : t ≡ has_shift h.form) where
          pub lacks-place : t ≡ true → no_place ≡ first_missing h
          lacks-place z = sym (lacks-last ∙ rw (← s, z, eq-eqb h.form.places 0 e))

          pub lacks-none : t ≡ false → nothing_missing ≡ first_missing h
          lacks-none z = sym (lacks-last ∙ rw (← s, z))

-- ---- The tests, one behind the other, by what is lent: the places that were heard are the first there

-- what is missing is seen from the form and the lines
missing-same : (f : Form) (boxes lines places : List ℕ) → first_missing (heard_in f [] lines []) ≡ first_missing (heard_in f boxes lines places)
unfolding first_missing
missing-same f boxes lines places = refl

-- a place that was heard
place_same : (f : Form) (places : List ℕ) (k : ℕ) → k < f.places → box_in places (7 * k + 1) ≡ place_at (take (7 * f.places) places) k
place_same f places k l =
    let at : (m : ℕ) → m < 7 * k + 7 → get_or places m 0 ≡ get_or (take (7 * f.places) places) m 0 =
    λ m h. sym (get_or-take (7 * f.places) places m 0 (omega arith)) in
    rw (at (7 * k + 1) (omega arith), at (7 * k + 1 + 1) (omega arith), at (7 * k + 1 + 2) (omega arith), at (7 * k + 1 + 3) (omega arith))

-- the first place that is not inside
abbrev out_of : Form → List ℕ → ℕ
out_of f places = first_of (λ k. not (within f.columns f.least (box_in places (7 * k + 1)))) f.places 0

out-same : (f : Form) (boxes lines places : List ℕ) → out_of f places ≡ place_outside (heard_in f boxes lines places)
out-same f boxes lines places = first-same _ _ f.places 0 (λ k l m. ap (λ (b : Box). not (inside f b)) (place_same f places k (omega arith)))

module _ (f : Form) (boxes lines places : List ℕ) (lacks : ℕ) (missing : lacks ≡ first_missing (heard_in f [] lines [])) where
  is-missing : lacks ≡ first_missing (heard_in f boxes lines places)
  is-missing = missing ∙ missing-same f boxes lines places

  pub whole-lacks : (lacks ≡ nothing_missing → ⊥) → faulty missing_line lacks 0 ≡ whole (heard_in f boxes lines places)
  unfolding whole
  whole-lacks e = rw is-missing (sym (rw (whole, ne_eqb (first_missing (heard_in f boxes lines places)) nothing_missing (λ z. e (is-missing ∙ z)))))

  module _ (none : lacks ≡ nothing_missing) where
    said : eqb (first_missing (heard_in f boxes lines places)) nothing_missing ≡ true
    said = eq-eqb (first_missing (heard_in f boxes lines places)) nothing_missing (sym is-missing ∙ none)

    pub whole-doubt : f.tick < f.doubt → faulty bad_numbers 0 0 ≡ whole (heard_in f boxes lines places)
    unfolding whole
    whole-doubt e = sym (rw (whole, said, lt-leb f.doubt f.tick e))

    module _ (sure : f.doubt ≤ f.tick) (k : ℕ) (out : k ≡ box_outside (heard_in f boxes lines places)) where
      pub whole-outside : k < 20 → faulty outside_page k (get_or lines k 0) ≡ whole (heard_in f boxes lines places)
      unfolding whole
      whole-outside e = rw out (sym (rw (whole, said, le-leb f.doubt f.tick sure, ne_eqb (box_outside (heard_in f boxes lines places)) 20 (λ z. omega arith))))

      module _ (on : 20 ≤ k) (m : ℕ) (over : m ≡ box_over (heard_in f boxes lines places)) where
        lies : eqb (box_outside (heard_in f boxes lines places)) 20 ≡ true
        lies = eq-eqb (box_outside (heard_in f boxes lines places)) 20 (omega (arith, first-high (λ i. not (inside f (box_at boxes i))) 20 0))

        pub whole-over : m < 20 → faulty overlapping m (get_or lines m 0) ≡ whole (heard_in f boxes lines places)
        unfolding whole
        whole-over e = rw over (sym (rw (whole, said, le-leb f.doubt f.tick sure, lies, ne_eqb (box_over (heard_in f boxes lines places)) 20 (λ z. omega arith))))

        module _ (free : 20 ≤ m) (p : ℕ) (place : p ≡ out_of f places) where
          apart : eqb (box_over (heard_in f boxes lines places)) 20 ≡ true
          apart = eq-eqb (box_over (heard_in f boxes lines places)) 20 (omega (arith, first-high (overlaps boxes) 20 0))

          first_out : p ≡ place_outside (heard_in f boxes lines places)
          first_out = place ∙ out-same f boxes lines places

          pub whole-place : p < f.places → faulty outside_page no_box (get_or places (7 * p + 6) 0) ≡ whole (heard_in f boxes lines places)
          unfolding whole
          whole-place e =
              ap (faulty outside_page no_box) (sym (get_or-take (7 * f.places) places (7 * p + 6) 0 (omega arith)))
              ∙ rw first_out
              (sym (rw (whole, said, le-leb f.doubt f.tick sure, lies, apart, ne_eqb (place_outside (heard_in f boxes lines places)) f.places (λ z. omega (arith, first_out)))))

          pub whole-sound : f.places ≤ p → (g : Form) → g ≡ doubted f → record { number = 0; which = 0; line = 0; form = g } ≡ whole (heard_in f boxes lines places)
          unfolding whole
          whole-sound e g d =
              rw d
              (sym
              (rw
              (whole, said, le-leb f.doubt f.tick sure, lies, apart, eq-eqb (place_outside (heard_in f boxes lines places)) f.places (omega (arith, first_out, first-high (λ i. not (inside f (place_at (take (7 * f.places) places) i))) f.places 0)))))
