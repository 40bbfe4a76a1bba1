-- What is found on a page, test by test. Assumes nothing.
use mathlib.Core.Path.{◌≡◌, refl, sym, ap, ◌∙◌}
use mathlib.Core.List.{List}
use Prim.Native.Nat.{ℕ, suc, ◌/◌, ◌≤◌, ◌<◌}
use native.Mathlib.Omega.{arith}
use lib.IntN.{pos}
use lib.ListN.{length, get_or}
use borrow.Author.Tests.{eq-eqb, ne_eqb, le-leb, lt-leb}
use Rattle.rules.specs.Answers.{bad_form}
use Rattle.settings.specs.declared.EncodingMode.{EncodingMode}
use Rattle.heads.specs.Form.{Page, page_in, black_in, heads_on}
use Rattle.heads.specs.Numbers.{form_in, heads_from}
use Rattle.heads.specs.Steps.{Sound}
use Rattle.heads.specs.declared.Box.{Box}
use Rattle.heads.specs.declared.HeadsAnswer.{HeadsAnswer}
use Rattle.heads.proofs.RowsAt.{rows-length}
use Rattle.heads.proofs.Answering.{from_on}
use Rattle.form_file.specs.First.{first_of}
use Rattle.form_file.specs.FormFile.{box_at}
use Rattle.form_file.specs.declared.Form.{Form}
use Rattle.ledger.specs.Verdicts.{unclean_row, in_doubt}
use Rattle.booking.specs.declared.Finding.{Finding}
use Rattle.booking.specs.Tests.{finding, plainly, counted_as, bad_row, wrong_at, not_one, tested, on_page}
use Rattle.booking.specs.Testing.{Sized, box_touches, fails_at, wrong_for, doubts_at, in_doubt_of, not_one_of, mended_on, standing, tested_on}
use Rattle.form_file.proofs.Firsts.{first-high}
use Rattle.booking.proofs.Resting.{rests-within}
use Rattle.booking.proofs.Touching.{touched-13}

-- ---- Where the rows are clean

module _ (form : Form) (boxes places : List ℕ) (page : Page) (said heads : ℕ) {k : ℕ} (e : k ≡ first_of (fails_at page places) form.places 0) where
  abbrev stands : Finding
  stands = standing form boxes places page said heads

  pub stands-wrong : k < form.places → wrong_for page places k ≡ stands
  unfolding standing
  stands-wrong h = sym (rw (standing, ← e, ne_eqb k form.places (λ q. omega arith), ← e))

  module _ (h : form.places ≤ k) {d : ℕ} (f : d ≡ in_doubt_of form boxes page) where
    held : k ≡ form.places
    held = omega (arith, first-high (fails_at page places) form.places 0)

    pub stands-doubt : d < 20 → {b : Box} → b ≡ box_at boxes d → {n : ℕ} → n ≡ black_in page b → finding in_doubt d 0 0 n form.doubt form.tick ≡ stands
    unfolding standing
    stands-doubt l p q = rw (q, p) (sym (rw (standing, ← e, eq-eqb k form.places held, ← f, ne_eqb d 20 (λ z. omega arith), ← f)))

    module _ (l : 20 ≤ d) where
      none : d ≡ 20
      none = omega (arith, f, first-high (doubts_at page form.doubt form.tick boxes) 20 0)

      pub stands-not-one : (said ≡ 0 → ⊥) → not_one_of page boxes form.tick ≡ stands
      unfolding standing
      stands-not-one z = sym (rw (standing, ← e, eq-eqb k form.places held, ← f, eq-eqb d 20 none, ne_eqb said 0 z))

      pub stands-counted : said ≡ 0 → counted_as heads ≡ stands
      unfolding standing
      stands-counted z = sym (rw (standing, ← e, eq-eqb k form.places held, ← f, eq-eqb d 20 none, eq-eqb said 0 z))

-- ---- By A11's answer

module _ (form : Form) (boxes places : List ℕ) (encoding : EncodingMode) (page : Page) (marks : List ℕ) (h : HeadsAnswer) where
  abbrev all : Finding
  all = tested form boxes places encoding page marks h

  tested-11 : h.number ≡ 11 → plainly 11 ≡ all
  unfolding tested
  tested-11 e = sym (rw (tested, eq-eqb h.number 11 e))

  module _ (n : h.number ≡ 11 → ⊥) where
    tested-13 : h.number ≡ 13 → mended_on page boxes marks ≡ all
    unfolding tested
    tested-13 e = sym (rw (tested, ne_eqb h.number 11 n, eq-eqb h.number 13 e))

    module _ (m : h.number ≡ 13 → ⊥) where
      abbrev row : ℕ
      row = bad_row form boxes places encoding page marks

      tested-row : (row ≡ length page.rows → ⊥) → {y : ℕ} → y ≡ row → finding unclean_row 0 0 (suc y) (get_or marks y 0) 0 0 ≡ all
      unfolding tested
      tested-row r e = rw e (sym (rw (tested, ne_eqb h.number 11 n, ne_eqb h.number 13 m, ne_eqb row (length page.rows) r)))

      tested-standing : row ≡ length page.rows → standing form boxes places page h.number h.heads ≡ all
      unfolding tested standing wrong_at not_one
      tested-standing r = sym (rw (tested, ne_eqb h.number 11 n, ne_eqb h.number 13 m, eq-eqb row (length page.rows) r))

-- the same, as A11 answers on a store
module _ (form : Form) (boxes places : List ℕ) (encoding : EncodingMode) (columns : ℕ) (changes ends marks : List ℕ) (s : Sound columns changes ends marks)
    (long : length marks ≡ length ends) (eighty : length boxes ≡ 80) {said : HeadsAnswer} (a : said ≡ heads_from columns changes ends marks boxes form.tick (pos 0)) where
  abbrev page : Page
  page = page_in columns changes ends

  abbrev whole : Finding
  whole = tested_on form boxes places encoding page marks

  pub sized : Sized columns marks page
  sized = (refl, rows-length 0 changes ends ∙ sym long)

  answered : said ≡ heads_on page marks (form_in boxes) form.tick (pos 0)
  answered = a ∙ sym (from_on columns changes ends marks boxes form.tick (pos 0) s eighty)

  so : tested form boxes places encoding page marks said ≡ whole
  so = ap (tested form boxes places encoding page marks) answered

  pub page-11 : said.number ≡ 11 → plainly 11 ≡ whole
  page-11 e = tested-11 form boxes places encoding page marks said e ∙ so

  pub page-touched : said.number ≡ 13 → first_of (box_touches columns marks boxes) 20 0 < 20
  page-touched e = touched-13 page marks boxes form.tick (pos 0) columns sized (rw answered at e)

  module _ (n : said.number ≡ 11 → ⊥) where
    pub page-13 : said.number ≡ 13 → {r : Finding} → ((p : Page) → Sized columns marks p → r ≡ mended_on p boxes marks) → r ≡ whole
    page-13 e f = f page sized ∙ tested-13 form boxes places encoding page marks said n e ∙ so

    module _ (m : said.number ≡ 13 → ⊥) {y : ℕ} (f : (p : Page) → Sized columns marks p → y ≡ bad_row form boxes places encoding p marks) where
      pub page-row : y < length marks → finding unclean_row 0 0 (suc y) (get_or marks y 0) 0 0 ≡ whole
      page-row l = tested-row form boxes places encoding page marks said n m (λ z. let q = f page sized in let w = sized.1 in omega arith) (f page sized) ∙ so

      pub page-standing : length marks ≤ y → standing form boxes places page said.number said.heads ≡ whole
      page-standing l =
          tested-standing form boxes places encoding page marks said n m
          (let q = f page sized in let w = sized.1 in let u = rests-within form boxes places encoding columns marks page sized in omega arith) ∙ so

-- ---- Whether the boxes and the places are there

module _ (form : Form) (boxes places : List ℕ) (encoding : EncodingMode) (page : Page) (marks : List ℕ) where
  abbrev found : Finding
  found = on_page form boxes places encoding page marks

  pub on-boxes : (length boxes ≡ 80 → ⊥) → plainly bad_form ≡ found
  unfolding on_page
  on-boxes e = sym (rw (on_page, ne_eqb (length boxes) 80 e))

  module _ (e : length boxes ≡ 80) where
    pub on-places : length places / 7 < form.places → plainly bad_form ≡ found
    unfolding on_page
    on-places h = sym (rw (on_page, eq-eqb (length boxes) 80 e, lt-leb form.places (length places / 7) h))

    pub on_both : form.places ≤ length places / 7 → tested_on form boxes places encoding page marks ≡ found
    unfolding on_page
    on_both h = sym (rw (on_page, eq-eqb (length boxes) 80 e, le-leb form.places (length places / 7) h))
