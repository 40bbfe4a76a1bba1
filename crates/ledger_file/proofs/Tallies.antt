-- Laws of one line more, case by case. Assumes nothing.
use mathlib.Core.Path.{◌≡◌, refl, sym, ap, ap₂, ◌∙◌, subst}
use mathlib.Core.Bool.{Bool, true, false, ◌&&◌}
use mathlib.Core.List.{List, [], ◌∷◌, ◌++◌}
use Prim.Native.Nat.{ℕ, suc, ◌+◌, ◌-◌, ◌≤◌, ◌<◌}
use native.Mathlib.Omega.{arith}
use lib.Dec.{eqb, ltb}
use lib.ListN.{length, get_or, take, drop, set, length-set, length-drop}
use lib.Seq.{length-take-le, get_or-take, get_or-drop, take-suc-set, drop-set-lt, get_or-set_same, get_or-set_other}
use borrow.Author.Tests.{eq-eqb, ne_eqb, lt-ltb, le-ltb, ltb-true, ltb-false, eqb-true}
use Rattle.form_file.specs.First.{first_of}
use Rattle.form_file.specs.Words.{same}
use Rattle.form_file.proofs.Firsts.{first-same}
use Rattle.ledger.specs.Books.{booked, has_room, booked_in}
use Rattle.ledger.specs.declared.Ledger.{Ledger}
use Rattle.ledger.specs.declared.Verdict.{Verdict}
use Rattle.ledger_file.specs.Fields.{fields_of, field, number_in, is_number}
use Rattle.ledger_file.specs.Page.{no_page, page, refused_page, counted_page, page_line_of}
use Rattle.ledger_file.specs.Resume.{verdict_of, verdict_in}
use Rattle.ledger_file.specs.Total.{is_total, total_pages}
use Rattle.ledger_file.specs.Sums.{Sum, Went, on, wrong, name_at, namesake, page_taken, total_taken, taken}
use Rattle.ledger_file.specs.Tallying.{Tabbed, sum_in, Standing, Onward, Stopped}
use Rattle.ledger_file.specs.declared.PageLine.{PageLine}
use Rattle.ledger_file.specs.declared.tally.Tally.{Tally}
use Rattle.ledger_file.proofs.Names.{fronts}

-- ---- A page's line

pub booked-pages : (b : Ledger) (v : Verdict) → (booked b v).pages ≡ suc b.pages
unfolding booked
booked-pages b v = by (eqb v.number 0)
  where
    by : (t : Bool)
        → (elim t as (λ (_ : Bool). Ledger) [
          | true ↦ record { quota = b.quota; heads = b.heads + v.heads; pages = suc b.pages; looked = b.looked }
          | false ↦ record { quota = b.quota; heads = b.heads; pages = suc b.pages; looked = suc b.looked }
        ]).pages
        ≡ suc b.pages
    by true = refl
    by false = refl

module _ (text : List ℕ) (at : ℕ) (v : Verdict) (t : Tally) (starts : List ℕ) (st : Standing text t.books.pages starts) where
  abbrev pages : ℕ
  pages = t.books.pages

  abbrev those : List ℕ
  those = take t.books.pages starts

  many : length those ≡ t.books.pages
  many = length-take-le t.books.pages starts st.fits

  abbrev went : Went
  went = page_taken text (length starts) at v (sum_in t starts)

  pub page-roomless : length starts ≤ t.books.pages → Stopped went starts 5 0 starts
  unfolding page_taken
  page-roomless l = record { is = rw (page_taken, many, le-ltb t.books.pages (length starts) l); same = refl }

  module _ (l : t.books.pages < length starts) {k : ℕ} (e : k ≡ first_of (λ j. same (name_at text (get_or starts j 0)) (name_at text at)) t.books.pages 0) where
    first-is : namesake text at those ≡ k
    first-is =
        ap (λ (n : ℕ). first_of (λ j. same (name_at text (get_or those j 0)) (name_at text at)) n 0) many
        ∙ first-same (λ j. same (name_at text (get_or those j 0)) (name_at text at)) (λ j. same (name_at text (get_or starts j 0)) (name_at text at)) t.books.pages 0
        (λ j a b. ap (λ (s : ℕ). same (name_at text s) (name_at text at)) (get_or-take t.books.pages starts j 0 (omega arith)))
        ∙ sym e

    abbrev by_tests : Bool → ℕ → Bool → Bool → Went
    by_tests r other twice room =
        elim r [
          | false ↦ wrong 5 0
          | true ↦
              elim twice [
                | true ↦ wrong 4 other
                | false ↦
                    elim room [
                      | false ↦ wrong 6 0
                      | true ↦ on (record { books = booked t.books v; closed = t.closed; starts = those ++ at ∷ [] })
                    ]
              ]
        ]

    tested : {twice room : Bool} → ltb k t.books.pages ≡ twice → has_room t.books v ≡ room → went ≡ by_tests true (get_or those k 0) twice room
    unfolding page_taken
    tested {twice} {room} a b =
        ap₂ (λ (m j : ℕ). by_tests (ltb m (length starts)) (get_or those j 0) (ltb j m) (has_room t.books v)) many first-is
        ∙ ap₂ (λ (r w : Bool). by_tests r (get_or those k 0) w (has_room t.books v)) (lt-ltb t.books.pages (length starts) l) a
        ∙ ap (by_tests true (get_or those k 0) twice) b

    pub page-twice : k < t.books.pages → Stopped went starts 4 (get_or starts k 0) starts
    page-twice h = record { is = tested (lt-ltb k t.books.pages h) refl ∙ ap (wrong 4) (get_or-take t.books.pages starts k 0 h); same = refl }

    module _ (h : t.books.pages ≤ k) where
      pub page-full : has_room t.books v ≡ false → Stopped went starts 6 0 starts
      page-full f = record { is = tested (le-ltb k t.books.pages h) f; same = refl }

      module _ (f : has_room t.books v ≡ true) {b : Ledger} (e' : b ≡ booked_in t.books v) (tb : Tabbed text at) where
        behind-is : b ≡ booked t.books v
        unfolding booked_in
        behind-is = e' ∙ rw (booked_in, f)

        one_more : b.pages ≡ suc t.books.pages
        one_more = ap (λ (x : Ledger). x.pages) behind-is ∙ booked-pages t.books v

        abbrev after : List ℕ
        after = set starts t.books.pages at

        taken_more : take b.pages after ≡ those ++ at ∷ []
        taken_more = ap (λ (n : ℕ). take n after) one_more ∙ take-suc-set starts t.books.pages at l

        pub page-on : Onward text went t.books.pages starts (record { books = b; closed = t.closed }) (set starts t.books.pages at)
        page-on = record {
          is =
              tested (le-ltb k t.books.pages h) f
              ∙ ap₂ (λ (x : Ledger) (s : List ℕ). on (record { books = x; closed = t.closed; starts = s })) (sym behind-is) (sym taken_more);
          more = omega (arith, one_more);
          behind = drop-set-lt b.pages starts t.books.pages at (omega (arith, one_more));
          stands = record { fits = omega (arith, one_more, length-set starts t.books.pages at); tabbed = each };
        }
          where
            each : (j : ℕ) → j < b.pages → Tabbed text (get_or (set starts t.books.pages at) j 0)
            each j q = by (ltb j t.books.pages) refl
              where
                by : (w : Bool) → ltb j t.books.pages ≡ w → Tabbed text (get_or (set starts t.books.pages at) j 0)
                by true p = subst (Tabbed text) (sym (get_or-set_other starts t.books.pages j at 0 (λ z. omega (arith, ltb-true j t.books.pages p)))) (st.tabbed j (ltb-true j t.books.pages p))
                by false p =
                    let z : j ≡ t.books.pages = omega (arith, one_more, ltb-false j t.books.pages p) in
                    subst (Tabbed text) (sym (ap (λ (i : ℕ). get_or (set starts t.books.pages at) i 0) z ∙ get_or-set_same starts t.books.pages at 0 l)) tb

-- ---- A total's line

module _ (line : List ℕ) (t : Tally) (text starts : List ℕ) (st : Standing text t.books.pages starts) where
  abbrev told_is : Bool → Bool → Bool → Went
  told_is x y z = elim (x && (y && z)) [ true ↦ on (record { books = t.books; closed = t.books; starts = take t.books.pages starts }) | false ↦ wrong 2 0 ]

  total-tested : {x y z : Bool} → eqb (number_in (field 1 line)) (t.books.looked - t.closed.looked) ≡ x → eqb (number_in (field 2 line)) (t.books.heads - t.closed.heads) ≡ y
      → eqb (total_pages line) (t.books.pages - t.closed.pages) ≡ z → total_taken line (sum_in t starts) ≡ told_is x y z
  unfolding total_taken
  total-tested {x} {y} {z} p q r = ap₂ (λ (a b : Bool). told_is a b (eqb (total_pages line) (t.books.pages - t.closed.pages))) p q ∙ ap (told_is x y) r

  module _ {m n : ℕ} (em : m ≡ number_in (field 1 line)) (en : n ≡ t.books.looked - t.closed.looked) where
    pub total-looked : (m ≡ n → ⊥) → Stopped (total_taken line (sum_in t starts)) starts 2 0 starts
    total-looked d = record { is = total-tested (ne_eqb _ _ (λ z. d (em ∙ z ∙ sym en))) refl refl; same = refl }

    module _ (d : m ≡ n) {p q : ℕ} (ep : p ≡ number_in (field 2 line)) (eq : q ≡ t.books.heads - t.closed.heads) where
      pub total-heads : (p ≡ q → ⊥) → Stopped (total_taken line (sum_in t starts)) starts 2 0 starts
      total-heads f = record { is = total-tested (eq-eqb _ _ (sym em ∙ d ∙ en)) (ne_eqb _ _ (λ z. f (ep ∙ z ∙ sym eq))) refl; same = refl }

      module _ (f : p ≡ q) {k l : ℕ} (ek : k ≡ total_pages line) (el : l ≡ t.books.pages - t.closed.pages) where
        pub total-pages : (k ≡ l → ⊥) → Stopped (total_taken line (sum_in t starts)) starts 2 0 starts
        total-pages g = record { is = total-tested (eq-eqb _ _ (sym em ∙ d ∙ en)) (eq-eqb _ _ (sym ep ∙ f ∙ eq)) (ne_eqb _ _ (λ z. g (ek ∙ z ∙ sym el))); same = refl }

        pub total-on : k ≡ l → Onward text (total_taken line (sum_in t starts)) t.books.pages starts (record { books = t.books; closed = t.books }) starts
        total-on g = record {
          is = total-tested (eq-eqb _ _ (sym em ∙ d ∙ en)) (eq-eqb _ _ (sym ep ∙ f ∙ eq)) (eq-eqb _ _ (sym ek ∙ g ∙ el));
          more = omega arith;
          behind = refl;
          stands = st;
        }

-- ---- Any line

module _ (text : List ℕ) (room at : ℕ) (line : List ℕ) (s : Sum) where
  abbrev by-line : Bool → Bool → Went
  by-line x y = elim x [ true ↦ total_taken line s | false ↦ elim y [ true ↦ page_taken text room at (verdict_in (page_line_of line)) s | false ↦ wrong 1 0 ] ]

  line-tested : {x y : Bool} → is_total line ≡ x → (page_line_of line).good ≡ y → taken text room at line s ≡ by-line x y
  unfolding taken
  line-tested p q = ap₂ by-line p q

  pub takes-total : is_total line ≡ true → taken text room at line s ≡ total_taken line s
  takes-total e = line-tested e refl

  module _ (n : is_total line ≡ false) {p : PageLine} (e : p ≡ page_line_of line) where
    pub takes_none : p.good ≡ false → taken text room at line s ≡ wrong 1 0
    takes_none g = line-tested n (ap (λ (q : PageLine). q.good) (sym e) ∙ g)

    pub takes-page : p.good ≡ true → {v : Verdict} → v ≡ verdict_of p.number p.heads → taken text room at line s ≡ page_taken text room at v s
    takes-page g {v} d =
        line-tested n (ap (λ (q : PageLine). q.good) (sym e) ∙ g) ∙ ap (λ (w : Verdict). page_taken text room at w s) (sym (d ∙ ap verdict_in e))

-- ---- The name of a page's line

abbrev read_by : List ℕ → Bool → Bool → Bool → Bool → Bool → PageLine
read_by line a b c d e =
    elim a [
      | true ↦
          elim b [
            | true ↦
                elim c [
                  | true ↦ elim d [ true ↦ page (length (field 0 line)) 0 (number_in (field 2 line)) | false ↦ no_page ]
                  | false ↦ elim e [ true ↦ page (length (field 0 line)) (number_in (field 1 line)) 0 | false ↦ no_page ]
                ]
            | false ↦ no_page
          ]
      | false ↦ no_page
    ]

page-good : (line : List ℕ) → (page_line_of line).good ≡ true → (length (fields_of line) ≡ 5) × ((page_line_of line).name ≡ length (field 0 line))
unfolding page_line_of counted_page refused_page
page-good line =
    by (eqb (length (fields_of line)) 5) (is_number (field 1 line)) (eqb (number_in (field 1 line)) 0) (is_number (field 2 line)) (same (field 2 line) (45 ∷ [])) (eqb-true (length (fields_of line)) 5)
  where
    by : (a b c d e : Bool) → (a ≡ true → length (fields_of line) ≡ 5) → (read_by line a b c d e).good ≡ true → (length (fields_of line) ≡ 5) × ((read_by line a b c d e).name ≡ length (field 0 line))
    by true true true true e f g = (f refl, refl)
    by true true true false e f g = absurd (let z : ◌≡◌ {A = ℕ} 0 1 = cc in omega arith)
    by true true false d true f g = (f refl, refl)
    by true true false d false f g = absurd (let z : ◌≡◌ {A = ℕ} 0 1 = cc in omega arith)
    by true false c d e f g = absurd (let z : ◌≡◌ {A = ℕ} 0 1 = cc in omega arith)
    by false b c d e f g = absurd (let z : ◌≡◌ {A = ℕ} 0 1 = cc in omega arith)

-- a tab ends the name, where the line that begins at a place is a page's
pub page-tabbed : (text : List ℕ) (at n : ℕ) {p : PageLine} → p ≡ page_line_of (take n (drop at text)) → p.good ≡ true → Tabbed text at × (p.name ≡ length (name_at text at))
page-tabbed text at n {p} e g =
    let r = page-good (take n (drop at text)) (ap (λ (q : PageLine). q.good) (sym e) ∙ g) in
    let f = fronts n (drop at text) (omega (arith, r.0)) in (
      record { inside = omega (arith, f.inside, length-drop at text); tab-is = sym (get_or-drop at text (length (name_at text at)) 0) ∙ f.tab-is },
      ap (λ (q : PageLine). q.name) e ∙ r.1 ∙ ap length f.is,
    )
