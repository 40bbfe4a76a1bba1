-- The line that a run wrote of a page is read as what it says. Assumes nothing.
use mathlib.Core.Path.{◌≡◌, refl, sym, ap, ap₂, ◌∙◌}
use mathlib.Core.Bool.{Bool, true, false, not, ◌&&◌}
use mathlib.Core.List.{List, [], ◌∷◌, ◌++◌, append_assoc}
use Prim.Native.Nat.{ℕ, ◌+◌, ◌*◌, ◌≤◌, ◌<◌}
use native.Mathlib.Omega.{arith}
use lib.Dec.{eqb, leb}
use lib.ListN.{length, get_or}
use borrow.Author.Tests.{eqb-true, eqb-false, leb-true}
use Rattle.listing_text.specs.Text.{ascii, tab, decimal}
use Rattle.form_file.specs.Words.{same, none}
use Rattle.form_file.proofs.Wording.{same_self}
use Rattle.ledger.specs.Books.{is_counted, left, is_below, size}
use Rattle.ledger.specs.Phrases.{words, phrase, one, plain_at, missing_at, is_units, is_of_one_number, is_of_no_line, reason_at}
use Rattle.ledger.specs.Said.{fill, numbers, shown, reason_with}
use Rattle.ledger.specs.Lines.{bare_line}
use Rattle.ledger.proofs.Lacking.{lacks, lacks-append, piece_then, piece-alone}
use Rattle.ledger.proofs.Whole.{length-shown}
use Rattle.ledger.specs.declared.Ledger.{Ledger}
use Rattle.ledger.specs.declared.Verdict.{Verdict}
use Rattle.ledger_file.specs.Fields.{fields_of, field, number_in}
use Rattle.ledger_file.specs.Page.{page, page_line_of}
use Rattle.ledger_file.specs.Resume.{left_text}
use Rattle.ledger_file.specs.Total.{is_total_words}
use Rattle.form_file.specs.Steps.{ahead}
use Rattle.ledger_file.proofs.Numerals.{number-decimal}
use Rattle.ledger_file.proofs.TotalWords.{reason-words}
use Rattle.ledger_file.proofs.Paging.{refused-so, counted-so}
use Rattle.ledger_file.proofs.Tabless.{tabless, decimal-tabless, shown-tabless, phrase-tabless}

-- ---- The reason has no tab

plain-high : (n : ℕ) → (n ≡ 0 → ⊥) → 8 ≤ plain_at n
unfolding plain_at
plain-high n h = by (leb n 25) (leb 32 n) (leb n 48) (leb-true 32 n)
  where
    by : (r s t : Bool) → (s ≡ true → 32 ≤ n) → 8 ≤ elim r [ true ↦ 7 + n | false ↦ elim (s && t) [ true ↦ 1 + n | false ↦ 16 ] ]
    by true s t f = above n h
      where
        above : (k : ℕ) → (k ≡ 0 → ⊥) → 8 ≤ 7 + k
        above k g = omega arith
    by false true true f = omega (arith, f refl)
    by false true false f = omega arith
    by false false t f = omega arith

missing-high : (v : Verdict) → 8 ≤ missing_at v
unfolding missing_at
missing-high v = by (leb 20 v.which) (eqb v.which 20) (eqb v.which 21)
  where
    by : (s t u : Bool) → 8 ≤ elim s [ true ↦ elim t [ true ↦ 64 | false ↦ elim u [ true ↦ 65 | false ↦ 66 ] ] | false ↦ 67 + one (is_units v) ]
    by true true u = omega arith
    by true false true = omega arith
    by true false false = omega arith
    by false t u = omega arith

either : (t : Bool) (a b : ℕ) → 8 ≤ a → 8 ≤ b → 8 ≤ elim t [ true ↦ a | false ↦ b ]
either true a b p q = p
either false a b p q = q

reason-high : (v : Verdict) → (v.number ≡ 0 → ⊥) → 8 ≤ reason_at v
unfolding reason_at
reason-high v h =
    either (eqb v.number 12) _ _ (omega arith)
    (either (eqb v.number 13) _ _ (omega arith)
    (either (eqb v.number 19) _ _ (omega arith)
    (either (eqb v.number 22) _ _ (omega arith)
    (either (eqb v.number 36) _ _ (missing-high v)
    (either (is_of_one_number v) _ _ (omega arith) (either (is_of_no_line v) _ _ (omega arith) (plain-high v.number h)))))))

reason-tabless : (v : Verdict) (ns : List ℕ) → tabless (reason_with v ns) ≡ true
unfolding lacks
reason-tabless v ns = by (is_counted v) refl
  where
    by : (t : Bool) → is_counted v ≡ t → tabless (elim t [ true ↦ [] | false ↦ fill ns (phrase (reason_at v)) ]) ≡ true
    by true e = refl
    by false e = phrase-tabless ns (reason_at v) (reason-high v (eqb-false v.number 0 e))

-- ---- The fields of a page's line

abbrev pub heads_text : Verdict → List ℕ
heads_text v = elim (is_counted v) [ true ↦ decimal v.heads | false ↦ 45 ∷ [] ]

-- four fields, and words
abbrev front : List ℕ → List ℕ → List ℕ → List ℕ → List ℕ
front number heads quota words = tab ∷ (number ++ tab ∷ (heads ++ tab ∷ (quota ++ tab ∷ words)))

module _ (v : Verdict) (b : Ledger) where
  record Fronted (s t : Bool) : Type 0 where
    words_are : List ℕ
    words-tabless : tabless words_are ≡ true
    not-total : (r : List ℕ) → is_total_words (words_are ++ r) ≡ false
    is :
        fill (numbers v b) (phrase (2 * one (not s) + one t))
        ≡ front (decimal v.number) (elim s [ true ↦ decimal v.heads | false ↦ 45 ∷ [] ])
        (elim t [ true ↦ 45 ∷ decimal (size (left b)) | false ↦ decimal (size (left b)) ])
        words_are

  fronted : (s t : Bool) → Fronted s t
  unfolding fill words ascii lacks is_total_words ahead
  fronted true false = record { words_are = ascii "counted"; words-tabless = refl; not-total = λ r. refl; is = refl }
  fronted true true = record {
    words_are = ascii "over by " ++ (decimal (size (left b)) ++ []);
    words-tabless = lacks-append tab (decimal (size (left b))) [] (decimal-tabless (size (left b))) refl;
    not-total = λ r. refl;
    is = refl;
  }
  fronted false false = record {
    words_are = decimal v.number ++ ascii ": ";
    words-tabless = lacks-append tab (decimal v.number) (ascii ": ") (decimal-tabless v.number) refl;
    not-total = λ r. ap is_total_words (append_assoc (decimal v.number) (ascii ": ") r) ∙ reason-words v.number (32 ∷ r);
    is = refl;
  }
  fronted false true = record {
    words_are = decimal v.number ++ ascii ": ";
    words-tabless = lacks-append tab (decimal v.number) (ascii ": ") (decimal-tabless v.number) refl;
    not-total = λ r. ap is_total_words (append_assoc (decimal v.number) (ascii ": ") r) ∙ reason-words v.number (32 ∷ r);
    is = refl;
  }

  heads-tabless : tabless (heads_text v) ≡ true
  unfolding lacks
  heads-tabless = by (is_counted v)
    where
      by : (t : Bool) → tabless (elim t [ true ↦ decimal v.heads | false ↦ 45 ∷ [] ]) ≡ true
      by true = decimal-tabless v.heads
      by false = refl

  pub left-tabless : tabless (left_text b) ≡ true
  unfolding lacks
  left-tabless = by (is_below (left b))
    where
      by : (t : Bool) → tabless (elim t [ true ↦ 45 ∷ decimal (size (left b)) | false ↦ decimal (size (left b)) ]) ≡ true
      by true = decimal-tabless (size (left b))
      by false = decimal-tabless (size (left b))

  pub record Fielded (name : List ℕ) : Type 0 where
    pub words_are : List ℕ
    pub not-total : is_total_words words_are ≡ false
    pub others : List ℕ
    pub is : bare_line name v b ≡ shown name ++ tab ∷ others
    pub fields : fields_of (bare_line name v b) ≡ shown name ∷ decimal v.number ∷ heads_text v ∷ left_text b ∷ words_are ∷ []

  pub fielded : (name : List ℕ) → Fielded name
  unfolding bare_line
  fielded name =
      let f = fronted (is_counted v) (is_below (left b)) in
      let r = reason_with v (numbers v b) in
      let n = decimal v.number in
      let h = heads_text v in
      let q = left_text b in
      let w = f.words_are in
      let o = n ++ tab ∷ (h ++ tab ∷ (q ++ tab ∷ (w ++ r))) in
      let z : (n ++ tab ∷ (h ++ tab ∷ (q ++ tab ∷ w))) ++ r ≡ n ++ tab ∷ (h ++ tab ∷ (q ++ tab ∷ (w ++ r))) = simp append_assoc in
      let i : bare_line name v b ≡ shown name ++ tab ∷ (n ++ tab ∷ (h ++ tab ∷ (q ++ tab ∷ (w ++ r)))) =
      ap (λ (l : List ℕ). shown name ++ (l ++ r)) f.is ∙ ap (λ (l : List ℕ). shown name ++ tab ∷ l) z in record {
        words_are = w ++ r;
        not-total = f.not-total r;
        others = o;
        is = i;
        fields =
            ap fields_of i
            ∙ piece_then tab (shown name) o (shown-tabless name)
            ∙ ap (λ (fs : List (List ℕ)). shown name ∷ fs)
            (piece_then tab n (h ++ tab ∷ (q ++ tab ∷ (w ++ r))) (decimal-tabless v.number)
            ∙ ap (λ (fs : List (List ℕ)). n ∷ fs)
            (piece_then tab h (q ++ tab ∷ (w ++ r)) heads-tabless
            ∙ ap (λ (fs : List (List ℕ)). h ∷ fs)
            (piece_then tab q (w ++ r) left-tabless
            ∙ ap (λ (fs : List (List ℕ)). q ∷ fs) (piece-alone tab (w ++ r) (lacks-append tab w r f.words-tabless (reason-tabless v (numbers v b)))))));
      }

-- ---- What is read of it

abbrev pub heads_read : Verdict → ℕ
heads_read v = elim (is_counted v) [ true ↦ v.heads | false ↦ 0 ]

pub reread : (name : List ℕ) (v : Verdict) (b : Ledger) → v.number < none → (is_counted v ≡ true → v.heads < none) → page_line_of (bare_line name v b) ≡ page (length name) v.number (heads_read v)
reread name v b hn hh = by (is_counted v) refl
  where
    line : List ℕ
    line = bare_line name v b

    at : (k : ℕ) → field k (bare_line name v b) ≡ get_or (shown name ∷ decimal v.number ∷ heads_text v ∷ left_text b ∷ (fielded v b name).words_are ∷ []) k []
    at k = ap (λ (fs : List (List ℕ)). get_or fs k []) (fielded v b name).fields

    five : length (fields_of (bare_line name v b)) ≡ 5
    five = ap length (fielded v b name).fields

    number : number_in (field 1 (bare_line name v b)) ≡ v.number
    number = ap number_in (at 1) ∙ number-decimal v.number hn

    long : length (field 0 (bare_line name v b)) ≡ length name
    long = ap length (at 0) ∙ length-shown name

    by : (t : Bool) → is_counted v ≡ t → page_line_of (bare_line name v b) ≡ page (length name) v.number (elim t [ true ↦ v.heads | false ↦ 0 ])
    by true e =
        let z : v.number ≡ 0 = eqb-true v.number 0 e in
        let h : number_in (field 2 (bare_line name v b)) ≡ v.heads = ap number_in (at 2 ∙ ap (λ (t : Bool). elim t [ true ↦ decimal v.heads | false ↦ 45 ∷ [] ]) e) ∙ number-decimal v.heads (hh e) in
        sym (counted-so (bare_line name v b) five (omega (arith, number)) (number ∙ z) (omega (arith, h, hh e)))
        ∙ ap₂ (λ (x y : ℕ). page x 0 y) long h
        ∙ ap (λ (x : ℕ). page (length name) x v.heads) (sym z)
    by false e =
        let z : v.number ≡ 0 → ⊥ = eqb-false v.number 0 e in
        let h : same (field 2 (bare_line name v b)) (45 ∷ []) ≡ true = ap (λ (l : List ℕ). same l (45 ∷ [])) (at 2 ∙ ap (λ (t : Bool). elim t [ true ↦ decimal v.heads | false ↦ 45 ∷ [] ]) e) ∙ same_self (45 ∷ []) in
        sym (refused-so (bare_line name v b) five (omega (arith, number)) (λ y. z (sym number ∙ y)) h) ∙ ap₂ (λ (x y : ℕ). page x y 0) long number
