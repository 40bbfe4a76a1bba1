-- The total's line that a run wrote is read as one. Assumes nothing.
use mathlib.Core.Path.{◌≡◌, refl, sym, ap, ◌∙◌}
use mathlib.Core.Bool.{Bool, true, false}
use mathlib.Core.List.{List, [], ◌∷◌, ◌++◌}
use Prim.Native.Nat.{ℕ, ◌+◌, ◌-◌, ◌*◌, ◌<◌}
use lib.Dec.{eqb}
use borrow.Author.Tests.{eqb-true}
use lib.ListN.{length, get_or}
use Rattle.listing_text.specs.Text.{ascii, tab, decimal}
use Rattle.form_file.specs.Steps.{ahead}
use Rattle.form_file.specs.Words.{same, none, value_from}
use Rattle.form_file.proofs.Wording.{same_self}
use Rattle.ledger.specs.Books.{left, is_below, size}
use Rattle.ledger.specs.Phrases.{words, phrase, one}
use Rattle.ledger.specs.Said.{fill, numbers, no_verdict, filled_with, total_at}
use Rattle.ledger.proofs.Lacking.{lacks, lacks-append, piece_then, piece-alone}
use Rattle.ledger.specs.declared.Ledger.{Ledger}
use Rattle.ledger_file.specs.Fields.{fields_of, field, number_in}
use Rattle.ledger_file.specs.Resume.{left_text}
use Rattle.ledger_file.specs.Total.{is_total_words, is_total, number_ahead, total_pages}
use Rattle.ledger_file.proofs.Numerals.{number-decimal}
use Rattle.ledger_file.proofs.Rereading.{left-tabless}
use Rattle.ledger_file.proofs.Tabless.{tabless, decimal-tabless}
use Rattle.ledger_file.proofs.Totalling.{total-so}
use Rattle.ledger_file.proofs.TotalWords.{total-words-so, number-ahead-so}

module _ (b : Ledger) where
  -- pages counted, to be looked at, and by how much the quota is passed
  abbrev counted : List ℕ
  counted = decimal (b.pages - b.looked)

  abbrev looked : List ℕ
  looked = decimal b.looked

  abbrev sized : List ℕ
  sized = decimal (size (left b))

  abbrev behind : List ℕ
  behind = counted ++ (ascii " counted, " ++ (looked ++ ascii " to be looked at"))

  abbrev behind-over : List ℕ
  behind-over = counted ++ (ascii " counted, " ++ (looked ++ (ascii " to be looked at; over by " ++ (sized ++ []))))

  behind-tabless : tabless behind ≡ true
  unfolding lacks ascii
  behind-tabless =
      lacks-append tab counted (ascii " counted, " ++ (looked ++ ascii " to be looked at")) (decimal-tabless (b.pages - b.looked))
      (lacks-append tab looked (ascii " to be looked at") (decimal-tabless b.looked) refl)

  over-tabless : tabless behind-over ≡ true
  unfolding lacks ascii
  over-tabless =
      lacks-append tab counted (ascii " counted, " ++ (looked ++ (ascii " to be looked at; over by " ++ (sized ++ [])))) (decimal-tabless (b.pages - b.looked))
      (lacks-append tab looked (ascii " to be looked at; over by " ++ (sized ++ [])) (decimal-tabless b.looked) (lacks-append tab sized [] (decimal-tabless (size (left b))) refl))

  record Fronted (x y : Bool) : Type 0 where
    words_are : List ℕ
    words-tabless : tabless words_are ≡ true
    of-total : is_total_words words_are ≡ true
    of-pages : b.pages < none → number_ahead words_are ≡ elim x [ true ↦ 1 | false ↦ b.pages ]
    is :
        fill (numbers no_verdict b) (phrase (4 + 2 * one x + one y))
        ≡ ascii "total" ++ tab ∷ (looked ++ tab ∷ (decimal b.heads ++ tab ∷ (elim y [ true ↦ 45 ∷ sized | false ↦ sized ] ++ tab ∷ words_are)))

  fronted : (x y : Bool) → Fronted x y
  unfolding fill words ascii lacks is_total_words ahead same value_from
  fronted false false = record {
    words_are = decimal b.pages ++ (ascii " pages, " ++ behind);
    words-tabless = lacks-append tab (decimal b.pages) (ascii " pages, " ++ behind) (decimal-tabless b.pages) behind-tabless;
    of-total = total-words-so b.pages (ascii "s, " ++ behind);
    of-pages = number-ahead-so b.pages (ascii "pages, " ++ behind);
    is = refl;
  }
  fronted false true = record {
    words_are = decimal b.pages ++ (ascii " pages, " ++ behind-over);
    words-tabless = lacks-append tab (decimal b.pages) (ascii " pages, " ++ behind-over) (decimal-tabless b.pages) over-tabless;
    of-total = total-words-so b.pages (ascii "s, " ++ behind-over);
    of-pages = number-ahead-so b.pages (ascii "pages, " ++ behind-over);
    is = refl;
  }
  fronted true false = record { words_are = ascii "1 page, " ++ behind; words-tabless = behind-tabless; of-total = refl; of-pages = λ l. refl; is = refl }
  fronted true true = record { words_are = ascii "1 page, " ++ behind-over; words-tabless = over-tabless; of-total = refl; of-pages = λ l. refl; is = refl }

  abbrev pub total_bare : List ℕ
  total_bare = filled_with no_verdict b (total_at b)

  pub record Totalled : Type 0 where
    pub is-total : is_total total_bare ≡ true
    pub looked-is : number_in (field 1 total_bare) ≡ b.looked
    pub heads-is : number_in (field 2 total_bare) ≡ b.heads
    pub pages-is : total_pages total_bare ≡ b.pages

  fields-are : fields_of total_bare ≡ ascii "total" ∷ looked ∷ decimal b.heads ∷ left_text b ∷ (fronted (eqb b.pages 1) (is_below (left b))).words_are ∷ []
  unfolding lacks ascii
  fields-are =
      let f = fronted (eqb b.pages 1) (is_below (left b)) in
      let h = decimal b.heads in
      let q = left_text b in
      let w = f.words_are in
      ap fields_of f.is
      ∙ piece_then tab (ascii "total") (looked ++ tab ∷ (h ++ tab ∷ (q ++ tab ∷ w))) refl
      ∙ ap (λ (fs : List (List ℕ)). ascii "total" ∷ fs)
      (piece_then tab looked (h ++ tab ∷ (q ++ tab ∷ w)) (decimal-tabless b.looked)
      ∙ ap (λ (fs : List (List ℕ)). looked ∷ fs)
      (piece_then tab h (q ++ tab ∷ w) (decimal-tabless b.heads)
      ∙ ap (λ (fs : List (List ℕ)). h ∷ fs) (piece_then tab q w (left-tabless no_verdict b) ∙ ap (λ (fs : List (List ℕ)). q ∷ fs) (piece-alone tab w f.words-tabless))))

  -- `1 page` is said of one
  one-said : elim (eqb b.pages 1) [ true ↦ 1 | false ↦ b.pages ] ≡ b.pages
  one-said = by (eqb b.pages 1) refl
    where
      by : (t : Bool) → eqb b.pages 1 ≡ t → elim t [ true ↦ 1 | false ↦ b.pages ] ≡ b.pages
      by true e = sym (eqb-true b.pages 1 e)
      by false e = refl

  pub totalled : b.looked < none → b.heads < none → b.pages < none → Totalled
  totalled hl hh hp = record {
    is-total =
        total-so total_bare (ap length fields-are) (ap (λ (fs : List (List ℕ)). same (get_or fs 0 []) (ascii "total")) fields-are ∙ same_self (ascii "total"))
        (ap (λ (fs : List (List ℕ)). is_total_words (get_or fs 4 [])) fields-are ∙ (fronted (eqb b.pages 1) (is_below (left b))).of-total);
    looked-is = ap (λ (fs : List (List ℕ)). number_in (get_or fs 1 [])) fields-are ∙ number-decimal b.looked hl;
    heads-is = ap (λ (fs : List (List ℕ)). number_in (get_or fs 2 [])) fields-are ∙ number-decimal b.heads hh;
    pages-is = ap (λ (fs : List (List ℕ)). number_ahead (get_or fs 4 [])) fields-are ∙ (fronted (eqb b.pages 1) (is_below (left b))).of-pages hp ∙ one-said;
  }
